-- Following links in a circle comes to no end.
use Rattle.std.proofs.Common.{◌≡◌, ◌⊎◌, inl, inr, [], ◌∷◌, Option, Some, None, ap, codes, refl, sym, ◌∙◌}
use Rattle.laws_answers.proofs.Answers.{good-kept}
use Rattle.tt_vars.proofs.FrameLemmas.{none_is_some, same_some}
use Rattle.laws_answers.proofs.PureTable.{pure_answers}
use Rattle.laws_answers.proofs.Standing.{stands}
use Rattle.laws_answers.specs.Circles.{CirclesLaw, circle}
use Rattle.tt_vars.specs.Links.{StandsFor, at, itself, linked, nothing, onward, place_of}
use Rattle.tt_vars.specs.Variables.{leads}
use Rattle.tt_vars.specs.declared.variable.Place.{Place}

abbrev a : Place
a = place_of 0 (codes "a") None

abbrev b : Place
b = place_of 0 (codes "b") None

a-leads : (place : Place) → place ≡ a → leads (at (circle ∷ []) place) ≡ Some (Some b)
a-leads place is = ap (λ p. leads (at (circle ∷ []) p)) is

b-leads : (place : Place) → place ≡ b → leads (at (circle ∷ []) place) ≡ Some (Some a)
b-leads place is = ap (λ p. leads (at (circle ∷ []) p)) is

next-is : (place next other : Place) (to : Option Place) → leads (at (circle ∷ []) place) ≡ Some (Some other) → place.index ≡ None
    → leads (at (circle ∷ []) place) ≡ Some to → onward to place.index ≡ Some next → next ≡ other
next-is place next other to there bare is goes =
    sym (same_some (sym (ap (onward (Some other)) bare) ∙ ap (λ t. onward t place.index) (same_some (sym there ∙ is)) ∙ goes))

never : (place : Place) (answer : Option Place) → (place ≡ a) ⊎ (place ≡ b) → StandsFor (circle ∷ []) place answer → ⊥
never place answer (inl is) (itself ends) = none_is_some (sym ends ∙ a-leads place is)
never place answer (inr is) (itself ends) = none_is_some (sym ends ∙ b-leads place is)
never place answer (inl is) (nothing {to = to} led ends) =
    none_is_some (sym ends ∙ ap (λ t. onward t place.index) (same_some (sym led ∙ a-leads place is)) ∙ ap (λ p. onward (Some b) p.index) is)
never place answer (inr is) (nothing {to = to} led ends) =
    none_is_some (sym ends ∙ ap (λ t. onward t place.index) (same_some (sym led ∙ b-leads place is)) ∙ ap (λ p. onward (Some a) p.index) is)
never place answer (inl is) (linked {next = next} {to = to} led goes rest) =
    never next answer (inr (next-is place next b to (a-leads place is) (ap (λ p. p.index) is) led goes)) rest
never place answer (inr is) (linked {next = next} {to = to} led goes rest) =
    never next answer (inl (next-is place next a to (b-leads place is) (ap (λ p. p.index) is) led goes)) rest

pub circles : CirclesLaw
circles = record {
  unanswered = λ got new is. never a is.1.1.0 (inl refl) is.1.1.1;
  unkept = λ setup me may.
      let to = stands (circle ∷ []) a (good-kept pure_answers setup me _ may).sound.ends in
      never a to.0 (inl refl) to.1;
}
