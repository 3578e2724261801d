-- What is done to a variable has one outcome (upvar(n), set(n), unset(n)).
use Rattle.std.proofs.Common.{◌≡◌, ◌∙◌, ℕ, false, true, List, Option, Some, None, Result, Ok, Err, IsOk, length, refl, ap, sym, subst}
use Rattle.tt_vars.specs.declared.answers.Linked.{Linked}
use Rattle.tt_vars.specs.declared.answers.VarFault.{VarFault}
use Rattle.tt_vars.specs.declared.variable.Place.{Place}
use Rattle.tt_vars.specs.Variables.{Name, Frame, Puts}
use Rattle.tt_vars.specs.Links.{AreSame, HasNames, HasSize, Links, Reads, Removed, Removes, StandsFor, Writes}
use Rattle.tt_vars.specs.Links.{elements_at, is_same, itself, link_answer, linked, frames_after_link, nothing, onward, place_of}
use Rattle.tt_vars.specs.Links.{reading_at, frames_after_removal, frames_after_write}
use Rattle.std.specs.Map.{keys_of}
use Rattle.std.specs.Option.{option_map}
use Rattle.laws_language.proofs.Once.{Once, Only, only-made, once-then}

none-some : {X : Type 0} {x : X} → None ≡ Some x → ⊥
none-some h = cc

same-some : {X : Type 0} {x y : X} → Some x ≡ Some y → x ≡ y
same-some h = cc

-- ---- what a name stands for ----

module _ (frames : List Frame) where
  stands-same : {place : Place} {one two : Option Place} → StandsFor frames place one → StandsFor frames place two → one ≡ two
  stands-same (itself h) (itself g) = refl
  stands-same (itself h) (nothing g o) = absurd (none-some (sym h ∙ g))
  stands-same (itself h) (linked g o s) = absurd (none-some (sym h ∙ g))
  stands-same (nothing h o) (itself g) = absurd (none-some (sym g ∙ h))
  stands-same (nothing h o) (nothing g q) = refl
  stands-same {place} (nothing h o) (linked g q s) =
      absurd (none-some (sym o ∙ ap (λ to. onward to place.index) (same-some (sym h ∙ g)) ∙ q))
  stands-same (linked h o s) (itself g) = absurd (none-some (sym g ∙ h))
  stands-same {place} (linked h o s) (nothing g q) =
      absurd (none-some (sym q ∙ ap (λ to. onward to place.index) (same-some (sym g ∙ h)) ∙ o))
  stands-same {place} {one} {two} (linked h o s) (linked g q r) =
      let same = same-some (sym o ∙ ap (λ to. onward to place.index) (same-some (sym h ∙ g)) ∙ q) in
      stands-same s (subst (λ next. StandsFor frames next two) (sym same) r)

  pub stands-once : (place : Place) → Only (StandsFor frames place)
  stands-once place one other is its = stands-same is its

  -- ---- reading ----

  pub reads-once : (place : Place) → Only (Reads frames place)
  reads-once place = only-made (StandsFor frames place) (reading_at frames place.index) (stands-once place)

  pub names-once : (place : Place) → Only (HasNames frames place)
  names-once place = only-made (StandsFor frames place) (λ stands. option_map keys_of (elements_at frames stands)) (stands-once place)

  pub size-once : (place : Place) → Only (HasSize frames place)
  size-once place = only-made (StandsFor frames place) (λ stands. option_map length (elements_at frames stands)) (stands-once place)

  pub same-once : (place other : Place) → Only (AreSame frames place other)
  same-once place other one two is its =
      is.4 ∙ ap (λ stands. is_same stands is.1) (stands-once place is.0 its.0 is.2 its.2)
      ∙ ap (is_same its.0) (stands-once other is.1 its.1 is.3 its.3) ∙ sym its.4

  -- ---- writing ----

  puts-once : (made : Result (List Frame) VarFault) → Once (Puts made frames)
  puts-once (Ok made) new next one other is its = (is.1 ∙ sym its.1, is.0 ∙ sym its.0)
  puts-once (Err fault) new next one other is its = (is.1 ∙ sym its.1, is.0 ∙ sym its.0)

  pub writes-once : (place : Place) (text : List ℕ) → Once (Writes frames place text)
  writes-once place text =
      once-then (StandsFor frames place) (λ stands. Puts (frames_after_write frames stands text) frames) (stands-once place)
      (λ stands. puts-once (frames_after_write frames stands text))

  -- ---- removing ----

  not-ok : false ≡ true → ⊥
  not-ok e = cc

  one-ok : (one other : Result Unit VarFault) → IsOk one → IsOk other → one ≡ other
  one-ok (Ok one) (Ok other) is its = refl
  one-ok (Ok one) (Err fault) is its = absurd (not-ok its)
  one-ok (Err fault) other is its = absurd (not-ok is)

  removed-once : (made : Result (List Frame) VarFault) → Once (Removed {X = Unit} made frames)
  removed-once (Ok made) new next one other is its = (is.1 ∙ sym its.1, one-ok one other is.0 its.0)
  removed-once (Err fault) new next one other is its = (is.1 ∙ sym its.1, is.0 ∙ sym its.0)

  pub removes-once : (place : Place) → Once (Removes {X = Unit} frames place)
  removes-once place =
      once-then (StandsFor frames place) (λ stands. Removed {X = Unit} (frames_after_removal frames place.index stands) frames) (stands-once place)
      (λ stands. removed-once (frames_after_removal frames place.index stands))

  -- ---- linking ----

  link-same : (number : ℕ) (name : Name) {whole wholes stands others : Option Place} {new next : List Frame} {one other : Linked}
      → whole ≡ wholes → stands ≡ others
      → one ≡ link_answer frames number name whole stands → other ≡ link_answer frames number name wholes others
      → new ≡ frames_after_link one frames number name stands → next ≡ frames_after_link other frames number name others
      → (new ≡ next) × (one ≡ other)
  link-same number name {whole} {wholes} {stands} {others} {new} {next} {one} {other} w s is its made makes =
      let same : one ≡ other =
      is ∙ ap (λ p. link_answer frames number name p stands) w ∙ ap (link_answer frames number name wholes) s ∙ sym its in
      (made ∙ ap (λ a. frames_after_link a frames number name stands) same ∙ ap (frames_after_link other frames number name) s ∙ sym makes, same)

  pub links-once : (number : ℕ) (name : Name) (place : Place) → Once (Links frames number name place)
  links-once number name place new next one other is its =
      link-same number name
      (stands-once (place_of place.frame place.name None) is.0 its.0 is.2 its.2)
      (stands-once place is.1 its.1 is.3 its.3)
      is.4 its.4 is.5 its.5
