-- Whether characters stand at the front of a text, and where they stand first and last.
use Rattle.std.proofs.Common.{◌≡◌, ◌⊎◌, inl, inr, ℕ, suc, Bool, true, false, List, [], ◌∷◌, ◌++◌, Option, Some, None, ap, arith, bytes_eq, drop, get_or, length}
use Rattle.std.proofs.Common.{refl, sym, subst, ◌∙◌, true≢false}
use Rattle.std.specs.Cmp.Lexicographic.{bytes_decides, nat_list_eq_equiv}
use Rattle.tt_strings.specs.Finding.{IsFirstPlace, IsLastPlace, StandsAt}
use Rattle.tt_text.specs.Characters.{Character}

abbrev pub Fronts : List Character → List Character → Type 0
Fronts front text = (rest : List Character) × (text ≡ front ++ rest)

first-same : {a b : Character} {xs ys : List Character} → a ∷ xs ≡ b ∷ ys → a ≡ b
first-same e = ap (λ l. get_or l 0 []) e

later-same : {a b : Character} {xs ys : List Character} → a ∷ xs ≡ b ∷ ys → xs ≡ ys
later-same e = ap (drop 1) e

none-some : {X : Type 0} {a : Character} {xs : List Character} → [] ≡ a ∷ xs → X
none-some e = absurd (cc e)

-- it does, or it doesn't
pub front : (needle text : List Character) → Fronts needle text ⊎ ((rest : List Character) → text ≡ needle ++ rest → ⊥)
front [] text = inl (text, refl)
front (c ∷ needle) [] = inr (λ rest e. none-some e)
front (c ∷ needle) (d ∷ text) = by (bytes_eq d c) refl (front needle text)
  where
    by : (same : Bool) → bytes_eq d c ≡ same → Fronts needle text ⊎ ((rest : List Character) → text ≡ needle ++ rest → ⊥)
        → Fronts (c ∷ needle) (d ∷ text) ⊎ ((rest : List Character) → d ∷ text ≡ (c ∷ needle) ++ rest → ⊥)
    by false is later =
        inr (λ rest e. absurd (true≢false (sym (subst (λ k. bytes_eq d k ≡ true) (first-same e) (nat_list_eq_equiv.refl d)) ∙ is)))
    by true is (inl at) = inl (at.0, ap (λ k. k ∷ text) ((bytes_decides d c).0 is) ∙ ap (λ l. c ∷ l) at.1)
    by true is (inr not) = inr (λ rest e. not rest (later-same e))

-- ---- places ----

module _ (c : Character) (needle : List Character) where
  Nowhere : List Character → Type 0
  Nowhere text = (p : ℕ) → ¬ StandsAt (c ∷ needle) text p

  here : (d : Character) (text : List Character) → Fronts (c ∷ needle) (d ∷ text) → StandsAt (c ∷ needle) (d ∷ text) 0
  here d text at = record { before = []; after = at.0; cut = at.1; place_is = refl }

  further : (d : Character) (text : List Character) (p : ℕ) → StandsAt (c ∷ needle) text p → StandsAt (c ∷ needle) (d ∷ text) (suc p)
  further d text p at = record { before = d ∷ at.before; after = at.after; cut = ap (λ l. d ∷ l) at.cut; place_is = ap suc at.place_is }

  -- what stands in a text stands at its front or in the rest
  either : (d : Character) (text : List Character) (p : ℕ) → StandsAt (c ∷ needle) (d ∷ text) p
      → ((p ≡ 0) × Fronts (c ∷ needle) (d ∷ text)) ⊎ ((q : ℕ) × (p ≡ suc q) × StandsAt (c ∷ needle) text q)
  either d text p at = by at.before at.cut at.place_is
    where
      by : (before : List Character) → d ∷ text ≡ (before ++ c ∷ needle) ++ at.after → length before ≡ p
          → ((p ≡ 0) × Fronts (c ∷ needle) (d ∷ text)) ⊎ ((q : ℕ) × (p ≡ suc q) × StandsAt (c ∷ needle) text q)
      by [] cut is = inl (sym is, (at.after, cut))
      by (b ∷ before) cut is = inr (length before, sym is, record { before = before; after = at.after; cut = later-same cut; place_is = refl })

  empty : Nowhere []
  unfolding Nowhere
  empty p at = by at.before at.cut
    where
      by : (before : List Character) → [] ≡ (before ++ c ∷ needle) ++ at.after → ⊥
      by [] cut = none-some cut
      by (b ∷ before) cut = none-some cut

  never : (d : Character) (text : List Character) → ((rest : List Character) → d ∷ text ≡ (c ∷ needle) ++ rest → ⊥) → Nowhere text → Nowhere (d ∷ text)
  unfolding Nowhere
  never d text not none p at = elim (either d text p at) [
    | inl is ↦ not is.1.0 is.1.1
    | inr is ↦ none is.0 is.2
  ]

  FirstOf : List Character → Type 0
  FirstOf text = (place : Option ℕ) × IsFirstPlace (c ∷ needle) text place

  first-in : (text : List Character) → FirstOf text
  unfolding FirstOf Nowhere
  first-in [] = (None, empty)
  first-in (d ∷ text) = by (front (c ∷ needle) (d ∷ text)) (first-in text)
    where
      later : ((rest : List Character) → d ∷ text ≡ (c ∷ needle) ++ rest → ⊥) → (place : Option ℕ) → IsFirstPlace (c ∷ needle) text place → FirstOf (d ∷ text)
      later not None none = (None, never d text not none)
      later not (Some p) is = (
        Some (suc p),
        (
          further d text p is.0,
          λ q less at. elim (either d text q at) [
            | inl front ↦ not front.1.0 front.1.1
            | inr rest ↦ is.1 rest.0 (omega (arith, less, rest.1)) rest.2
          ],
        ),
      )

      by : Fronts (c ∷ needle) (d ∷ text) ⊎ ((rest : List Character) → d ∷ text ≡ (c ∷ needle) ++ rest → ⊥) → FirstOf text → FirstOf (d ∷ text)
      by (inl at) rest = (Some 0, (here d text at, λ q less is. absurd (omega (arith, less))))
      by (inr not) rest = later not rest.0 rest.1

  LastOf : List Character → Type 0
  LastOf text = (place : Option ℕ) × IsLastPlace (c ∷ needle) text place

  last-in : (text : List Character) → LastOf text
  unfolding LastOf Nowhere
  last-in [] = (None, empty)
  last-in (d ∷ text) = (let rest = last-in text in by rest.0 rest.1 (front (c ∷ needle) (d ∷ text)))
    where
      by : (place : Option ℕ) → IsLastPlace (c ∷ needle) text place
          → Fronts (c ∷ needle) (d ∷ text) ⊎ ((rest : List Character) → d ∷ text ≡ (c ∷ needle) ++ rest → ⊥)
          → LastOf (d ∷ text)
      by (Some p) is at = (
        Some (suc p),
        (
          further d text p is.0,
          λ q more stands. elim (either d text q stands) [
            | inl front ↦ absurd (omega (arith, more, front.0))
            | inr rest ↦ is.1 rest.0 (omega (arith, more, rest.1)) rest.2
          ],
        ),
      )
      by None none (inl at) = (
        Some 0,
        (
          here d text at,
          λ q more stands. elim (either d text q stands) [
            | inl front ↦ absurd (omega (arith, more, front.0))
            | inr rest ↦ none rest.0 rest.2
          ],
        ),
      )
      by None none (inr not) = (None, never d text not none)

pub first_place : (needle text : List Character) → (place : Option ℕ) × IsFirstPlace needle text place
unfolding FirstOf
first_place [] text = (None, refl)
first_place (c ∷ needle) text = first-in c needle text

pub last_place : (needle text : List Character) → (place : Option ℕ) × IsLastPlace needle text place
unfolding LastOf
last_place [] text = (None, refl)
last_place (c ∷ needle) text = last-in c needle text
