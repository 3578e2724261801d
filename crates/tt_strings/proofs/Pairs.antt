-- Keys and values, one after the other.
use Rattle.std.proofs.Common.{◌≡◌, ℕ, ◌<◌, ◌≤◌, List, [], ◌∷◌, ◌++◌, length, drop, get_or, sym, ap, subst, ◌∙◌, arith, append_assoc, append-nil}
use Rattle.tt_text.specs.Characters.{Character}
use Rattle.tt_strings.specs.Mapping.{IsAtFront, IsNotAtFront, IsFirstPair, here, later, HasNoPair, IsStep, replaced, kept, IsMapped, ended}

-- a key and a value at the front of a list
pub record IsPair (left : List (List ℕ)) (key value : List ℕ) (more : List (List ℕ)) : Type 0 where
  pub cut : left ≡ key ∷ value ∷ more

pub pair_of : (left : List (List ℕ)) (first second key value : List ℕ) → 2 ≤ length left → first ≡ get_or left 0 first → second ≡ get_or left 1 second
    → key ≡ first → value ≡ second → IsPair left key value (drop 2 left)
pair_of [] first second key value long f s k v = absurd (omega arith)
pair_of (a ∷ []) first second key value long f s k v = absurd (omega arith)
pair_of (a ∷ b ∷ left) first second key value long f s k v =
    record { cut = ap (λ x. x ∷ b ∷ left) (sym (k ∙ f)) ∙ ap (λ x. key ∷ x ∷ left) (sym (v ∙ s)) }

pub pair_here : (left : List (List ℕ)) (key value : List ℕ) (more : List (List ℕ)) (text rest : List Character) → IsPair left key value more →
    IsAtFront key text rest → IsFirstPair left text value rest
pair_here left key value more text rest p at = let P : List (List ℕ) → Type 0 = λ l. IsFirstPair l text value rest in subst P (sym p.cut) (here at)

pub pair_later : (left : List (List ℕ)) (key other : List ℕ) (more : List (List ℕ)) (text rest : List Character) (value : List ℕ)
    → IsPair left key other more → IsNotAtFront key text → IsFirstPair more text value rest → IsFirstPair left text value rest
pair_later left key other more text rest value p not first =
    let P : List (List ℕ) → Type 0 = λ l. IsFirstPair l text value rest in subst P (sym p.cut) (later not first)

pub pair_none : (left : List (List ℕ)) (key value : List ℕ) (more : List (List ℕ)) (text : List Character)
    → IsPair left key value more → IsNotAtFront key text → HasNoPair more text → HasNoPair left text
pair_none left key value more text p not none = let P : List (List ℕ) → Type 0 = λ l. HasNoPair l text in subst P (sym p.cut) (not, none)

pub few_none : (left : List (List ℕ)) (text : List Character) → length left < 2 → HasNoPair left text
few_none [] text h = tt
few_none (a ∷ []) text h = tt
few_none (a ∷ b ∷ left) text h = absurd (omega arith)

pub step_kept : (pairs : List (List ℕ)) (text : List Character) (c : Character) (rest : List Character) → text ≡ c ∷ rest → HasNoPair pairs text →
    IsStep pairs text c rest
step_kept pairs text c rest e none =
    let P : List Character → Type 0 = HasNoPair pairs in
    let Q : List Character → Type 0 = λ t. IsStep pairs t c rest in
    subst Q (sym e) (kept (subst P e none))

pub step_replaced : (pairs : List (List ℕ)) (text : List Character) (value : List ℕ) (rest : List Character) → IsFirstPair pairs text value rest →
    IsStep pairs text value rest
step_replaced pairs text value rest h = replaced h

pub mapped_more : (pairs : List (List ℕ)) (text : List Character) (all done part more : List ℕ) → all ≡ done ++ part →
    IsMapped pairs text (done ++ (part ++ more)) → IsMapped pairs text (all ++ more)
mapped_more pairs text all done part more e h =
    let P : List ℕ → Type 0 = IsMapped pairs text in subst P (sym (ap (λ t. t ++ more) e ∙ append_assoc done part more)) h

pub mapped_all : (pairs : List (List ℕ)) (text : List Character) (all done : List ℕ) → all ≡ done → IsMapped pairs text (done ++ []) → IsMapped pairs text all
mapped_all pairs text all done e h = let P : List ℕ → Type 0 = IsMapped pairs text in subst P (append-nil done ∙ sym e) h

pub nothing_mapped : (pairs : List (List ℕ)) (text : List Character) → text ≡ [] → IsMapped pairs text []
nothing_mapped pairs text e = let P : List Character → Type 0 = λ t. IsMapped pairs t [] in subst P (sym e) ended
