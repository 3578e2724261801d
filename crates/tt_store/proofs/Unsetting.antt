-- Variables are removed one after the other.
use Rattle.std.proofs.Common.{◌≡◌, ℕ, suc, ◌+◌, ◌<◌, ◌≤◌, Bool, List, ◌∷◌, Option, Some, None, length, get_or, drop, sym, subst, ap, add-one, drop-cons}
use Rattle.std.proofs.lemmas.List.{drop_all}
use Rattle.tt_store.specs.Held.{Held}
use Rattle.tt_store.specs.Scalars.{DropsOne, Unsets, none, more, fails}

-- what is left, if one more comes
pub next-left : {X : Type 0} (names : List X) (i : ℕ) (name : X) → i < length names → name ≡ get_or names i name → drop i names ≡ name ∷ drop (i + 1) names
next-left names i name within is = rw (add-one, drop-cons names i name) (ap (λ x. x ∷ drop (suc i) names) (sym is))

-- removing the names that are left from here comes to the same as removing all
abbrev pub GoesOn : Bool → List (List ℕ) → Held → List (List ℕ) → Held → Type 0
GoesOn nocomplain left held names start =
    (message : Option (List ℕ)) (new : Held) → Unsets nocomplain left held message new → Unsets nocomplain names start message new

pub one_more : (nocomplain : Bool) (names : List (List ℕ)) (i : ℕ) (name : List ℕ) (start held next : Held)
    → i < length names → name ≡ get_or names i name
    → GoesOn nocomplain (drop i names) held names start
    → DropsOne nocomplain name held None next
    → GoesOn nocomplain (drop (i + 1) names) next names start
one_more nocomplain names i name start held next within is goes drops message new rest =
    goes message new (subst (λ left. Unsets nocomplain left held message new) (sym (next-left names i name within is)) (more drops rest))

pub one_fails : (nocomplain : Bool) (names : List (List ℕ)) (i : ℕ) (name message : List ℕ) (start held next : Held)
    → i < length names → name ≡ get_or names i name
    → GoesOn nocomplain (drop i names) held names start
    → DropsOne nocomplain name held (Some message) next
    → Unsets nocomplain names start (Some message) next
one_fails nocomplain names i name message start held next within is goes drops =
    goes (Some message) next
    (subst (λ left. Unsets nocomplain left held (Some message) next) (sym (next-left names i name within is)) (fails drops))

pub all_done : (nocomplain : Bool) (names : List (List ℕ)) (i : ℕ) (start held : Held)
    → length names ≤ i
    → GoesOn nocomplain (drop i names) held names start
    → Unsets nocomplain names start None held
all_done nocomplain names i start held past goes =
    goes None held (subst (λ left. Unsets nocomplain left held None held) (sym (drop_all i names past)) none)
