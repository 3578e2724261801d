-- Elements are set one after the other.
use Rattle.std.proofs.Common.{◌≡◌, ℕ, List, [], ◌∷◌, Option, Some, None, sym, subst, refl, rules, arith}
use Rattle.tt_store.specs.Held.{Held}
use Rattle.tt_vars.specs.Variables.{Name}
use Rattle.tt_variable_commands.specs.ArrayChanging.{SetsEach, SetsOne, first_pair, pairs_in, none, more, fails}

-- setting what is left comes to the same as setting all
abbrev pub GoesOn : Name → (left : List (List ℕ)) → Held → (items : List (List ℕ)) → Held → Type 0
GoesOn name left held items start =
    (message : Option (List ℕ)) (new : Held) → SetsEach name (pairs_in left) held message new → SetsEach name (pairs_in items) start message new

pub pairs_more : (items : List (List ℕ)) (index text : List ℕ) (later : List (List ℕ)) →
    first_pair items ≡ Some (index, text, later) → pairs_in items ≡ (index, text) ∷ pairs_in later
pairs_more [] index text later first = absurd (search rules)
pairs_more (k ∷ []) index text later first = absurd (search rules)
pairs_more (k ∷ v ∷ items) index text later first = grind arith

pub pairs_all : (items : List (List ℕ)) → first_pair items ≡ None → pairs_in items ≡ []
pairs_all [] first = refl
pairs_all (k ∷ []) first = refl
pairs_all (k ∷ v ∷ items) first = absurd (search rules)

pub one_more : (name : Name) (left : List (List ℕ)) (index text : List ℕ) (later items : List (List ℕ)) (start held next : Held)
    → first_pair left ≡ Some (index, text, later)
    → GoesOn name left held items start
    → SetsOne name index text held None next
    → GoesOn name later next items start
one_more name left index text later items start held next first goes sets message new rest =
    goes message new (subst (λ pairs. SetsEach name pairs held message new) (sym (pairs_more left index text later first)) (more sets rest))

pub one_fails : (name : Name) (left : List (List ℕ)) (index text : List ℕ) (later items : List (List ℕ)) (told : List ℕ) (start held next : Held)
    → first_pair left ≡ Some (index, text, later)
    → GoesOn name left held items start
    → SetsOne name index text held (Some told) next
    → SetsEach name (pairs_in items) start (Some told) next
one_fails name left index text later items told start held next first goes sets =
    goes (Some told) next
    (subst (λ pairs. SetsEach name pairs held (Some told) next) (sym (pairs_more left index text later first)) (fails sets))

pub all_done : (name : Name) (left items : List (List ℕ)) (start held : Held)
    → first_pair left ≡ None
    → GoesOn name left held items start
    → SetsEach name (pairs_in items) start None held
all_done name left items start held nothing goes =
    goes None held (subst (λ pairs. SetsEach name pairs held None held) (sym (pairs_all left nothing)) none)
