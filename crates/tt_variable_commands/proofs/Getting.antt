-- Indices get their values one after the other.
use Rattle.std.proofs.Common.{◌≡◌, ℕ, ◌+◌, ◌<◌, ◌≤◌, ◌++◌, List, [], length, get_or, drop, sym, subst}
use Rattle.std.proofs.lemmas.List.{append-nil, append_assoc, drop_all}
use Rattle.tt_store.specs.Held.{Held}
use Rattle.tt_vars.specs.Variables.{Name}
use Rattle.tt_variable_commands.specs.ArrayReading.{AddsPair, PairsOf, pair_of, none, more}
use Rattle.tt_variable_commands.proofs.Lists.{next-left}

-- items that stand, with the pairs of the indices that are left, are the pairs of all
abbrev pub GoesOn : Held → Name → (left : List Name) → (items : List (List ℕ)) → (indices : List Name) → Type 0
GoesOn held name left items indices = (rest : List (List ℕ)) → PairsOf held name left rest → PairsOf held name indices (items ++ rest)

pub one_more : (held : Held) (name : Name) (indices : List Name) (i : ℕ) (index : Name) (items next : List (List ℕ))
    → i < length indices → index ≡ get_or indices i index
    → GoesOn held name (drop i indices) items indices
    → AddsPair held name index items next
    → GoesOn held name (drop (i + 1) indices) next indices
one_more held name indices i index items next within is goes adds rest later =
    subst (λ all. PairsOf held name indices (all ++ rest)) (sym adds.2)
    (subst (λ all. PairsOf held name indices all) (sym (append_assoc items (pair_of index adds.0) rest))
    (goes (pair_of index adds.0 ++ rest)
    (subst (λ left. PairsOf held name left (pair_of index adds.0 ++ rest)) (sym (next-left indices i index within is))
    (more adds.1 later))))

pub all_done : (held : Held) (name : Name) (indices : List Name) (i : ℕ) (items : List (List ℕ))
    → length indices ≤ i
    → GoesOn held name (drop i indices) items indices
    → PairsOf held name indices items
all_done held name indices i items past goes =
    subst (λ all. PairsOf held name indices all) (append-nil items)
    (goes [] (subst (λ left. PairsOf held name left []) (sym (drop_all i indices past)) none))
