-- Elements are removed one after the other.
use Rattle.std.proofs.Common.{◌≡◌, ℕ, ◌+◌, ◌<◌, ◌≤◌, List, length, get_or, drop, sym, subst}
use Rattle.std.proofs.lemmas.List.{drop_all}
use Rattle.tt_store.specs.Held.{Held}
use Rattle.tt_vars.specs.Variables.{Name}
use Rattle.tt_variable_commands.specs.ArrayChanging.{DropsEach, DropsOne, none, more}
use Rattle.tt_variable_commands.proofs.Lists.{next-left}

-- removing what is left comes to the same as removing all
abbrev pub GoesOn : Name → (left : List Name) → Held → (indices : List Name) → Held → Type 0
GoesOn name left held indices start = (new : Held) → DropsEach name left held new → DropsEach name indices start new

pub one_more : (name : Name) (indices : List Name) (i : ℕ) (index : Name) (start held next : Held)
    → i < length indices → index ≡ get_or indices i index
    → GoesOn name (drop i indices) held indices start
    → DropsOne name index held next
    → GoesOn name (drop (i + 1) indices) next indices start
one_more name indices i index start held next within is goes drops new rest =
    goes new (subst (λ left. DropsEach name left held new) (sym (next-left indices i index within is)) (more drops rest))

pub all_done : (name : Name) (indices : List Name) (i : ℕ) (start held : Held)
    → length indices ≤ i
    → GoesOn name (drop i indices) held indices start
    → DropsEach name indices start held
all_done name indices i start held past goes =
    goes held (subst (λ left. DropsEach name left held held) (sym (drop_all i indices past)) none)
