-- Variables are set one after the other.
use Rattle.std.proofs.Common.{◌≡◌, ℕ, ◌+◌, ◌<◌, ◌≤◌, List, length, get_or, drop, sym, subst}
use Rattle.std.proofs.lemmas.List.{drop_all}
use Rattle.tt_procedures.specs.declared.calling.Argument.{Argument}
use Rattle.tt_vars.specs.declared.answers.Written.{Written}
use Rattle.std.specs.Prelude.{None}
use Rattle.tt_store.specs.Held.{AreSet, Held, Sets, none, more}
use Rattle.tt_store.specs.Spots.{spot}
use Rattle.tt_store.proofs.Unsetting.{next-left}

-- setting the variables that are left from here comes to the same as setting all
abbrev pub GoesOn : List Argument → Held → List Argument → Held → Type 0
GoesOn left held values start = (new : Held) → AreSet left held new → AreSet values start new

pub one_more : (values : List Argument) (i : ℕ) (value : Argument) (written : Written) (start held next : Held)
    → i < length values → value ≡ get_or values i value
    → GoesOn (drop i values) held values start
    → Sets held (spot value.name None) value.value next written
    → GoesOn (drop (i + 1) values) next values start
one_more values i value written start held next within is goes sets new rest =
    goes new (subst (λ left. AreSet left held new) (sym (next-left values i value within is)) (more sets rest))

pub all_done : (values : List Argument) (i : ℕ) (start held : Held)
    → length values ≤ i
    → GoesOn (drop i values) held values start
    → AreSet values start held
all_done values i start held past goes =
    goes held (subst (λ left. AreSet left held held) (sym (drop_all i values past)) none)
