-- What a held array is safe from (tsv(n), tsv::lock).
use Rattle.std.specs.Prelude.{◌≡◌, ℕ, true, List, Some}
use Rattle.tt_calls.specs.declared.reply.Step.TheVariants.{Wait}
use Rattle.tt_calls.specs.declared.tsv_call.TsvCall.{TsvCall}
use Rattle.tt_tsv.specs.Calls.{array_asked, is_held_by_other, step_after, table_after}
use Rattle.tt_tsv.specs.Arrays.{Table, array_of}

-- a held array answers nobody else: who asks it waits
abbrev pub HeldWaitsLaw : Type 0
HeldWaitsLaw =
    (table : Table) (name : List ℕ) (t : ℕ) (call : TsvCall) →
    is_held_by_other t (array_of table name) ≡ true →
    array_asked call ≡ Some name →
    step_after table t call ≡ Wait

-- and no call of another thread changes it
abbrev pub HeldArrayLaw : Type 0
HeldArrayLaw =
    (table : Table) (name : List ℕ) (t : ℕ) (call : TsvCall) →
    is_held_by_other t (array_of table name) ≡ true →
    array_of (table_after table t call) name ≡ array_of table name
