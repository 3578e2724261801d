-- The thread without which a call on shared variables does not go on (tsv(n), tsv::lock).
use Rattle.std.specs.Prelude.{ℕ, List, Option, Some, None}
use Rattle.tt_calls.specs.declared.tsv_call.TsvCall.{TsvCall}
use Rattle.tt_tsv.specs.Arrays.{Table, array_of}
use Rattle.tt_tsv.specs.Calls.{array_asked}
use Rattle.tt_tsv.specs.declared.array.Array.{Array}

-- the thread that holds an array
abbrev pub holder_in : Option Array → Option ℕ
holder_in None = None
holder_in (Some array) = array.holder

abbrev pub holder_of : Table → (name : Option (List ℕ)) → Option ℕ
holder_of table None = None
holder_of table (Some name) = holder_in (array_of table name)

-- the thread that holds the array that a call is on
abbrev pub holder : Table → TsvCall → Option ℕ
holder table call = holder_of table (array_asked call)
