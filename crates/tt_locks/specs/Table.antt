-- All locks, by their ids (thread(n)).
use Rattle.std.specs.Prelude.{ℕ, ◌+◌, Bool, true, false, List, [], ◌∷◌, Option, Some, None, if◌then◌else◌}
use Rattle.std.specs.BTreeMap.{insert_entry, is_at}
use Rattle.std.specs.Cmp.Lexicographic.{slice_cmp}
use Rattle.std.specs.Map.{lookup, remove_entry, set_value}
use Rattle.std.specs.Ordering.{nat_cmp}
use Rattle.tt_calls.specs.declared.lock_call.Family.{Family}
use Rattle.tt_calls.specs.declared.lock_call.Family.TheVariants as family
use Rattle.tt_calls.specs.declared.lock_call.Kind.{Kind}
use Rattle.tt_calls.specs.declared.lock_call.Kind.TheVariants.{Exclusive, Recursive, ReadWrite, Condition}
use Rattle.tt_ids.specs.Ids.{id}
use Rattle.tt_ids.specs.declared.id.IdKind.{IdKind}
use Rattle.tt_ids.specs.declared.id.IdKind.TheVariants as named
use Rattle.tt_locks.specs.Lock.{family_of, free}
use Rattle.tt_locks.specs.declared.lock.Lock.{Lock}
use Rattle.tt_locks.specs.declared.numbers.Numbers.{Numbers}

-- the one mutex that is there from the start, which the empty id names (thread::eval without -lock); the others by
-- their ids, in the order of the ids' bytes; and the number that the next of each kind draws
pub record LockTable : Type 0 where
  pub first : Lock
  pub others : List (List ℕ × Lock)
  pub next : Numbers

-- the start
abbrev pub no_locks : LockTable
no_locks = record {
  first = free Recursive;
  others = [];
  next = record { exclusive = 1; recursive = 1; read_write = 1; condition = 1 };
}

-- an id's place in the order
abbrev pub is_id : List ℕ → List ℕ → Bool
is_id text = is_at (slice_cmp nat_cmp text)

-- the lock of an id
abbrev pub lock_of : LockTable → List ℕ → Option Lock
lock_of table [] = Some table.first
lock_of table (b ∷ text) = lookup (is_id (b ∷ text)) table.others

-- the table with another lock under an id
abbrev pub with_lock : LockTable → List ℕ → Lock → LockTable
with_lock table [] lock = record table { first = lock }
with_lock table (b ∷ text) lock = record table { others = set_value (is_id (b ∷ text)) table.others lock }

abbrev pub without_lock : LockTable → List ℕ → LockTable
without_lock table text = record table { others = remove_entry (is_id text) table.others }

-- the families of commands
abbrev pub is_same : Family → Family → Bool
is_same family.Mutex family.Mutex = true
is_same family.ReadWrite family.ReadWrite = true
is_same family.Condition family.Condition = true
is_same one other = false

-- the lock of an id, if it is one of this family
abbrev pub in_family : Family → Option Lock → Option Lock
in_family which None = None
in_family which (Some lock) = if is_same which (family_of lock.kind) then Some lock else None

abbrev pub lock_in : LockTable → Family → List ℕ → Option Lock
lock_in table which text = in_family which (lock_of table text)

-- ---- new locks ----

-- the number that the next of a kind draws
abbrev pub number_of : Kind → Numbers → ℕ
number_of Exclusive next = next.exclusive
number_of Recursive next = next.recursive
number_of ReadWrite next = next.read_write
number_of Condition next = next.condition

abbrev pub with_number : Kind → ℕ → Numbers → Numbers
with_number Exclusive number next = record next { exclusive = number }
with_number Recursive number next = record next { recursive = number }
with_number ReadWrite number next = record next { read_write = number }
with_number Condition number next = record next { condition = number }

abbrev pub numbers_after : Kind → Numbers → Numbers
numbers_after kind next = with_number kind (number_of kind next + 1) next

-- what ids of a kind name
abbrev pub names_of : Kind → IdKind
names_of Exclusive = named.Exclusive
names_of Recursive = named.Recursive
names_of ReadWrite = named.ReadWrite
names_of Condition = named.Condition

-- the id that the next of a kind has
abbrev pub new_id : LockTable → Kind → List ℕ
new_id table kind = id (names_of kind) (number_of kind table.next)

abbrev pub with_new : LockTable → Kind → LockTable
with_new table kind = record table {
  others = insert_entry (slice_cmp nat_cmp) table.others (new_id table kind) (free kind);
  next = numbers_after kind table.next;
}
