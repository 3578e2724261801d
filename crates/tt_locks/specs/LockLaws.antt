-- Who holds a lock (thread(n), thread::mutex, thread::rwmutex).
use Rattle.std.specs.Prelude.{◌≡◌, ◌≤◌, ℕ, Bool, true, false, List, length, ⊤}
use Rattle.std.specs.List.{All}
use Rattle.std.specs.Map.{values_of}
use Rattle.tt_calls.specs.declared.lock_call.Kind.{Kind}
use Rattle.tt_calls.specs.declared.lock_call.Kind.TheVariants.{Exclusive, Recursive, ReadWrite, Condition}
use Rattle.tt_calls.specs.declared.lock_call.LockCall.{LockCall}
use Rattle.tt_locks.specs.Calls.{table_after}
use Rattle.tt_locks.specs.Table.{LockTable, no_locks}
use Rattle.tt_locks.specs.declared.lock.Lock.{Lock}

-- all holds are those of one thread
abbrev pub AreOfOne : (holders : List ℕ) → Type 0
AreOfOne holders = (owner : ℕ) × All (λ holder. holder ≡ owner) holders

-- an exclusive mutex is held once, a recursive one by one thread, a read-write lock by who writes alone
abbrev pub AreAllowed : Kind → (writing : Bool) → (holders : List ℕ) → Type 0
AreAllowed Exclusive writing holders = length holders ≤ 1
AreAllowed Recursive writing holders = AreOfOne holders
AreAllowed ReadWrite true holders = length holders ≤ 1
AreAllowed ReadWrite false holders = ⊤
AreAllowed Condition writing holders = ⊤

abbrev pub HasOneHolder : Lock → Type 0
HasOneHolder lock = AreAllowed lock.kind lock.writing lock.holders

pub record HaveOneHolder (table : LockTable) : Type 0 where
  pub first : HasOneHolder table.first
  pub others : All HasOneHolder (values_of table.others)

-- so it is at the start, and so it stays, whatever threads call
pub record OneHolderLaw : Type 0 where
  pub start : HaveOneHolder no_locks
  pub stays :
      (table : LockTable) (t : ℕ) (call : LockCall) →
      HaveOneHolder table →
      HaveOneHolder (table_after table t call)
