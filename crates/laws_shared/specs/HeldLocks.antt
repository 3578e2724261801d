-- How threads hold locks (thread(n), thread::mutex, thread::rwmutex).
use Rattle.std.specs.Prelude.{◌≡◌, ℕ, Bool, true, false, List, Option, Some, None, IsSome, if◌then◌else◌}
use Rattle.tt_calls.specs.declared.lock_call.Kind.{Kind}
use Rattle.tt_calls.specs.declared.lock_call.Kind.TheVariants.{Exclusive, Recursive, ReadWrite, Condition}
use Rattle.tt_locks.specs.Lock.{is_among}
use Rattle.tt_locks.specs.Table.{lock_of}
use Rattle.tt_locks.specs.declared.lock.Lock.{Lock}
use Rattle.tt_shared.specs.State.{State}

-- who holds a mutex holds it alone, and so does who writes; who reads holds a read-write lock beside others
abbrev pub is_alone : Kind → (writing : Bool) → Bool
is_alone Exclusive writing = true
is_alone Recursive writing = true
is_alone ReadWrite writing = writing
is_alone Condition writing = false

-- a thread's hold of a lock, if it has one: whether it holds it alone
abbrev pub hold_in : ℕ → Option Lock → Option Bool
hold_in t None = None
hold_in t (Some lock) = if is_among lock.holders t then Some (is_alone lock.kind lock.writing) else None

abbrev pub hold_of : State → ℕ → (text : List ℕ) → Option Bool
hold_of state t text = hold_in t (lock_of state.locks text)

-- the thread holds the lock, and holds it alone
abbrev pub HoldsLock : State → ℕ → (text : List ℕ) → Type 0
HoldsLock state t text = IsSome (hold_of state t text)

abbrev pub HoldsAlone : State → ℕ → (text : List ℕ) → Type 0
HoldsAlone state t text = hold_of state t text ≡ Some true
