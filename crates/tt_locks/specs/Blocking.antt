-- The threads without which a call on locks does not go on (thread(n), thread::mutex, thread::rwmutex, thread::cond).
use Rattle.std.specs.Prelude.{ℕ, List, [], Option, Some, None}
use Rattle.tt_calls.specs.declared.lock_call.Family.TheVariants as family
use Rattle.tt_calls.specs.declared.lock_call.LockCall.{LockCall}
use Rattle.tt_calls.specs.declared.lock_call.LockCall.TheVariants as ask
use Rattle.tt_locks.specs.Table.{LockTable, lock_in}
use Rattle.tt_locks.specs.declared.lock.Lock.{Lock}

-- the lock that a call is to hold, of the calls that may wait; of the end of a wait for a condition the mutex
abbrev pub lock_asked : LockTable → LockCall → Option Lock
lock_asked table (ask.Lock text) = lock_in table family.Mutex text
lock_asked table (ask.ReadLock text) = lock_in table family.ReadWrite text
lock_asked table (ask.WriteLock text) = lock_in table family.ReadWrite text
lock_asked table (ask.CondTake cond mutex) = lock_in table family.Mutex mutex
lock_asked table call = None

abbrev pub holders_in : Option Lock → List ℕ
holders_in None = []
holders_in (Some lock) = lock.holders

-- its holders, a thread once for each hold that it has
abbrev pub holders : LockTable → LockCall → List ℕ
holders table call = holders_in (lock_asked table call)
