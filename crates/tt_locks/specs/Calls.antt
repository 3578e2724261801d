-- What calls on locks do, and when they wait: a case each (thread(n), thread::mutex, thread::rwmutex, thread::cond,
-- thread::eval).
use Rattle.std.specs.Prelude.{ℕ, Bool, false, ◌||◌, ◌&&◌, not, List, [], ◌++◌, codes, Option, Some, None, if◌then◌else◌}
use Rattle.tt_calls.specs.Replies as replies
use Rattle.tt_calls.specs.Replies.{Answered, answers, refuses}
use Rattle.tt_calls.specs.declared.lock_call.Family.{Family}
use Rattle.tt_calls.specs.declared.lock_call.Family.TheVariants as family
use Rattle.tt_calls.specs.declared.lock_call.LockCall.{LockCall}
use Rattle.tt_calls.specs.declared.lock_call.LockCall.TheVariants as ask
use Rattle.tt_calls.specs.declared.reply.Reply.TheVariants.{Go, Value}
use Rattle.tt_calls.specs.declared.reply.Step.{Step}
use Rattle.tt_locks.specs.Lock.{Done, does, has_none, is_among, is_owned, waits_alone, waits_to_read}
use Rattle.tt_locks.specs.Table.{LockTable, lock_in, new_id, with_lock, with_new, without_lock}
use Rattle.tt_locks.specs.declared.lock.Deed.{Deed}
use Rattle.tt_locks.specs.declared.lock.Deed.TheVariants as deed
use Rattle.tt_locks.specs.declared.lock.Lock.{Lock}

-- ---- when a thread waits ----

abbrev pub waits_where : (Lock → ℕ → Bool) → ℕ → Option Lock → Bool
waits_where waits_for t None = false
waits_where waits_for t (Some lock) = waits_for lock t

-- the thread waits for a condition
abbrev pub is_waiter : Lock → ℕ → Bool
is_waiter lock t = is_among lock.waiters t

abbrev pub is_held : Lock → ℕ → Bool
is_held lock t = not (has_none lock.holders)

-- Refusals never wait, but for the end of a wait for a condition, which waits while the thread is among those that wait
-- for it, and while the mutex is held.
abbrev pub waits : LockTable → ℕ → LockCall → Bool
waits table t (ask.Lock text) = waits_where waits_alone t (lock_in table family.Mutex text)
waits table t (ask.ReadLock text) = waits_where waits_to_read t (lock_in table family.ReadWrite text)
waits table t (ask.WriteLock text) = waits_where waits_alone t (lock_in table family.ReadWrite text)
waits table t (ask.CondTake cond mutex) =
    waits_where is_waiter t (lock_in table family.Condition cond)
    || waits_where is_held t (lock_in table family.Mutex mutex)
waits table t call = false

-- ---- what a call does ----

-- an id that is unknown, or of another family
abbrev pub missing : Family → List ℕ → List ℕ
missing family.Condition text = codes "no such condition variable \"" ++ (text ++ codes "\"")
missing which text = codes "no such mutex \"" ++ (text ++ codes "\"")

-- what is done to the lock that the id names
abbrev pub after_deed : LockTable → List ℕ → Done → Answered LockTable
after_deed table text does = answers (with_lock table text does.lock) does.reply

abbrev pub acts_on :
    (Lock → ℕ → Done) → LockTable → ℕ → Family → List ℕ → Option Lock → Answered LockTable
acts_on does table t which text None = refuses table (missing which text)
acts_on does table t which text (Some lock) = after_deed table text (does lock t)

-- thread::mutex destroy, thread::rwmutex destroy, thread::cond destroy: of one that is not in use
abbrev pub in_use : Family → List ℕ
in_use family.Condition = codes "condition variable is in use"
in_use which = codes "mutex is in use"

abbrev pub destroys : LockTable → Family → List ℕ → Option Lock → Answered LockTable
destroys table which text None = refuses table (missing which text)
destroys table which text (Some lock) =
    if has_none lock.holders && has_none lock.waiters
    then answers (without_lock table text) Go
    else refuses table (in_use which)

-- the mutex of the empty id, which no command destroys
abbrev pub is_first : Family → List ℕ → Bool
is_first family.Mutex text = has_none text
is_first which text = false

abbrev pub destroys_named : LockTable → Family → List ℕ → Answered LockTable
destroys_named table which text =
    if is_first which text then refuses table [] else destroys table which text (lock_in table which text)

-- thread::cond wait: the thread gives its mutex up, and then is among those that wait
abbrev pub begins : LockTable → ℕ → (cond : List ℕ) → Answered LockTable
begins table t cond = acts_on (does deed.Wait) table t family.Condition cond (lock_in table family.Condition cond)

abbrev pub gives_up : LockTable → ℕ → (cond mutex : List ℕ) → Option Lock → Answered LockTable
gives_up table t cond mutex None = refuses table (missing family.Mutex mutex)
gives_up table t cond mutex (Some lock) =
    if is_owned lock t
    then begins (acts_on (does deed.Free) table t family.Mutex mutex (Some lock)).table t cond
    else refuses table (codes "mutex is not locked by this thread")

abbrev pub cond_waits : LockTable → ℕ → (cond mutex : List ℕ) → Option Lock → Answered LockTable
cond_waits table t cond mutex None = refuses table (missing family.Condition cond)
cond_waits table t cond mutex (Some condition) = gives_up table t cond mutex (lock_in table family.Mutex mutex)

abbrev pub begins_wait : LockTable → ℕ → (cond mutex : List ℕ) → Answered LockTable
begins_wait table t cond mutex = cond_waits table t cond mutex (lock_in table family.Condition cond)

-- the calls on one lock, each of a family
abbrev pub acts : Deed → LockTable → ℕ → Family → List ℕ → Answered LockTable
acts which table t kind text = acts_on (does which) table t kind text (lock_in table kind text)

abbrev pub act : LockTable → ℕ → LockCall → Answered LockTable
act table t (ask.Create kind) = answers (with_new table kind) (Value (new_id table kind))
act table t (ask.Destroy which text) = destroys_named table which text
act table t (ask.Lock text) = acts deed.Lock table t family.Mutex text
act table t (ask.ReadLock text) = acts deed.Read table t family.ReadWrite text
act table t (ask.WriteLock text) = acts deed.Write table t family.ReadWrite text
act table t (ask.Unlock which text) = acts deed.Unlock table t which text
act table t (ask.Notify text) = acts deed.Notify table t family.Condition text
act table t (ask.CondWait cond mutex after) = begins_wait table t cond mutex
act table t (ask.CondTake cond mutex) = acts deed.Take table t family.Mutex mutex

-- ---- a call whole ----

abbrev pub table_after : LockTable → ℕ → LockCall → LockTable
table_after table t call = replies.table_after (waits table t call) table (act table t call)

abbrev pub step_after : LockTable → ℕ → LockCall → Step
step_after table t call = replies.step_after (waits table t call) (act table t call)
