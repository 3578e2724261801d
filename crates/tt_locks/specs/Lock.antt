-- One lock, and what a thread does to it (thread(n), thread::mutex, thread::rwmutex, thread::cond). A lock has a list
-- of holders, a thread once for each hold that it has, and a condition variable a list of threads that wait for it.
use Rattle.std.specs.Prelude.{ℕ, Bool, true, false, ◌&&◌, ◌==◌, not, List, [], ◌∷◌, ◌++◌, codes, if◌then◌else◌}
use Rattle.std.specs.List.{list_any, prefix_len, remove}
use Rattle.tt_calls.specs.declared.lock_call.Family.{Family}
use Rattle.tt_calls.specs.declared.lock_call.Family.TheVariants as family
use Rattle.tt_calls.specs.declared.lock_call.Kind.{Kind}
use Rattle.tt_calls.specs.declared.lock_call.Kind.TheVariants.{Exclusive, Recursive, ReadWrite, Condition}
use Rattle.tt_calls.specs.declared.reply.Reply.{Reply}
use Rattle.tt_calls.specs.declared.reply.Reply.TheVariants.{Go, Refused}
use Rattle.tt_locks.specs.declared.lock.Deed.{Deed}
use Rattle.tt_locks.specs.declared.lock.Deed.TheVariants as deed
use Rattle.tt_locks.specs.declared.lock.Lock.{Lock}

-- a lock that nobody holds
abbrev pub free : Kind → Lock
free kind = record { kind = kind; holders = []; writing = false; waiters = [] }

-- a thread is among these
abbrev pub is_among : List ℕ → ℕ → Bool
is_among threads t = list_any (λ thread. thread == t) threads

abbrev pub has_none : List ℕ → Bool
has_none [] = true
has_none (t ∷ threads) = false

-- the list without the first of a thread
abbrev pub without_one : List ℕ → ℕ → List ℕ
without_one threads t = remove threads (prefix_len (λ thread. not (thread == t)) threads)

-- the commands that speak of locks of a kind
abbrev pub family_of : Kind → Family
family_of Exclusive = family.Mutex
family_of Recursive = family.Mutex
family_of ReadWrite = family.ReadWrite
family_of Condition = family.Condition

-- others hold the lock, and the thread doesn't
abbrev pub is_held_by_others : Lock → ℕ → Bool
is_held_by_others lock t = not (has_none lock.holders) && not (is_among lock.holders t)

-- ---- when a thread waits ----

-- to hold it alone: while others hold it (thread::mutex lock, thread::rwmutex wlock)
abbrev pub waits_alone : Lock → ℕ → Bool
waits_alone lock t = is_held_by_others lock t

-- to read: while another writes (thread::rwmutex rlock)
abbrev pub waits_to_read : Lock → ℕ → Bool
waits_to_read lock t = lock.writing && is_held_by_others lock t

-- ---- what it does ----

-- the lock after a call, and the reply
pub record Done : Type 0 where
  pub lock : Lock
  pub reply : Reply

abbrev pub refuses : Lock → List ℕ → Done
refuses lock message = record { lock = lock; reply = Refused message }

-- one hold more of the thread
abbrev pub with_hold : Lock → ℕ → Bool → Lock
with_hold lock t writing = record lock { holders = lock.holders ++ t ∷ []; writing = writing }

abbrev pub holds : Lock → ℕ → (writing : Bool) → Done
holds lock t writing = record { lock = with_hold lock t writing; reply = Go }

-- thread::mutex lock: who owns an exclusive mutex can't take it again, who owns a recursive one can
abbrev pub locks : Lock → ℕ → Done
locks lock t =
    elim lock.kind [
      | Recursive ↦ holds lock t false
      | kind ↦
          if is_among lock.holders t
          then refuses lock (codes "locking the same exclusive mutex twice from the same thread")
          else holds lock t false
    ]

-- thread::rwmutex rlock: who reads can read again, who writes can't
abbrev pub read_locks : Lock → ℕ → Done
read_locks lock t =
    if lock.writing then refuses lock (codes "read-locking already write-locked mutex from the same thread") else
    holds lock t false

-- thread::rwmutex wlock: who reads or writes can't write
abbrev pub write_locks : Lock → ℕ → Done
write_locks lock t =
    if not (is_among lock.holders t) then holds lock t true else
    if lock.writing then refuses lock (codes "write-locking the same read-write mutex twice from the same thread") else
    refuses lock (codes "write-locking already read-locked mutex from the same thread")

-- one hold less; who writes has one
abbrev pub without_hold : Lock → ℕ → Lock
without_hold lock t = record lock { holders = without_one lock.holders t; writing = false }

-- thread::mutex unlock, thread::rwmutex unlock
abbrev pub unlocks : Lock → ℕ → Done
unlocks lock t =
    if has_none lock.holders then refuses lock (codes "mutex is not locked") else
    if not (is_among lock.holders t) then refuses lock (codes "mutex is owned by another thread") else
    record { lock = without_hold lock t; reply = Go }

-- the thread holds an exclusive mutex (thread::cond wait)
abbrev pub is_owned : Lock → ℕ → Bool
is_owned lock t = elim lock.kind [ Exclusive ↦ is_among lock.holders t | kind ↦ false ]

-- ---- deeds ----

abbrev pub does_go : Lock → Done
does_go lock = record { lock = lock; reply = Go }

-- what is done to one lock, by its name
abbrev pub does : Deed → Lock → ℕ → Done
does deed.Lock lock t = locks lock t
does deed.Read lock t = read_locks lock t
does deed.Write lock t = write_locks lock t
does deed.Unlock lock t = unlocks lock t
does deed.Free lock t = does_go (without_hold lock t)
does deed.Wait lock t = does_go (record lock { waiters = lock.waiters ++ t ∷ [] })
does deed.Notify lock t = does_go (record lock { waiters = [] })
does deed.Take lock t = does_go (with_hold lock t false)
