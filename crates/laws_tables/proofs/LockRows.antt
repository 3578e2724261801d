-- What calls on locks are answered: a property of replies holds of each row's.
use Rattle.std.proofs.Common.{◌≡◌, ◌&&◌, ℕ, Bool, true, false, not, if◌then◌else◌, List, [], ◌∷◌, ◌++◌, Option, Some, None, refl}
use Rattle.std.specs.Bool.{⊤}
use Rattle.laws_tables.proofs.Cases.{Empty, Refuses, by_if}
use Rattle.tt_calls.specs.Replies.{Answered, refuses as refusal}
use Rattle.tt_calls.specs.declared.lock_call.Family.{Family}
use Rattle.tt_calls.specs.declared.lock_call.Family.TheVariants as family
use Rattle.tt_calls.specs.declared.lock_call.Kind.{Kind}
use Rattle.tt_calls.specs.declared.lock_call.Kind.TheVariants.{Exclusive, Recursive, ReadWrite, Condition}
use Rattle.tt_calls.specs.declared.lock_call.LockCall.{LockCall}
use Rattle.tt_calls.specs.declared.lock_call.LockCall.TheVariants as lock
use Rattle.tt_calls.specs.declared.reply.Reply.{Reply}
use Rattle.tt_calls.specs.declared.reply.Reply.TheVariants as reply
use Rattle.tt_locks.specs.Calls as locks
use Rattle.tt_locks.specs.Lock as one
use Rattle.tt_locks.specs.Lock.{Done, does_go, with_hold, without_hold}
use Rattle.tt_locks.specs.Table.{LockTable, lock_in}
use Rattle.tt_locks.specs.declared.lock.Lock.{Lock}

module _ (P : Reply → Type 0) where
  -- a call that makes no lock, and is not refused with the empty text but if that is allowed
  abbrev pub IsMade : LockCall → Type 0
  IsMade (lock.Create kind) = ⊥
  IsMade (lock.Destroy which text) = locks.is_first which text ≡ true → Empty P
  IsMade call = ⊤

module _ (P : Reply → Type 0) (goes : P reply.Go) (refuses : Refuses P) where
  abbrev Does : Done → Type 0
  Does done = P done.reply

  abbrev pub Tells : Answered LockTable → Type 0
  Tells answered = P answered.reply

  -- ---- one lock ----

  by_locks : (lock : Lock) (t : ℕ) → Does (one.locks lock t)
  by_locks lock t = go lock.kind refl
    where
      once : (b : ℕ) (message : List ℕ) → Does (if one.is_among lock.holders t then one.refuses lock (b ∷ message) else one.holds lock t false)
      once b message = by_if Does (one.is_among lock.holders t) _ _ (refuses b message) goes

      go : (kind : Kind) → lock.kind ≡ kind → Does (one.locks lock t)
      go Recursive is = rw (is, one.locks) goes
      go Exclusive is = rw (is, one.locks) (once _ _)
      go ReadWrite is = rw (is, one.locks) (once _ _)
      go Condition is = rw (is, one.locks) (once _ _)

  by_read : (lock : Lock) (t : ℕ) → Does (one.read_locks lock t)
  by_read lock t = by_if Does lock.writing _ _ (refuses _ _) goes

  by_write : (lock : Lock) (t : ℕ) → Does (one.write_locks lock t)
  by_write lock t =
      by_if Does (not (one.is_among lock.holders t)) _ _ goes (by_if Does lock.writing _ _ (refuses _ _) (refuses _ _))

  by_unlock : (lock : Lock) (t : ℕ) → Does (one.unlocks lock t)
  by_unlock lock t =
      by_if Does (one.has_none lock.holders) _ _ (refuses _ _) (by_if Does (not (one.is_among lock.holders t)) _ _ (refuses _ _) goes)

  -- ---- all ----

  by_missing : (which : Family) (table : LockTable) (text : List ℕ) → Tells (refusal table (locks.missing which text))
  by_missing family.Mutex table text = refuses _ _
  by_missing family.ReadWrite table text = refuses _ _
  by_missing family.Condition table text = refuses _ _

  by_use : (which : Family) (table : LockTable) → Tells (refusal table (locks.in_use which))
  by_use family.Mutex table = refuses _ _
  by_use family.ReadWrite table = refuses _ _
  by_use family.Condition table = refuses _ _

  by_acts : (does : Lock → ℕ → Done) (table : LockTable) (t : ℕ) (kind : Family) (text : List ℕ) → ((lock : Lock) → Does (does lock t)) →
      Tells (locks.acts_on does table t kind text (lock_in table kind text))
  by_acts does table t kind text each = go (lock_in table kind text)
    where
      go : (found : Option Lock) → Tells (locks.acts_on does table t kind text found)
      go None = by_missing kind table text
      go (Some lock) = each lock

  by_destroys : (table : LockTable) (which : Family) (text : List ℕ) → (locks.is_first which text ≡ true → Empty P) →
      Tells (locks.destroys_named table which text)
  by_destroys table which text none = go (locks.is_first which text) refl
    where
      found : (one : Option Lock) → Tells (locks.destroys table which text one)
      found None = by_missing which table text
      found (Some lock) = by_if Tells (one.has_none lock.holders && one.has_none lock.waiters) _ _ goes (by_use which table)

      go : (b : Bool) → locks.is_first which text ≡ b → Tells (if b then refusal table [] else locks.destroys table which text (lock_in table which text))
      go true is = none is
      go false is = found (lock_in table which text)

  by_waits : (table : LockTable) (t : ℕ) (cond mutex : List ℕ) → Tells (locks.begins_wait table t cond mutex)
  by_waits table t cond mutex = go (lock_in table family.Condition cond)
    where
      begins : (other : LockTable) → Tells (locks.begins other t cond)
      begins other = by_acts (λ one t. does_go (record one { waiters = one.waiters ++ t ∷ [] })) other t family.Condition cond (λ lock. goes)

      freed : Lock → LockTable
      freed lock = (locks.acts_on (λ one t. does_go (without_hold one t)) table t family.Mutex mutex (Some lock)).table

      gives_up : (found : Option Lock) → Tells (locks.gives_up table t cond mutex found)
      gives_up None = by_missing family.Mutex table mutex
      gives_up (Some lock) =
          by_if Tells (one.is_owned lock t) _ _ (begins (freed lock)) (refuses _ _)

      go : (found : Option Lock) → Tells (locks.cond_waits table t cond mutex found)
      go None = by_missing family.Condition table cond
      go (Some condition) = gives_up (lock_in table family.Mutex mutex)

  pub by_act : (table : LockTable) (t : ℕ) (call : LockCall) → IsMade P call → Tells (locks.act table t call)
  by_act table t (lock.Create kind) made = absurd made
  by_act table t (lock.Destroy which text) made = by_destroys table which text made
  by_act table t (lock.Lock text) made = by_acts one.locks table t family.Mutex text (λ lock. by_locks lock t)
  by_act table t (lock.ReadLock text) made = by_acts one.read_locks table t family.ReadWrite text (λ lock. by_read lock t)
  by_act table t (lock.WriteLock text) made = by_acts one.write_locks table t family.ReadWrite text (λ lock. by_write lock t)
  by_act table t (lock.Unlock which text) made = by_acts one.unlocks table t which text (λ lock. by_unlock lock t)
  by_act table t (lock.Notify text) made = by_acts (λ one t. does_go (record one { waiters = [] })) table t family.Condition text (λ lock. goes)
  by_act table t (lock.CondWait cond mutex after) made = by_waits table t cond mutex
  by_act table t (lock.CondTake cond mutex) made = by_acts (λ one t. does_go (with_hold one t false)) table t family.Mutex mutex (λ lock. goes)
