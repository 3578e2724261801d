-- A call on locks leaves a thread that holds one still its hold as it was.
use Rattle.std.proofs.Common.{◌≡◌, ◌∙◌, ◌&&◌, ℕ, Bool, true, false, cond, if◌then◌else◌, List, [], ◌∷◌, ◌++◌, Option, Some, None, IfSome, ap, refl, sym, subst}
use Rattle.std.proofs.lemmas.Map.Views.{IfSome-lookup_from_All}
use Rattle.tt_calls.specs.declared.lock_call.Family.{Family}
use Rattle.tt_calls.specs.declared.lock_call.Family.TheVariants as family
use Rattle.tt_calls.specs.declared.lock_call.Kind.{Kind}
use Rattle.tt_calls.specs.declared.lock_call.Kind.TheVariants.{Exclusive, Recursive, ReadWrite, Condition}
use Rattle.tt_calls.specs.declared.lock_call.LockCall.{LockCall}
use Rattle.tt_calls.specs.declared.lock_call.LockCall.TheVariants as ask
use Rattle.tt_calls.specs.Replies.{refuses}
use Rattle.tt_locks.specs.Calls.{act, acts_on, begins, cond_waits, destroys, destroys_named, gives_up, is_first, table_after, waits, waits_where}
use Rattle.tt_locks.specs.LockLaws.{HasOneHolder, HaveOneHolder}
use Rattle.tt_locks.specs.Lock.{Done, does_go, family_of, free, with_hold, locks, read_locks, unlocks, write_locks, has_none}
use Rattle.tt_locks.specs.Lock.{is_among, is_owned, without_hold, waits_alone}
use Rattle.tt_locks.specs.Table.{LockTable, in_family, is_id, is_same, lock_in, lock_of, new_id, with_lock, with_new, without_lock}
use Rattle.tt_locks.specs.declared.lock.Lock.{Lock}
use Rattle.laws_shared.proofs.LockHolds.{Still, among, by_lock, by_read, by_take, by_unheld, by_unlock, by_write, none-among, unchanged}
use Rattle.laws_shared.proofs.Tables.{by_insert, by_remove, by_set}
use Rattle.laws_shared.specs.HeldLocks.{hold_in}

-- ---- the table ----

by_with : (P : Option Lock → Type 0) (table : LockTable) (text id : List ℕ) (new : Lock)
    → (text ≡ id → P (lock_of table id) → P (Some new)) → P (lock_of table text) → P (lock_of (with_lock table id new) text)
by_with P table [] [] new holding is = holding refl is
by_with P table (b ∷ text) [] new holding is = is
by_with P table [] (c ∷ id) new holding is = is
by_with P table (b ∷ text) (c ∷ id) new holding is = by_set P (b ∷ text) (c ∷ id) table.others new holding is

-- a lock that is found in a family is one of it
record Found (table : LockTable) (which : Family) (text : List ℕ) (lock : Lock) : Type 0 where
  there : lock_of table text ≡ Some lock
  of : is_same which (family_of lock.kind) ≡ true

found_in : (table : LockTable) (which : Family) (text : List ℕ) (lock : Lock) → lock_in table which text ≡ Some lock → Found table which text lock
found_in table which text lock is = go (lock_of table text) refl is
  where
    go : (found : Option Lock) → lock_of table text ≡ found → in_family which found ≡ Some lock → Found table which text lock
    go None e is = absurd (cc is)
    go (Some other) e is = by (is_same which (family_of other.kind)) refl is
      where
        by : (same : Bool) → is_same which (family_of other.kind) ≡ same → cond same (Some other) None ≡ Some lock → Found table which text lock
        by true of is = let same : other ≡ lock = cc is in record { there = e ∙ is; of = subst (λ one. is_same which (family_of one.kind) ≡ true) same of }
        by false of is = absurd (cc is)

if_some : (P : Lock → Type 0) (found : Option Lock) (lock : Lock) → IfSome found P → found ≡ Some lock → P lock
if_some P None lock holds is = absurd (cc is)
if_some P (Some other) lock holds is = let same : other ≡ lock = cc is in subst P same holds

pub one_of : (table : LockTable) (text : List ℕ) (lock : Lock) → HaveOneHolder table → lock_of table text ≡ Some lock → HasOneHolder lock
one_of table [] lock have is = let same : table.first ≡ lock = cc is in subst HasOneHolder same have.first
one_of table (b ∷ text) lock have is = if_some HasOneHolder _ lock (IfSome-lookup_from_All HasOneHolder (is_id (b ∷ text)) table.others have.others) is

not_waiting : (waits_for : Lock → ℕ → Bool) (t : ℕ) (found : Option Lock) (lock : Lock) → found ≡ Some lock → waits_where waits_for t found ≡ false →
    waits_for lock t ≡ false
not_waiting waits_for t None lock is free = absurd (cc is)
not_waiting waits_for t (Some other) lock is free = let same : other ≡ lock = cc is in subst (λ one. waits_for one t ≡ false) same free

-- ---- calls ----

-- a thread more waits for a condition
abbrev waits_too : Lock → ℕ → Done
waits_too lock t = does_go (record lock { waiters = lock.waiters ++ t ∷ [] })

module _ (table : LockTable) (t u : ℕ) (text : List ℕ) (alone : Bool) (have : HaveOneHolder table) (was : hold_in t (lock_of table text) ≡ Some alone) where
  abbrev StillIn : LockTable → Type 0
  StillIn other = Still t alone (lock_of other text)

  same : StillIn table
  same now holds = let both : Some now ≡ Some alone = sym holds ∙ was in cc both

  -- what is done to a lock that is found
  if_here : (id : List ℕ) (old : Lock) → lock_of table id ≡ Some old → text ≡ id → hold_in t (Some old) ≡ Some alone
  if_here id old there is = ap (hold_in t) (sym there) ∙ subst (λ one. hold_in t (lock_of table one) ≡ Some alone) is was

  by_deed : (does : Lock → ℕ → Done) (kind : Family) (id : List ℕ)
      → ((lock : Lock) → lock_in table kind id ≡ Some lock → Found table kind id lock → hold_in t (Some lock) ≡ Some alone →
      Still t alone (Some (does lock u).lock))
      → StillIn (acts_on does table u kind id (lock_in table kind id)).table
  by_deed does kind id keeps = go (lock_in table kind id) refl
    where
      go : (found : Option Lock) → lock_in table kind id ≡ found → StillIn (acts_on does table u kind id found).table
      go None is = same
      go (Some lock) is =
          let found = found_in table kind id lock is in
          by_with (Still t alone) table text id (does lock u).lock (λ here had. keeps lock is found (if_here id lock found.there here)) same

  by_create : (kind : Kind) → StillIn (with_new table kind)
  by_create kind = go text same
    where
      new : Still t alone (Some (free kind))
      new now holds = absurd (cc holds)

      go : (one : List ℕ) → Still t alone (lock_of table one) → Still t alone (lock_of (with_new table kind) one)
      go [] is = is
      go (b ∷ rest) is = by_insert (Still t alone) (b ∷ rest) (new_id table kind) table.others (free kind) (λ here. new) is

  by_without : (id : List ℕ) → (text ≡ id → ⊥) → StillIn (without_lock table id)
  by_without id other = go text other same
    where
      go : (one : List ℕ) → (one ≡ id → ⊥) → Still t alone (lock_of table one) → Still t alone (lock_of (without_lock table id) one)
      go [] other is = is
      go (c ∷ rest) other is = by_remove (Still t alone) (c ∷ rest) id table.others other is

  by_found : (kind : Family) (id : List ℕ) → StillIn (destroys table kind id (lock_in table kind id)).table
  by_found kind id = go (lock_in table kind id) refl
    where
      both : (x y : Bool) → (x && y) ≡ true → x ≡ true
      both true y is = refl
      both false y is = absurd (cc is)

      go : (found : Option Lock) → lock_in table kind id ≡ found → StillIn (destroys table kind id found).table
      go None is = same
      go (Some lock) is = unused (has_none lock.holders && has_none lock.waiters) refl
        where
          in_use : (has_none lock.holders && has_none lock.waiters) ≡ true → text ≡ id → ⊥
          in_use none here =
              none-among lock.holders t (both (has_none lock.holders) (has_none lock.waiters) none)
              (among t lock alone (if_here id lock (found_in table kind id lock is).there here)).0

          unused : (none : Bool) → (has_none lock.holders && has_none lock.waiters) ≡ none → StillIn (destroys table kind id (Some lock)).table
          unused true none = rw none (by_without id (in_use none))
          unused false none = rw none same

  by_destroy : (kind : Family) (id : List ℕ) → StillIn (destroys_named table kind id).table
  by_destroy kind id = go (is_first kind id)
    where
      go : (first : Bool) → StillIn (if first then refuses table [] else destroys table kind id (lock_in table kind id)).table
      go true = same
      go false = by_found kind id

  by_begin : (other : LockTable) (condition : List ℕ) → StillIn other → StillIn (begins other u condition).table
  by_begin other condition still = go (lock_in other family.Condition condition) refl
    where
      go : (found : Option Lock) → lock_in other family.Condition condition ≡ found → StillIn (acts_on waits_too other u family.Condition condition found).table
      go None is = still
      go (Some lock) is =
          let there = (found_in other family.Condition condition lock is).there in
          by_with (Still t alone) other text condition (waits_too lock u).lock (λ here had. subst (Still t alone) there had) still

  by_give : (condition mutex : List ℕ) (found : Option Lock) → lock_in table family.Mutex mutex ≡ found → StillIn (gives_up table u condition mutex found).table
  by_give condition mutex None is = same
  by_give condition mutex (Some lock) is = go (is_owned lock u) refl
    where
      there : lock_of table mutex ≡ Some lock
      there = (found_in table family.Mutex mutex lock is).there

      owned : (kind : Kind) → elim kind [ Exclusive ↦ is_among lock.holders u | other ↦ false ] ≡ true → is_among lock.holders u ≡ true
      owned Exclusive is = is
      owned Recursive is = absurd (cc is)
      owned ReadWrite is = absurd (cc is)
      owned Condition is = absurd (cc is)

      go : (b : Bool) → is_owned lock u ≡ b → StillIn (gives_up table u condition mutex (Some lock)).table
      go true mine =
          rw mine (by_begin (with_lock table mutex (without_hold lock u)) condition
          (by_with (Still t alone) table text mutex (without_hold lock u)
          (λ here had. by_unheld lock t u alone (if_here mutex lock there here) (one_of table mutex lock have there) (owned lock.kind mine)) same))
      go false mine = rw mine same

  by_wait : (condition mutex : List ℕ) (found : Option Lock) → StillIn (cond_waits table u condition mutex found).table
  by_wait condition mutex None = same
  by_wait condition mutex (Some lock) = by_give condition mutex (lock_in table family.Mutex mutex) refl

  by_act : (call : LockCall) → waits table u call ≡ false → StillIn (act table u call).table
  by_act (ask.Create kind) free = by_create kind
  by_act (ask.Destroy kind id) free = by_destroy kind id
  by_act (ask.Lock id) free = by_deed locks family.Mutex id (λ lock is found had. by_lock lock t u alone had found.of)
  by_act (ask.ReadLock id) free = by_deed read_locks family.ReadWrite id (λ lock is found had. by_read lock t u alone had)
  by_act (ask.WriteLock id) free =
      by_deed write_locks family.ReadWrite id
      (λ lock is found had. by_write lock t u alone had (not_waiting waits_alone u (lock_in table family.ReadWrite id) lock is free))
  by_act (ask.Unlock kind id) free = by_deed unlocks kind id (λ lock is found had. by_unlock lock t u alone had (one_of table id lock have found.there))
  by_act (ask.Notify id) free =
      by_deed (λ lock t. does_go (record lock { waiters = [] })) family.Condition id (λ lock is found had. unchanged lock t u alone had)
  by_act (ask.CondWait condition mutex after) free = by_wait condition mutex (lock_in table family.Condition condition)
  by_act (ask.CondTake condition mutex) free =
      by_deed (λ lock t. does_go (with_hold lock t false)) family.Mutex mutex (λ lock is found had. by_take lock t u alone had found.of)

  pub still_after : (call : LockCall) → StillIn (table_after table u call)
  still_after call = go (waits table u call) refl
    where
      go : (waiting : Bool) → waits table u call ≡ waiting → StillIn (if waiting then table else (act table u call).table)
      go true is = same
      go false is = by_act call is
