-- Who holds a lock: what is done to one lock keeps the rule, and so does each call.
use Rattle.std.proofs.Common.{◌≡◌, ◌∙◌, ◌≤◌, ◌&&◌, ◌||◌, ◌==◌, ℕ, zero, suc, Bool, true, false, not, cond}
use Rattle.std.proofs.Common.{if◌then◌else◌, List, [], ◌∷◌, ◌++◌, length, take, drop, Option, Some, None, IfSome, ap}
use Rattle.std.proofs.Common.{refl, sym, subst, arith, rules}
use Rattle.std.proofs.lemmas.List.Elements.{All-append, All-drop, All-head, All-tail, All-take}
use Rattle.std.proofs.lemmas.Map.Views.{All-map-remove_entry, All-values-insert_entry, All-values-set_value, IfSome-lookup_from_All}
use Rattle.std.specs.List.{All, prefix_len, remove}
use Rattle.std.specs.Cmp.Lexicographic.{slice_cmp}
use Rattle.std.specs.Ordering.{nat_cmp}
use Rattle.tt_calls.specs.declared.lock_call.Family.{Family}
use Rattle.tt_calls.specs.declared.lock_call.Family.TheVariants as family
use Rattle.tt_calls.specs.declared.lock_call.Kind.{Kind}
use Rattle.tt_calls.specs.declared.lock_call.Kind.TheVariants.{Exclusive, Recursive, ReadWrite, Condition}
use Rattle.tt_calls.specs.declared.lock_call.LockCall.{LockCall}
use Rattle.tt_calls.specs.declared.lock_call.LockCall.TheVariants as ask
use Rattle.tt_calls.specs.Replies.{refuses}
use Rattle.tt_locks.specs.Calls.{act, acts, acts_on, begins, cond_waits, destroys, destroys_named, gives_up, is_first, is_held, table_after, waits, waits_where}
use Rattle.tt_locks.specs.LockLaws.{AreAllowed, AreOfOne, HasOneHolder, HaveOneHolder, OneHolderLaw}
use Rattle.tt_locks.specs.Lock.{Done, does, family_of, free, has_none, with_hold, holds, is_among, is_held_by_others}
use Rattle.tt_locks.specs.Lock.{is_owned, locks, read_locks, without_hold, unlocks, waits_alone, without_one, write_locks}
use Rattle.tt_locks.specs.Table.{LockTable, in_family, is_id, is_same, lock_in, lock_of, new_id, with_lock}
use Rattle.tt_locks.specs.declared.lock.Deed.{Deed}
use Rattle.tt_locks.specs.declared.lock.Deed.TheVariants as deed
use Rattle.tt_locks.specs.declared.lock.Lock.{Lock}

-- ---- lists of holders ----

none-of : (holders : List ℕ) → has_none holders ≡ true → holders ≡ []
none-of [] none = refl
none-of (holder ∷ holders) none = absurd (cc none)

-- one hold less
remove-few : (holders : List ℕ) (i : ℕ) → length holders ≤ 1 → length (remove holders i) ≤ 1
remove-few [] zero few = omega arith
remove-few [] (suc i) few = omega arith
remove-few (one ∷ []) zero few = omega arith
remove-few (one ∷ []) (suc zero) few = omega arith
remove-few (one ∷ []) (suc (suc i)) few = omega arith
remove-few (one ∷ other ∷ holders) i few = absurd (omega (arith, few))

remove-all : (P : ℕ → Type 0) (holders : List ℕ) (i : ℕ) → All P holders → All P (remove holders i)
remove-all P holders i all = All-append P (take i holders) (drop (suc i) holders) (All-take P i holders all) (All-drop P (suc i) holders all)

-- who is among holds that are one thread's is that thread
among-is : (holders : List ℕ) (owner t : ℕ) → All (λ holder. holder ≡ owner) holders → is_among holders t ≡ true → t ≡ owner
among-is [] owner t all among = absurd (cc among)
among-is (holder ∷ holders) owner t all among = go (holder == t) refl (among-is holders owner t (All-tail (λ one. one ≡ owner) holder holders all)) among
  where
    go : (same : Bool) → (holder == t) ≡ same → (is_among holders t ≡ true → t ≡ owner) → (same || is_among holders t) ≡ true → t ≡ owner
    go true e later among =
        let here : holder ≡ owner = All-head (λ one. one ≡ owner) holder holders all in
        let is : holder ≡ t = search (rules, e) in
        sym is ∙ here
    go false e later among = later among

one-alone : (t : ℕ) → AreOfOne (t ∷ [])
one-alone t = (t, search rules)

-- ---- one lock ----

-- nobody waits for it, and the thread isn't among its holders: it has none
is-free : (lock : Lock) (t : ℕ) → is_held_by_others lock t ≡ false → is_among lock.holders t ≡ false → lock.holders ≡ []
is-free lock t none out = go (has_none lock.holders) refl none
  where
    go : (empty : Bool) → has_none lock.holders ≡ empty → (not empty && not (is_among lock.holders t)) ≡ false → lock.holders ≡ []
    go true e none = none-of lock.holders e
    go false e none = absurd (cc (sym none ∙ ap not out))

one-few : (t : ℕ) → length (t ∷ []) ≤ 1
one-few t = omega arith

-- the rule for a list of holders that is free, and then the thread's
taken : (kind : Kind) (writing : Bool) (holders : List ℕ) (t : ℕ) → holders ≡ [] → AreAllowed kind writing (holders ++ t ∷ [])
taken Exclusive writing holders t none = rw none (one-few t)
taken Recursive writing holders t none = rw none (one-alone t)
taken ReadWrite true holders t none = rw none (one-few t)
taken ReadWrite false holders t none = tt
taken Condition writing holders t none = tt

-- a recursive one is taken once more by its owner
again : (holders : List ℕ) (t : ℕ) → AreOfOne holders → is_among holders t ≡ true → AreOfOne (holders ++ t ∷ [])
again holders t one among =
    let is : t ≡ one.0 = among-is holders one.0 t one.1 among in
    (one.0, All-append (λ holder. holder ≡ one.0) holders (t ∷ []) one.1 (search (rules, is)))

-- one hold less, after which nobody writes
given-up : (kind : Kind) (writing : Bool) (holders : List ℕ) (i : ℕ) → AreAllowed kind writing holders → AreAllowed kind false (remove holders i)
given-up Exclusive writing holders i rule = remove-few holders i rule
given-up Recursive writing holders i rule = (rule.0, remove-all (λ holder. holder ≡ rule.0) holders i rule.1)
given-up ReadWrite writing holders i rule = tt
given-up Condition writing holders i rule = tt

mutex-locks : (lock : Lock) (t : ℕ) (kind : Kind) → lock.kind ≡ kind → is_same family.Mutex (family_of kind) ≡ true → waits_alone lock t ≡ false →
    HasOneHolder lock → HasOneHolder (locks lock t).lock
mutex-locks lock t Exclusive e of free rule = go (is_among lock.holders t) refl
  where
    go : (among : Bool) → is_among lock.holders t ≡ among → HasOneHolder (locks lock t).lock
    go true is = rw (e, is) (subst (λ kind. AreAllowed kind lock.writing lock.holders) e rule)
    go false is = rw (e, is) (taken Exclusive false lock.holders t (is-free lock t free is))
mutex-locks lock t Recursive e of free rule = go (is_among lock.holders t) refl
  where
    go : (among : Bool) → is_among lock.holders t ≡ among → HasOneHolder (locks lock t).lock
    go true is = rw e (again lock.holders t (subst (λ kind. AreAllowed kind lock.writing lock.holders) e rule) is)
    go false is = rw e (taken Recursive false lock.holders t (is-free lock t free is))
mutex-locks lock t ReadWrite e of free rule = absurd (cc of)
mutex-locks lock t Condition e of free rule = absurd (cc of)

reads : (lock : Lock) (t : ℕ) (kind : Kind) → lock.kind ≡ kind → is_same family.ReadWrite (family_of kind) ≡ true → HasOneHolder lock →
    HasOneHolder (read_locks lock t).lock
reads lock t Exclusive e of rule = absurd (cc of)
reads lock t Recursive e of rule = absurd (cc of)
reads lock t Condition e of rule = absurd (cc of)
reads lock t ReadWrite e of rule = go lock.writing refl
  where
    go : (writing : Bool) → lock.writing ≡ writing → HasOneHolder (read_locks lock t).lock
    go true is = rw is (subst (λ writing. AreAllowed lock.kind writing lock.holders) is rule)
    go false is = rw (is, e) tt

writes : (lock : Lock) (t : ℕ) → waits_alone lock t ≡ false → HasOneHolder lock → HasOneHolder (write_locks lock t).lock
writes lock t free rule = go (is_among lock.holders t) lock.writing refl refl
  where
    go : (among writing : Bool) → is_among lock.holders t ≡ among → lock.writing ≡ writing → HasOneHolder (write_locks lock t).lock
    go true true is w = rw (is, w) (subst (λ writing. AreAllowed lock.kind writing lock.holders) w rule)
    go true false is w = rw (is, w) (subst (λ writing. AreAllowed lock.kind writing lock.holders) w rule)
    go false writing is w = rw is (taken lock.kind true lock.holders t (is-free lock t free is))

gives-up-one : (lock : Lock) (t : ℕ) → HasOneHolder lock → HasOneHolder (without_hold lock t)
gives-up-one lock t rule = given-up lock.kind lock.writing lock.holders (prefix_len (λ thread. not (thread == t)) lock.holders) rule

unlocks-one : (lock : Lock) (t : ℕ) → HasOneHolder lock → HasOneHolder (unlocks lock t).lock
unlocks-one lock t rule = go (has_none lock.holders) (is_among lock.holders t) refl refl
  where
    go : (empty among : Bool) → has_none lock.holders ≡ empty → is_among lock.holders t ≡ among → HasOneHolder (unlocks lock t).lock
    go true among e is = rw e rule
    go false true e is = rw (e, is) (gives-up-one lock t rule)
    go false false e is = rw (e, is) rule

takes-one : (lock : Lock) (t : ℕ) → is_held lock t ≡ false → HasOneHolder (with_hold lock t false)
takes-one lock t free = go (has_none lock.holders) refl free
  where
    go : (empty : Bool) → has_none lock.holders ≡ empty → not empty ≡ false → HasOneHolder (with_hold lock t false)
    go true e none = taken lock.kind false lock.holders t (none-of lock.holders e)
    go false e none = absurd (cc none)

-- ---- the table ----

with-one : (table : LockTable) (text : List ℕ) (lock : Lock) → HaveOneHolder table → HasOneHolder lock → HaveOneHolder (with_lock table text lock)
with-one table [] lock have one = record { first = one; others = have.others }
with-one table (b ∷ text) lock have one =
    record { first = have.first; others = All-values-set_value (is_id (b ∷ text)) HasOneHolder table.others lock have.others one }

if-some : (P : Lock → Type 0) (found : Option Lock) (lock : Lock) → IfSome found P → found ≡ Some lock → P lock
if-some P None lock holds is = absurd (cc is)
if-some P (Some other) lock holds is = let same : other ≡ lock = cc is in subst P same holds

found-one : (table : LockTable) (text : List ℕ) (lock : Lock) → HaveOneHolder table → lock_of table text ≡ Some lock → HasOneHolder lock
found-one table [] lock have is = let same : table.first ≡ lock = cc is in subst HasOneHolder same have.first
found-one table (b ∷ text) lock have is = if-some HasOneHolder _ lock (IfSome-lookup_from_All HasOneHolder (is_id (b ∷ text)) table.others have.others) is

-- a lock that is found in a family is one of it
record Found (table : LockTable) (which : Family) (text : List ℕ) (lock : Lock) : Type 0 where
  there : lock_of table text ≡ Some lock
  of : is_same which (family_of lock.kind) ≡ true

found-in : (table : LockTable) (which : Family) (text : List ℕ) (lock : Lock) → lock_in table which text ≡ Some lock → Found table which text lock
found-in table which text lock is = go (lock_of table text) refl is
  where
    go : (found : Option Lock) → lock_of table text ≡ found → in_family which found ≡ Some lock → Found table which text lock
    go None e is = absurd (cc is)
    go (Some other) e is = by (is_same which (family_of other.kind)) refl is
      where
        by : (same : Bool) → is_same which (family_of other.kind) ≡ same → cond same (Some other) None ≡ Some lock → Found table which text lock
        by true of is = let same : other ≡ lock = cc is in record { there = e ∙ is; of = subst (λ one. is_same which (family_of one.kind) ≡ true) same of }
        by false of is = absurd (cc is)

-- what is done to a lock that is found, if that keeps the rule
acts-one : (table : LockTable) (t : ℕ) (which : Deed) (kind : Family) (text : List ℕ) → HaveOneHolder table →
    ((lock : Lock) → lock_in table kind text ≡ Some lock → HasOneHolder (does which lock t).lock) → HaveOneHolder (acts which table t kind text).table
acts-one table t which kind text have keeps = go (lock_in table kind text) refl
  where
    go : (found : Option Lock) → lock_in table kind text ≡ found → HaveOneHolder (acts_on (does which) table t kind text found).table
    go None e = have
    go (Some lock) e = with-one table text (does which lock t).lock have (keeps lock e)

not-waiting : (waits_for : Lock → ℕ → Bool) (t : ℕ) (found : Option Lock) (lock : Lock) → found ≡ Some lock → waits_where waits_for t found ≡ false →
    waits_for lock t ≡ false
not-waiting waits_for t None lock is free = absurd (cc is)
not-waiting waits_for t (Some other) lock is free = let same : other ≡ lock = cc is in subst (λ one. waits_for one t ≡ false) same free

one-in : (table : LockTable) (which : Family) (text : List ℕ) (lock : Lock) → HaveOneHolder table → lock_in table which text ≡ Some lock → HasOneHolder lock
one-in table which text lock have is = found-one table text lock have (found-in table which text lock is).there

destroys-one : (table : LockTable) (which : Family) (text : List ℕ) (found : Option Lock) → HaveOneHolder table →
    HaveOneHolder (destroys table which text found).table
destroys-one table which text None have = have
destroys-one table which text (Some lock) have = go (has_none lock.holders && has_none lock.waiters) refl
  where
    go : (unused : Bool) → (has_none lock.holders && has_none lock.waiters) ≡ unused → HaveOneHolder (destroys table which text (Some lock)).table
    go true e = rw e (record { first = have.first; others = All-map-remove_entry (is_id text) (λ entry. entry.1) HasOneHolder table.others have.others })
    go false e = rw e have

named-one : (table : LockTable) (which : Family) (text : List ℕ) → HaveOneHolder table → HaveOneHolder (destroys_named table which text).table
named-one table which text have = go (is_first which text)
  where
    go : (first : Bool) → HaveOneHolder (if first then refuses table [] else destroys table which text (lock_in table which text)).table
    go true = have
    go false = destroys-one table which text (lock_in table which text) have

begins-one : (table : LockTable) (t : ℕ) (condition : List ℕ) → HaveOneHolder table → HaveOneHolder (begins table t condition).table
begins-one table t condition have = acts-one table t deed.Wait family.Condition condition have (λ lock e. one-in table family.Condition condition lock have e)

gives-up-mutex : (table : LockTable) (t : ℕ) (condition mutex : List ℕ) (found : Option Lock) → lock_in table family.Mutex mutex ≡ found →
    HaveOneHolder table → HaveOneHolder (gives_up table t condition mutex found).table
gives-up-mutex table t condition mutex None e have = have
gives-up-mutex table t condition mutex (Some lock) e have = go (is_owned lock t) refl
  where
    go : (owned : Bool) → is_owned lock t ≡ owned → HaveOneHolder (gives_up table t condition mutex (Some lock)).table
    go true is =
        rw is (begins-one (acts_on (does deed.Free) table t family.Mutex mutex (Some lock)).table t condition
        (with-one table mutex (without_hold lock t) have (gives-up-one lock t (one-in table family.Mutex mutex lock have e))))
    go false is = rw is have

cond-one : (table : LockTable) (t : ℕ) (condition mutex : List ℕ) (found : Option Lock) → HaveOneHolder table →
    HaveOneHolder (cond_waits table t condition mutex found).table
cond-one table t condition mutex None have = have
cond-one table t condition mutex (Some lock) have = gives-up-mutex table t condition mutex (lock_in table family.Mutex mutex) refl have

free-one : (kind : Kind) → HasOneHolder (free kind)
free-one Exclusive = omega arith
free-one Recursive = (0, search rules)
free-one ReadWrite = tt
free-one Condition = tt

either : (b c : Bool) → (b || c) ≡ false → c ≡ false
either true c e = absurd (cc e)
either false c e = e

act-one : (table : LockTable) (t : ℕ) (call : LockCall) → waits table t call ≡ false → HaveOneHolder table → HaveOneHolder (act table t call).table
act-one table t (ask.Create kind) free have =
    record {
      first =
          have.first;
      others =
          All-values-insert_entry (slice_cmp nat_cmp) (new_id table kind) (Rattle.tt_locks.specs.Lock.free kind) HasOneHolder table.others have.others
          (free-one kind);
    }
act-one table t (ask.Destroy which text) free have = named-one table which text have
act-one table t (ask.Lock text) free have =
    acts-one table t deed.Lock family.Mutex text have
    (λ lock e. mutex-locks lock t lock.kind refl (found-in table family.Mutex text lock e).of
    (not-waiting waits_alone t (lock_in table family.Mutex text) lock e free) (one-in table family.Mutex text lock have e))
act-one table t (ask.ReadLock text) free have =
    acts-one table t deed.Read family.ReadWrite text have
    (λ lock e. reads lock t lock.kind refl (found-in table family.ReadWrite text lock e).of (one-in table family.ReadWrite text lock have e))
act-one table t (ask.WriteLock text) free have =
    acts-one table t deed.Write family.ReadWrite text have
    (λ lock e. writes lock t (not-waiting waits_alone t (lock_in table family.ReadWrite text) lock e free) (one-in table family.ReadWrite text lock have e))
act-one table t (ask.Unlock which text) free have =
    acts-one table t deed.Unlock which text have (λ lock e. unlocks-one lock t (one-in table which text lock have e))
act-one table t (ask.Notify text) free have =
    acts-one table t deed.Notify family.Condition text have (λ lock e. one-in table family.Condition text lock have e)
act-one table t (ask.CondWait condition mutex after) free have = cond-one table t condition mutex (lock_in table family.Condition condition) have
act-one table t (ask.CondTake condition mutex) free have =
    acts-one table t deed.Take family.Mutex mutex have
    (λ lock e. takes-one lock t (not-waiting is_held t (lock_in table family.Mutex mutex) lock e (either _ _ free)))

pub one_holder : OneHolderLaw
one_holder = record {
  start = record { first = (0, search rules); others = search rules };
  stays = λ table t call have. after table t call have (waits table t call) refl;
}
  where
    after : (table : LockTable) (t : ℕ) (call : LockCall) → HaveOneHolder table → (waiting : Bool) → waits table t call ≡ waiting →
        HaveOneHolder (table_after table t call)
    after table t call have true e = rw e have
    after table t call have false e = rw e (act-one table t call e have)
