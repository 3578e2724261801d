-- Who waits for a lock that another thread holds waits on.
use Rattle.std.proofs.Common.{◌≡◌, ◌≢◌, ◌∙◌, ◌==◌, ◌&&◌, ◌||◌, ◌<◌, ◌^◌, ◌++◌, ℕ, suc, zero, Bool, true, false, not, cond, if◌then◌else◌, List, [], ◌∷◌}
use Rattle.std.proofs.Common.{Option, Some, None, refl, ap, sym, subst, arith}
use Rattle.std.specs.List.{Contains}
use Rattle.laws_caught.proofs.Arrays.{in_none}
use Rattle.laws_caught.proofs.Ended.{lives_on}
use Rattle.laws_caught.proofs.LockDeeds.{Kept, by_lock, by_read, by_take, by_unheld, by_unlock, by_write, unchanged}
use Rattle.laws_caught.proofs.LockTables.{is_new, reached_drawn, up_after}
use Rattle.laws_caught.specs.WaitLaws.{AllFit, LockWaitLaw}
use Rattle.laws_shared.proofs.Deciding as deciding
use Rattle.laws_shared.proofs.Families.{locks_kept}
use Rattle.laws_shared.proofs.HeldLocks.{reached_have}
use Rattle.laws_shared.proofs.LockCalls.{one_of}
use Rattle.laws_shared.proofs.LockHolds.{none-among}
use Rattle.laws_shared.proofs.Tables.{at, by_insert, by_remove, by_set}
use Rattle.laws_shared.specs.Actions.{Moment, Reached}
use Rattle.laws_shared.specs.Orderly.{later}
use Rattle.tt_calls.specs.Replies.{refuses}
use Rattle.tt_calls.specs.declared.lock_call.Family.{Family}
use Rattle.tt_calls.specs.declared.lock_call.Family.TheVariants as family
use Rattle.tt_calls.specs.declared.lock_call.Kind.{Kind}
use Rattle.tt_calls.specs.declared.lock_call.Kind.TheVariants.{Exclusive, Recursive, ReadWrite, Condition}
use Rattle.tt_calls.specs.declared.lock_call.LockCall.{LockCall}
use Rattle.tt_calls.specs.declared.lock_call.LockCall.TheVariants as ask
use Rattle.tt_calls.specs.declared.request.Request.{Request}
use Rattle.tt_calls.specs.declared.request.Request.TheVariants as asks
use Rattle.tt_locks.specs.Blocking.{holders_in}
use Rattle.tt_locks.specs.Calls.{act, acts_on, begins, cond_waits, destroys, destroys_named, gives_up, is_first, is_held, is_waiter, table_after, waits, waits_where}
use Rattle.tt_locks.specs.Lock.{Done, does_go, family_of, free, has_none, is_among, is_held_by_others, is_owned, locks, read_locks, unlocks, waits_alone}
use Rattle.tt_locks.specs.Lock.{waits_to_read, with_hold, without_hold, write_locks}
use Rattle.tt_locks.specs.LockLaws.{HasOneHolder, HaveOneHolder}
use Rattle.tt_locks.specs.Table.{LockTable, in_family, is_same, lock_in, lock_of, new_id, number_of, with_lock, with_new, without_lock}
use Rattle.tt_locks.specs.declared.lock.Lock.{Lock}
use Rattle.tt_shared.specs.Acts.{act as acts_shared}
use Rattle.tt_shared.specs.State.{State}
use Rattle.tt_shared.specs.declared.applied.Line.{Line}

-- ---- what is found ----

record InFamily (table : LockTable) (which : Family) (text : List ℕ) (lock : Lock) : Type 0 where
  there : lock_of table text ≡ Some lock
  of : is_same which (family_of lock.kind) ≡ true

found_in : (table : LockTable) (which : Family) (text : List ℕ) (lock : Lock) → lock_in table which text ≡ Some lock → InFamily table which text lock
found_in table which text lock is = go (lock_of table text) refl is
  where
    by : (other : Lock) (same : Bool) → is_same which (family_of other.kind) ≡ same → lock_of table text ≡ Some other → cond same (Some other) None ≡ Some lock →
        InFamily table which text lock
    by other true of there is =
        let same : other ≡ lock = cc is in
        record { there = there ∙ is; of = subst (λ one. is_same which (family_of one.kind) ≡ true) same of }
    by other false of there is = absurd (cc is)

    go : (found : Option Lock) → lock_of table text ≡ found → in_family which found ≡ Some lock → InFamily table which text lock
    go None there is = absurd (cc is)
    go (Some other) there is = by other (is_same which (family_of other.kind)) refl there is

by_with : (P : Option Lock → Type 0) (table : LockTable) (text id : List ℕ) (new : Lock) → (text ≡ id → P (lock_of table id) → P (Some new)) →
    P (lock_of table text) → P (lock_of (with_lock table id new) text)
by_with P table [] [] new holding is = holding refl is
by_with P table (b ∷ text) [] new holding is = is
by_with P table [] (c ∷ id) new holding is = is
by_with P table (b ∷ text) (c ∷ id) new holding is = by_set P (b ∷ text) (c ∷ id) table.others new holding is

-- a lock is there, and as it was for the two
record IsThere (t u : ℕ) (old : Lock) (found : Option Lock) : Type 0 where
  new : Lock
  there : found ≡ Some new
  kept : Kept t u old new

same_lock : (one other : Lock) → Some one ≡ Some other → one ≡ other
same_lock one other is = cc is

-- a thread more waits for a condition
abbrev waits_too : Lock → ℕ → Done
waits_too one n = does_go (record one { waiters = one.waiters ++ n ∷ [] })

module _ (table : LockTable) (t u n : ℕ) (text : List ℕ) (lock : Lock) (there : lock_of table text ≡ Some lock) (not_t : n ≢ t) (not_u : n ≢ u)
    (held : is_among lock.holders u ≡ true) (have : HaveOneHolder table)
    (fresh : (kind : Kind) (b : ℕ) (rest : List ℕ) → text ≡ b ∷ rest → text ≢ new_id table kind) where
  abbrev Holds : LockTable → Type 0
  Holds other = IsThere t u lock (lock_of other text)

  allowed : HasOneHolder lock
  allowed = one_of table text lock have there

  as_it_was : Kept t u lock lock
  as_it_was = unchanged lock t u n not_t not_u held allowed

  same : Holds table
  same = record { new = lock; there = there; kept = as_it_was }

  -- the lock that an id names is this one
  is_this : (id : List ℕ) (other : Lock) → lock_of table id ≡ Some other → text ≡ id → lock ≡ other
  is_this id other found is = same_lock lock other (sym there ∙ ap (lock_of table) is ∙ found)

  -- what is done to a lock that is found
  by_deed : (done : Lock → ℕ → Done) (kind : Family) (id : List ℕ) →
      (is_same kind (family_of lock.kind) ≡ true → Kept t u lock (done lock n).lock) → Holds (acts_on done table n kind id (lock_in table kind id)).table
  by_deed done kind id keeps = go (lock_in table kind id) refl
    where
      go : (found : Option Lock) → lock_in table kind id ≡ found → Holds (acts_on done table n kind id found).table
      go None is = same
      go (Some other) is =
          let found = found_in table kind id other is in
          by_with (IsThere t u lock) table text id (done other n).lock
          (λ here had.
          let this = is_this id other found.there here in
          let of = subst (λ one. is_same kind (family_of one.kind) ≡ true) (sym this) found.of in
          record { new = (done other n).lock; there = refl; kept = subst (λ one. Kept t u lock (done one n).lock) this (keeps of) })
          same

  by_create : (kind : Kind) → Holds (with_new table kind)
  by_create kind = go text refl
    where
      go : (one : List ℕ) → text ≡ one → IsThere t u lock (lock_of (with_new table kind) one)
      go [] is = record { new = lock; there = sym (ap (lock_of table) is) ∙ there; kept = as_it_was }
      go (b ∷ rest) is =
          by_insert (IsThere t u lock) (b ∷ rest) (new_id table kind) table.others (free kind) (λ here. absurd (fresh kind b rest is (is ∙ here)))
          (subst (λ one. IsThere t u lock (lock_of table one)) is same)

  by_without : (id : List ℕ) → text ≢ id → Holds (without_lock table id)
  by_without id other = go text other same
    where
      go : (one : List ℕ) → one ≢ id → IsThere t u lock (lock_of table one) → IsThere t u lock (lock_of (without_lock table id) one)
      go [] other is = is
      go (c ∷ rest) other is = by_remove (IsThere t u lock) (c ∷ rest) id table.others other is

  both : (x y : Bool) → (x && y) ≡ true → x ≡ true
  both true y is = refl
  both false y is = absurd (cc is)

  by_found : (kind : Family) (id : List ℕ) (found : Option Lock) → lock_in table kind id ≡ found → Holds (destroys table kind id found).table
  by_found kind id None is = same
  by_found kind id (Some other) is = unused (has_none other.holders && has_none other.waiters) refl
    where
      in_use : (has_none other.holders && has_none other.waiters) ≡ true → text ≢ id
      in_use none here =
          let this = is_this id other (found_in table kind id other is).there here in
          none-among other.holders u (both (has_none other.holders) (has_none other.waiters) none) (subst (λ one. is_among one.holders u ≡ true) this held)

      unused : (none : Bool) → (has_none other.holders && has_none other.waiters) ≡ none → Holds (destroys table kind id (Some other)).table
      unused true none = rw none (by_without id (in_use none))
      unused false none = rw none same

  by_destroy : (kind : Family) (id : List ℕ) → Holds (destroys_named table kind id).table
  by_destroy kind id = go (is_first kind id)
    where
      go : (first : Bool) → Holds (if first then refuses table [] else destroys table kind id (lock_in table kind id)).table
      go true = same
      go false = by_found kind id (lock_in table kind id) refl

  by_begin : (other : LockTable) (condition : List ℕ) → Holds other → Holds (begins other n condition).table
  by_begin other condition still = go (lock_in other family.Condition condition) refl
    where
      go : (found : Option Lock) → lock_in other family.Condition condition ≡ found → Holds (acts_on waits_too other n family.Condition condition found).table
      go None is = still
      go (Some one) is =
          let found = (found_in other family.Condition condition one is).there in
          by_with (IsThere t u lock) other text condition (waits_too one n).lock
          (λ here had.
          let this : had.new ≡ one = same_lock had.new one (sym had.there ∙ found) in
          let kept = subst (λ two. Kept t u lock two) this had.kept in
          record { new = (waits_too one n).lock; there = refl; kept = record { kind = kept.kind; mine = kept.mine; theirs = kept.theirs; written = kept.written } })
          still

  owned : (one : Lock) (kind : Kind) → elim kind [ Exclusive ↦ is_among one.holders n | other ↦ false ] ≡ true → is_among one.holders n ≡ true
  owned one Exclusive is = is
  owned one Recursive is = absurd (cc is)
  owned one ReadWrite is = absurd (cc is)
  owned one Condition is = absurd (cc is)

  by_give : (condition mutex : List ℕ) (found : Option Lock) → lock_in table family.Mutex mutex ≡ found → Holds (gives_up table n condition mutex found).table
  by_give condition mutex None is = same
  by_give condition mutex (Some one) is = go (is_owned one n) refl
    where
      found : lock_of table mutex ≡ Some one
      found = (found_in table family.Mutex mutex one is).there

      go : (b : Bool) → is_owned one n ≡ b → Holds (gives_up table n condition mutex (Some one)).table
      go true mine =
          rw mine (by_begin (with_lock table mutex (without_hold one n)) condition
          (by_with (IsThere t u lock) table text mutex (without_hold one n)
          (λ here had.
          let this = is_this mutex one found here in
          let among = subst (λ two. is_among two.holders n ≡ true) (sym this) (owned one one.kind mine) in
          let kept = subst (λ two. Kept t u lock (without_hold two n)) this (by_unheld lock t u n not_t not_u held allowed among) in
          record { new = without_hold one n; there = refl; kept = kept })
          same))
      go false mine = rw mine same

  by_wait : (condition mutex : List ℕ) (found : Option Lock) → Holds (cond_waits table n condition mutex found).table
  by_wait condition mutex None = same
  by_wait condition mutex (Some one) = by_give condition mutex (lock_in table family.Mutex mutex) refl

  by_act : (call : LockCall) → Holds (act table n call).table
  by_act (ask.Create kind) = by_create kind
  by_act (ask.Destroy kind id) = by_destroy kind id
  by_act (ask.Lock id) = by_deed locks family.Mutex id (λ of. by_lock lock t u n not_t not_u held allowed of)
  by_act (ask.ReadLock id) = by_deed read_locks family.ReadWrite id (λ of. by_read lock t u n not_t not_u held allowed)
  by_act (ask.WriteLock id) = by_deed write_locks family.ReadWrite id (λ of. by_write lock t u n not_t not_u held allowed)
  by_act (ask.Unlock kind id) = by_deed unlocks kind id (λ of. by_unlock lock t u n not_t not_u held allowed)
  by_act (ask.Notify id) =
      by_deed (λ one n. does_go (record one { waiters = [] })) family.Condition id
      (λ of. record { kind = refl; mine = refl; theirs = refl; written = λ kind writes. writes })
  by_act (ask.CondWait condition mutex after) = by_wait condition mutex (lock_in table family.Condition condition)
  by_act (ask.CondTake condition mutex) =
      by_deed (λ one n. does_go (with_hold one n false)) family.Mutex mutex (λ of. by_take lock t u n not_t not_u held allowed of)

  there_after : (call : LockCall) → Holds (table_after table n call)
  there_after call = go (waits table n call)
    where
      go : (waiting : Bool) → Holds (if waiting then table else (act table n call).table)
      go true = same
      go false = by_act call

-- ---- who holds it ----

among_is : (threads : List ℕ) (u : ℕ) → Contains threads u → is_among threads u ≡ true
among_is [] u there = in_none _ u there
among_is (x ∷ threads) u (zero, within, is) = ap (λ b. b || is_among threads u) (subst (λ one. (x == one) ≡ true) is (deciding.itself x))
among_is (x ∷ threads) u (suc k, within, is) = or_later (x == u) (among_is threads u (k, omega (arith, within), is))
  where
    or_later : (b : Bool) → is_among threads u ≡ true → (b || is_among threads u) ≡ true
    or_later true is = refl
    or_later false is = is

is_among_them : (threads : List ℕ) (u : ℕ) → is_among threads u ≡ true → Contains threads u
is_among_them [] u is = absurd (cc is)
is_among_them (x ∷ threads) u is = go (x == u) refl is (is_among_them threads u)
  where
    go : (b : Bool) → (x == u) ≡ b → (b || is_among threads u) ≡ true → (is_among threads u ≡ true → Contains threads u) → Contains (x ∷ threads) u
    go true same is later = (0, omega arith, deciding.same x u same)
    go false other is later = let there = later is in (suc there.0, omega (arith, there.1), there.2)

unwaited : (b : Bool) → not b ≡ false → b ≡ true
unwaited true is = refl
unwaited false is = absurd (cc is)

-- of a lock that is named, the two
record IsNamed (table : LockTable) (which : Family) (text : List ℕ) (u : ℕ) : Type 0 where
  lock : Lock
  found : lock_in table which text ≡ Some lock
  held : is_among lock.holders u ≡ true

named_in : (table : LockTable) (which : Family) (text : List ℕ) (u : ℕ) → Contains (holders_in (lock_in table which text)) u → IsNamed table which text u
named_in table which text u named = go (lock_in table which text) refl named
  where
    go : (found : Option Lock) → lock_in table which text ≡ found → Contains (holders_in found) u → IsNamed table which text u
    go None is named = in_none _ u named
    go (Some lock) is named = record { lock = lock; found = is; held = among_is lock.holders u named }

-- the same lock after an action of another
record IsLater (old new : LockTable) (which : Family) (text : List ℕ) (t u : ℕ) (lock : Lock) : Type 0 where
  new_lock : Lock
  found : lock_in new which text ≡ Some new_lock
  kept : Kept t u lock new_lock

in_same : (which : Family) (found : Option Lock) (lock : Lock) → found ≡ Some lock → is_same which (family_of lock.kind) ≡ true →
    in_family which found ≡ Some lock
in_same which found lock is of = ap (in_family which) is ∙ ap (λ b. cond b (Some lock) None) of

module _ (moment : Moment) (t u : ℕ) (which : Family) (text : List ℕ) where
  still : (request : Request) (line : Line) (n : ℕ) (lock : Lock) → n ≢ t → n ≢ u → HaveOneHolder moment.before.locks →
      ((kind : Kind) (b : ℕ) (rest : List ℕ) → text ≡ b ∷ rest → text ≢ new_id moment.before.locks kind) →
      lock_of moment.before.locks text ≡ Some lock → is_among lock.holders u ≡ true →
      IsThere t u lock (lock_of (acts_shared moment.before n request line).state.locks text)
  still (asks.Lock call) line n lock not_t not_u have fresh there held =
      there_after moment.before.locks t u n text lock there not_t not_u held have fresh call
  still request line n lock not_t not_u have fresh there held =
      record {
        new = lock;
        there = ap (λ table. lock_of table text) (locks_kept moment.before n request line refl) ∙ there;
        kept = record { kind = refl; mine = refl; theirs = refl; written = λ kind writes. writes };
      }

  later_lock : Reached moment.before → AllFit (later moment) → moment.action.thread ≢ t → moment.action.thread ≢ u →
      (named : IsNamed moment.before.locks which text u) → IsLater moment.before.locks (later moment).locks which text t u named.lock
  later_lock reached fit not_t not_u named =
      let old = found_in moment.before.locks which text named.lock named.found in
      let has = still moment.action.request moment.action.line moment.action.thread named.lock not_t not_u (reached_have moment.before reached)
      (fresh named.lock old.there) old.there named.held in
      let of = subst (λ kind. is_same which (family_of kind) ≡ true) (sym has.kept.kind) old.of in
      record {
        new_lock = has.new;
        found = in_same which (lock_of (later moment).locks text) has.new has.there of;
        kept = has.kept;
      }
    where
      fresh : (lock : Lock) → lock_of moment.before.locks text ≡ Some lock → (kind : Kind) (b : ℕ) (rest : List ℕ) → text ≡ b ∷ rest →
          text ≢ new_id moment.before.locks kind
      fresh lock there kind b rest is =
          let up = up_after moment.before moment.action.thread moment.action.request moment.action.line kind in
          let small = fit.locks kind in
          is_new moment.before.locks kind text lock (reached_drawn moment.before reached) (omega (arith, up, small))
          (subst (λ one. at one moment.before.locks.others ≡ Some lock) (sym is)
          (sym (ap (lock_of moment.before.locks) is) ∙ there))

  -- and it is named still
  later_named : (named : IsNamed moment.before.locks which text u) → (now : IsLater moment.before.locks (later moment).locks which text t u named.lock) →
      Contains (holders_in (lock_in (later moment).locks which text)) u
  later_named named now =
      subst (λ found. Contains (holders_in found) u) (sym now.found) (is_among_them now.new_lock.holders u (now.kept.theirs ∙ named.held))

-- ---- the waits ----

some_among : (threads : List ℕ) (u : ℕ) → is_among threads u ≡ true → has_none threads ≡ false
some_among [] u is = absurd (cc is)
some_among (x ∷ threads) u is = refl

out_of : (none among : Bool) → (not none && not among) ≡ true → among ≡ false
out_of true among is = absurd (cc is)
out_of false true is = absurd (cc is)
out_of false false is = refl

held_still : (old new : Lock) (t u : ℕ) → Kept t u old new → is_among old.holders u ≡ true → is_held_by_others old t ≡ true → is_held_by_others new t ≡ true
held_still old new t u kept held was =
    let out : is_among new.holders t ≡ false = kept.mine ∙ out_of (has_none old.holders) (is_among old.holders t) was in
    let some : has_none new.holders ≡ false = some_among new.holders u (kept.theirs ∙ held) in
    ap (λ b. not b && not (is_among new.holders t)) some ∙ ap not out

read_write : (kind : Kind) → is_same family.ReadWrite (family_of kind) ≡ true → kind ≡ ReadWrite
read_write Exclusive is = absurd (cc is)
read_write Recursive is = absurd (cc is)
read_write ReadWrite is = refl
read_write Condition is = absurd (cc is)

two_true : (a b : Bool) → (a && b) ≡ true → (a ≡ true) × (b ≡ true)
two_true true b is = (refl, is)
two_true false b is = absurd (cc is)

-- a lock that another is to hold alone
alone_wait : (which : Family) (text : List ℕ) (moment : Moment) (t u : ℕ) → Reached moment.before → AllFit (later moment) → moment.action.thread ≢ t →
    moment.action.thread ≢ u → waits_where waits_alone t (lock_in moment.before.locks which text) ≡ true →
    Contains (holders_in (lock_in moment.before.locks which text)) u →
    (waits_where waits_alone t (lock_in (later moment).locks which text) ≡ true) × Contains (holders_in (lock_in (later moment).locks which text)) u
alone_wait which text moment t u reached fit not_t not_u waiting called =
    let named = named_in moment.before.locks which text u called in
    let now = later_lock moment t u which text reached fit not_t not_u named in
    let was = subst (λ found. waits_where waits_alone t found ≡ true) named.found waiting in (
      subst (λ found. waits_where waits_alone t found ≡ true) (sym now.found) (held_still named.lock now.new_lock t u now.kept named.held was),
      later_named moment t u which text named now,
    )

-- a lock that is written, and that another is to read
read_wait : (text : List ℕ) (moment : Moment) (t u : ℕ) → Reached moment.before → AllFit (later moment) → moment.action.thread ≢ t →
    moment.action.thread ≢ u → waits_where waits_to_read t (lock_in moment.before.locks family.ReadWrite text) ≡ true →
    Contains (holders_in (lock_in moment.before.locks family.ReadWrite text)) u →
    (waits_where waits_to_read t (lock_in (later moment).locks family.ReadWrite text) ≡ true)
    × Contains (holders_in (lock_in (later moment).locks family.ReadWrite text)) u
read_wait text moment t u reached fit not_t not_u waiting called =
    let named = named_in moment.before.locks family.ReadWrite text u called in
    let now = later_lock moment t u family.ReadWrite text reached fit not_t not_u named in
    let was = two_true _ _ (subst (λ found. waits_where waits_to_read t found ≡ true) named.found waiting) in
    let kind = read_write named.lock.kind (found_in moment.before.locks family.ReadWrite text named.lock named.found).of in
    let writes : now.new_lock.writing ≡ true = now.kept.written kind was.0 in
    let others = held_still named.lock now.new_lock t u now.kept named.held was.1 in (
      subst (λ found. waits_where waits_to_read t found ≡ true) (sym now.found) (ap (λ b. b && is_held_by_others now.new_lock t) writes ∙ others),
      later_named moment t u family.ReadWrite text named now,
    )

-- a mutex that is held, and that another is to take after a wait for a condition
take_wait : (mutex : List ℕ) (moment : Moment) (t u : ℕ) → Reached moment.before → AllFit (later moment) → moment.action.thread ≢ t →
    moment.action.thread ≢ u → Contains (holders_in (lock_in moment.before.locks family.Mutex mutex)) u →
    (waits_where is_held t (lock_in (later moment).locks family.Mutex mutex) ≡ true)
    × Contains (holders_in (lock_in (later moment).locks family.Mutex mutex)) u
take_wait mutex moment t u reached fit not_t not_u called =
    let named = named_in moment.before.locks family.Mutex mutex u called in
    let now = later_lock moment t u family.Mutex mutex reached fit not_t not_u named in (
      subst (λ found. waits_where is_held t found ≡ true) (sym now.found) (ap not (some_among now.new_lock.holders u (now.kept.theirs ∙ named.held))),
      later_named moment t u family.Mutex mutex named now,
    )

either_way : (a b : Bool) → b ≡ true → (a || b) ≡ true
either_way true b is = refl
either_way false b is = is

pub lock_wait : LockWaitLaw
lock_wait (ask.Lock text) moment t u reached can fit not_t not_u waits =
    let still = alone_wait family.Mutex text moment t u reached fit not_t not_u (unwaited _ waits.not_enabled) waits.named in
    record { lives = lives_on moment t not_t waits.lives; not_enabled = ap not still.0; other_lives = lives_on moment u not_u waits.other_lives; named = still.1 }
lock_wait (ask.ReadLock text) moment t u reached can fit not_t not_u waits =
    let still = read_wait text moment t u reached fit not_t not_u (unwaited _ waits.not_enabled) waits.named in
    record { lives = lives_on moment t not_t waits.lives; not_enabled = ap not still.0; other_lives = lives_on moment u not_u waits.other_lives; named = still.1 }
lock_wait (ask.WriteLock text) moment t u reached can fit not_t not_u waits =
    let still = alone_wait family.ReadWrite text moment t u reached fit not_t not_u (unwaited _ waits.not_enabled) waits.named in
    record { lives = lives_on moment t not_t waits.lives; not_enabled = ap not still.0; other_lives = lives_on moment u not_u waits.other_lives; named = still.1 }
lock_wait (ask.CondTake condition mutex) moment t u reached can fit not_t not_u waits =
    let still = take_wait mutex moment t u reached fit not_t not_u waits.named in
    record {
      lives = lives_on moment t not_t waits.lives;
      not_enabled = ap not (either_way _ _ still.0);
      other_lives = lives_on moment u not_u waits.other_lives;
      named = still.1;
    }
lock_wait (ask.Create kind) moment t u reached can fit not_t not_u waits = in_none _ u waits.named
lock_wait (ask.Destroy which text) moment t u reached can fit not_t not_u waits = in_none _ u waits.named
lock_wait (ask.Unlock which text) moment t u reached can fit not_t not_u waits = in_none _ u waits.named
lock_wait (ask.Notify text) moment t u reached can fit not_t not_u waits = in_none _ u waits.named
lock_wait (ask.CondWait condition mutex after) moment t u reached can fit not_t not_u waits = in_none _ u waits.named
