-- Ids of locks are drawn upwards: each that is there has a number that was drawn.
use Rattle.std.proofs.Common.{◌≡◌, ◌≢◌, ◌∙◌, ◌+◌, ◌<◌, ◌≤◌, ◌^◌, ◌&&◌, ℕ, Bool, true, false, cond, if◌then◌else◌, List, [], ◌∷◌, ◌++◌}
use Rattle.std.proofs.Common.{Option, Some, None, refl, ap, sym, subst, arith}
use Rattle.std.specs.BTreeMap.{insert_entry}
use Rattle.std.specs.Cmp.Lexicographic.{slice_cmp}
use Rattle.std.specs.Map.{remove_entry, set_value}
use Rattle.std.specs.Ordering.{is_eq, match_ordering, nat_cmp}
use Rattle.std.specs.declared.cmp.Ordering.{Ordering}
use Rattle.std.specs.declared.cmp.Ordering.TheVariants.{Less, Equal, Greater}
use Rattle.laws_sends.proofs.Cuts.{Every, every-on}
use Rattle.laws_shared.proofs.Families.{locks_kept}
use Rattle.laws_shared.proofs.Tables.{Entries, at, is_key, same_key}
use Rattle.laws_shared.specs.Actions.{Action, Acts, Reached, after, more, none}
use Rattle.tt_calls.specs.Replies.{refuses}
use Rattle.tt_calls.specs.declared.lock_call.Family.{Family}
use Rattle.tt_calls.specs.declared.lock_call.Family.TheVariants as family
use Rattle.tt_calls.specs.declared.lock_call.Kind.{Kind}
use Rattle.tt_calls.specs.declared.lock_call.Kind.TheVariants.{Exclusive, Recursive, ReadWrite, Condition}
use Rattle.tt_calls.specs.declared.lock_call.LockCall.{LockCall}
use Rattle.tt_calls.specs.declared.lock_call.LockCall.TheVariants as ask
use Rattle.tt_calls.specs.declared.request.Request.{Request}
use Rattle.tt_calls.specs.declared.request.Request.TheVariants as asks
use Rattle.tt_ids.proofs.CallerLemmas.{ids_differ}
use Rattle.tt_ids.specs.Ids.{id}
use Rattle.tt_locks.specs.Calls.{act, acts_on, begins, cond_waits, destroys, destroys_named, gives_up, is_first, table_after, waits}
use Rattle.tt_locks.specs.Lock.{Done, does_go, free, has_none, is_owned, locks, read_locks, unlocks, with_hold, without_hold, write_locks}
use Rattle.tt_locks.specs.Table.{LockTable, lock_in, names_of, new_id, number_of, with_lock, with_new, with_number, without_lock}
use Rattle.tt_locks.specs.declared.lock.Lock.{Lock}
use Rattle.tt_locks.specs.declared.numbers.Numbers.{Numbers}
use Rattle.tt_shared.specs.Acts.{act as acts_shared}
use Rattle.tt_shared.specs.State.{State, start_state}
use Rattle.tt_shared.specs.declared.applied.Line.{Line}

-- ---- the keys of a table ----

abbrev Keys : {X : Type 0} → (List ℕ → Type 0) → Entries X → Type 0
Keys P entries = Every (λ entry. P entry.0) entries

module _ {X : Type 0} (P : List ℕ → Type 0) where
  keys_set : (id : List ℕ) (es : Entries X) (x : X) → Keys P es → Keys P (set_value (is_key id) es x)
  keys_set id [] x every = tt
  keys_set id (e ∷ es) x every = go (is_key id e.0) (keys_set id es x every.1)
    where
      go : (b : Bool) → Keys P (set_value (is_key id) es x) → Keys P (cond b ((e.0, x) ∷ es) (e ∷ set_value (is_key id) es x))
      go true later = (every.0, every.1)
      go false later = (every.0, later)

  keys_remove : (id : List ℕ) (es : Entries X) → Keys P es → Keys P (remove_entry (is_key id) es)
  keys_remove id [] every = tt
  keys_remove id (e ∷ es) every = go (is_key id e.0) (keys_remove id es every.1)
    where
      go : (b : Bool) → Keys P (remove_entry (is_key id) es) → Keys P (cond b es (e ∷ remove_entry (is_key id) es))
      go true later = every.1
      go false later = (every.0, later)

  keys_insert : (id : List ℕ) (es : Entries X) (x : X) → P id → Keys P es → Keys P (insert_entry (slice_cmp nat_cmp) es id x)
  keys_insert id [] x is every = (is, tt)
  keys_insert id (e ∷ es) x is every = go (slice_cmp nat_cmp id e.0) (keys_insert id es x is every.1)
    where
      go : (order : Ordering) → Keys P (insert_entry (slice_cmp nat_cmp) es id x)
          → Keys P (match_ordering order ((id, x) ∷ e ∷ es) ((e.0, x) ∷ es) (e ∷ insert_entry (slice_cmp nat_cmp) es id x))
      go Less later = (is, every)
      go Equal later = (every.0, every.1)
      go Greater later = (every.0, later)

  keys_at : (text : List ℕ) (es : Entries X) (x : X) → Keys P es → at text es ≡ Some x → P text
  keys_at text [] x every there = absurd (cc there)
  keys_at text (e ∷ es) x every there = go (is_key text e.0) refl there (keys_at text es x every.1)
    where
      go : (b : Bool) → is_key text e.0 ≡ b → cond b (Some e.1) (at text es) ≡ Some x → (at text es ≡ Some x → P text) → P text
      go true is there later = subst P (sym (same_key text e.0 is)) every.0
      go false is there later = later there

-- ---- drawn ids ----

abbrev IsUsed : Numbers → List ℕ → Type 0
IsUsed next text = (kind : Kind) × (m : ℕ) × (m < number_of kind next) × (text ≡ id (names_of kind) m)

abbrev pub AreDrawn : LockTable → Type 0
AreDrawn table = Keys (IsUsed table.next) table.others

-- what is done by calls that no function names
abbrev wakes : Lock → ℕ → Done
wakes lock n = does_go (record lock { waiters = [] })

abbrev takes : Lock → ℕ → Done
takes lock n = does_go (with_hold lock n false)

abbrev waits_too : Lock → ℕ → Done
waits_too lock n = does_go (record lock { waiters = lock.waiters ++ n ∷ [] })

-- what a call leaves of ids and numbers
record GoesUp (old new : LockTable) : Type 1 where
  same : new.next ≡ old.next
  keys : (P : List ℕ → Type 0) → Keys P old.others → Keys P new.others

module _ (old : LockTable) where
  as_it_was : GoesUp old old
  as_it_was = record { same = refl; keys = λ P every. every }

  another : (table : LockTable) (text : List ℕ) (lock : Lock) → GoesUp old table → GoesUp old (with_lock table text lock)
  another table [] lock up = record { same = up.same; keys = up.keys }
  another table (b ∷ text) lock up = record { same = up.same; keys = λ P every. keys_set P (b ∷ text) table.others lock (up.keys P every) }

  one_less : (text : List ℕ) → GoesUp old (without_lock old text)
  one_less text = record { same = refl; keys = λ P every. keys_remove P text old.others every }

  by_deed : (table : LockTable) (done : Lock → ℕ → Done) (n : ℕ) (kind : Family) (text : List ℕ) (found : Option Lock) → GoesUp old table →
      GoesUp old (acts_on done table n kind text found).table
  by_deed table done n kind text None up = up
  by_deed table done n kind text (Some lock) up = another table text (done lock n).lock up

  by_found : (kind : Family) (text : List ℕ) (found : Option Lock) → GoesUp old (destroys old kind text found).table
  by_found kind text None = as_it_was
  by_found kind text (Some lock) = go (has_none lock.holders && has_none lock.waiters) refl
    where
      go : (b : Bool) → (has_none lock.holders && has_none lock.waiters) ≡ b → GoesUp old (destroys old kind text (Some lock)).table
      go true is = rw is (one_less text)
      go false is = rw is as_it_was

  by_destroy : (kind : Family) (text : List ℕ) → GoesUp old (destroys_named old kind text).table
  by_destroy kind text = go (is_first kind text)
    where
      go : (b : Bool) → GoesUp old (if b then refuses old [] else destroys old kind text (lock_in old kind text)).table
      go true = as_it_was
      go false = by_found kind text (lock_in old kind text)

  by_give : (n : ℕ) (condition mutex : List ℕ) (found : Option Lock) → GoesUp old (gives_up old n condition mutex found).table
  by_give n condition mutex None = as_it_was
  by_give n condition mutex (Some lock) = go (is_owned lock n) refl
    where
      freed : LockTable
      freed = with_lock old mutex (without_hold lock n)

      go : (b : Bool) → is_owned lock n ≡ b → GoesUp old (gives_up old n condition mutex (Some lock)).table
      go true is =
          rw is (by_deed freed waits_too n family.Condition condition (lock_in freed family.Condition condition)
          (another old mutex (without_hold lock n) as_it_was))
      go false is = rw is as_it_was

  by_wait : (n : ℕ) (condition mutex : List ℕ) (found : Option Lock) → GoesUp old (cond_waits old n condition mutex found).table
  by_wait n condition mutex None = as_it_was
  by_wait n condition mutex (Some lock) = by_give n condition mutex (lock_in old family.Mutex mutex)

used_on : (kind : Kind) (next : Numbers) (text : List ℕ) → IsUsed next text → IsUsed (with_number kind (number_of kind next + 1) next) text
used_on kind next text (other, m, low, is) = (other, m, up kind other low, is)
  where
    up : (kind other : Kind) → m < number_of other next → m < number_of other (with_number kind (number_of kind next + 1) next)
    up Exclusive Exclusive low = omega (arith, low)
    up Exclusive Recursive low = low
    up Exclusive ReadWrite low = low
    up Exclusive Condition low = low
    up Recursive Exclusive low = low
    up Recursive Recursive low = omega (arith, low)
    up Recursive ReadWrite low = low
    up Recursive Condition low = low
    up ReadWrite Exclusive low = low
    up ReadWrite Recursive low = low
    up ReadWrite ReadWrite low = omega (arith, low)
    up ReadWrite Condition low = low
    up Condition Exclusive low = low
    up Condition Recursive low = low
    up Condition ReadWrite low = low
    up Condition Condition low = omega (arith, low)

drawn_new : (kind : Kind) (next : Numbers) → IsUsed (with_number kind (number_of kind next + 1) next) (id (names_of kind) (number_of kind next))
drawn_new Exclusive next = (Exclusive, next.exclusive, omega arith, refl)
drawn_new Recursive next = (Recursive, next.recursive, omega arith, refl)
drawn_new ReadWrite next = (ReadWrite, next.read_write, omega arith, refl)
drawn_new Condition next = (Condition, next.condition, omega arith, refl)

by_new : (table : LockTable) (kind : Kind) → AreDrawn table → AreDrawn (with_new table kind)
by_new table kind drawn =
    keys_insert (IsUsed (with_number kind (number_of kind table.next + 1) table.next)) (new_id table kind) table.others (free kind) (drawn_new kind table.next)
    (every-on (λ entry. IsUsed table.next entry.0) (λ entry. IsUsed (with_number kind (number_of kind table.next + 1) table.next) entry.0)
    (λ entry. used_on kind table.next entry.0) table.others drawn)

on : (old new : LockTable) → GoesUp old new → AreDrawn old → AreDrawn new
on old new up drawn = subst (λ next. Keys (IsUsed next) new.others) (sym up.same) (up.keys (IsUsed old.next) drawn)

by_act : (table : LockTable) (n : ℕ) (call : LockCall) → AreDrawn table → AreDrawn (act table n call).table
by_act table n (ask.Create kind) drawn = by_new table kind drawn
by_act table n (ask.Destroy kind text) drawn = on table _ (by_destroy table kind text) drawn
by_act table n (ask.Lock text) drawn = on table _ (by_deed table table locks n family.Mutex text _ (as_it_was table)) drawn
by_act table n (ask.ReadLock text) drawn = on table _ (by_deed table table read_locks n family.ReadWrite text _ (as_it_was table)) drawn
by_act table n (ask.WriteLock text) drawn = on table _ (by_deed table table write_locks n family.ReadWrite text _ (as_it_was table)) drawn
by_act table n (ask.Unlock kind text) drawn = on table _ (by_deed table table unlocks n kind text _ (as_it_was table)) drawn
by_act table n (ask.Notify text) drawn = on table _ (by_deed table table wakes n family.Condition text _ (as_it_was table)) drawn
by_act table n (ask.CondWait condition mutex later) drawn = on table _ (by_wait table n condition mutex (lock_in table family.Condition condition)) drawn
by_act table n (ask.CondTake condition mutex) drawn = on table _ (by_deed table table takes n family.Mutex mutex _ (as_it_was table)) drawn

by_call : (table : LockTable) (n : ℕ) (call : LockCall) → AreDrawn table → AreDrawn (table_after table n call)
by_call table n call drawn = go (waits table n call)
  where
    go : (b : Bool) → AreDrawn (if b then table else (act table n call).table)
    go true = drawn
    go false = by_act table n call drawn

drawn_after : (state : State) (n : ℕ) (request : Request) (line : Line) → AreDrawn state.locks → AreDrawn (acts_shared state n request line).state.locks
drawn_after state n (asks.Lock call) line drawn = by_call state.locks n call drawn
drawn_after state n request line drawn = subst AreDrawn (sym (locks_kept state n request line refl)) drawn

-- numbers only go up
up_new : (kind other : Kind) (next : Numbers) → number_of other next ≤ number_of other (with_number kind (number_of kind next + 1) next)
up_new Exclusive Exclusive next = omega arith
up_new Exclusive Recursive next = omega arith
up_new Exclusive ReadWrite next = omega arith
up_new Exclusive Condition next = omega arith
up_new Recursive Exclusive next = omega arith
up_new Recursive Recursive next = omega arith
up_new Recursive ReadWrite next = omega arith
up_new Recursive Condition next = omega arith
up_new ReadWrite Exclusive next = omega arith
up_new ReadWrite Recursive next = omega arith
up_new ReadWrite ReadWrite next = omega arith
up_new ReadWrite Condition next = omega arith
up_new Condition Exclusive next = omega arith
up_new Condition Recursive next = omega arith
up_new Condition ReadWrite next = omega arith
up_new Condition Condition next = omega arith

at_least : (old new : Numbers) (kind : Kind) → new ≡ old → number_of kind old ≤ number_of kind new
at_least old new kind same = subst (λ one. number_of kind old ≤ number_of kind one) (sym same) (omega arith)

up_act : (table : LockTable) (n : ℕ) (call : LockCall) (kind : Kind) → number_of kind table.next ≤ number_of kind (act table n call).table.next
up_act table n (ask.Create made) kind = up_new made kind table.next
up_act table n (ask.Destroy which text) kind = at_least _ _ kind (by_destroy table which text).same
up_act table n (ask.Lock text) kind = at_least _ _ kind (by_deed table table locks n family.Mutex text _ (as_it_was table)).same
up_act table n (ask.ReadLock text) kind = at_least _ _ kind (by_deed table table read_locks n family.ReadWrite text _ (as_it_was table)).same
up_act table n (ask.WriteLock text) kind = at_least _ _ kind (by_deed table table write_locks n family.ReadWrite text _ (as_it_was table)).same
up_act table n (ask.Unlock which text) kind = at_least _ _ kind (by_deed table table unlocks n which text _ (as_it_was table)).same
up_act table n (ask.Notify text) kind = at_least _ _ kind (by_deed table table wakes n family.Condition text _ (as_it_was table)).same
up_act table n (ask.CondWait condition mutex later) kind = at_least _ _ kind (by_wait table n condition mutex (lock_in table family.Condition condition)).same
up_act table n (ask.CondTake condition mutex) kind = at_least _ _ kind (by_deed table table takes n family.Mutex mutex _ (as_it_was table)).same

up_call : (table : LockTable) (n : ℕ) (call : LockCall) (kind : Kind) → number_of kind table.next ≤ number_of kind (table_after table n call).next
up_call table n call kind = go (waits table n call)
  where
    go : (b : Bool) → number_of kind table.next ≤ number_of kind (if b then table else (act table n call).table).next
    go true = omega arith
    go false = up_act table n call kind

pub up_after : (state : State) (n : ℕ) (request : Request) (line : Line) (kind : Kind) →
    number_of kind state.locks.next ≤ number_of kind (acts_shared state n request line).state.locks.next
up_after state n (asks.Lock call) line kind = up_call state.locks n call kind
up_after state n request line kind = at_least _ _ kind (ap (λ (table : LockTable). table.next) (locks_kept state n request line refl))

along : (old new : State) (actions : List Action) → AreDrawn old.locks → Acts old actions new → AreDrawn new.locks
along old new [] drawn none = drawn
along old new (action ∷ actions) drawn (more can rest) =
    along (after old action) new actions (drawn_after old action.thread action.request action.line drawn) rest

pub reached_drawn : (state : State) → Reached state → AreDrawn state.locks
reached_drawn state reached = along (start_state reached.main) state reached.actions tt reached.acts

-- ---- a new id is none that is there ----

abbrev first_letter : List ℕ → ℕ
first_letter [] = 0
first_letter (letter ∷ text) = letter

abbrev letter_of : Kind → ℕ
letter_of Exclusive = 109
letter_of Recursive = 114
letter_of ReadWrite = 119
letter_of Condition = 99

begins_so : (kind : Kind) (m : ℕ) → first_letter (id (names_of kind) m) ≡ letter_of kind
begins_so Exclusive m = refl
begins_so Recursive m = refl
begins_so ReadWrite m = refl
begins_so Condition m = refl

same_letter : (one other : Kind) → letter_of one ≡ letter_of other → one ≡ other
same_letter Exclusive Exclusive is = refl
same_letter Exclusive Recursive is = let off : 109 ≡ 114 = is in absurd (omega (arith, off))
same_letter Exclusive ReadWrite is = let off : 109 ≡ 119 = is in absurd (omega (arith, off))
same_letter Exclusive Condition is = let off : 109 ≡ 99 = is in absurd (omega (arith, off))
same_letter Recursive Exclusive is = let off : 114 ≡ 109 = is in absurd (omega (arith, off))
same_letter Recursive Recursive is = refl
same_letter Recursive ReadWrite is = let off : 114 ≡ 119 = is in absurd (omega (arith, off))
same_letter Recursive Condition is = let off : 114 ≡ 99 = is in absurd (omega (arith, off))
same_letter ReadWrite Exclusive is = let off : 119 ≡ 109 = is in absurd (omega (arith, off))
same_letter ReadWrite Recursive is = let off : 119 ≡ 114 = is in absurd (omega (arith, off))
same_letter ReadWrite ReadWrite is = refl
same_letter ReadWrite Condition is = let off : 119 ≡ 99 = is in absurd (omega (arith, off))
same_letter Condition Exclusive is = let off : 99 ≡ 109 = is in absurd (omega (arith, off))
same_letter Condition Recursive is = let off : 99 ≡ 114 = is in absurd (omega (arith, off))
same_letter Condition ReadWrite is = let off : 99 ≡ 119 = is in absurd (omega (arith, off))
same_letter Condition Condition is = refl

same_kind : (one other : Kind) (m n : ℕ) → id (names_of one) m ≡ id (names_of other) n → one ≡ other
same_kind one other m n is = same_letter one other (sym (begins_so one m) ∙ ap first_letter is ∙ begins_so other n)

-- the number of a kind fits
pub is_new : (table : LockTable) (kind : Kind) (text : List ℕ) (lock : Lock) → AreDrawn table → number_of kind table.next < 2 ^ 64 →
    at text table.others ≡ Some lock → text ≢ new_id table kind
is_new table kind text lock drawn small there is =
    let used = keys_at (IsUsed table.next) text table.others lock drawn there in
    let named : id (names_of used.0) used.1 ≡ new_id table kind = sym used.3 ∙ is in
    go used.0 used.1 used.2 named (same_kind used.0 kind used.1 (number_of kind table.next) named)
  where
    go : (other : Kind) (m : ℕ) → m < number_of other table.next → id (names_of other) m ≡ new_id table kind → other ≡ kind → ⊥
    go other m low named same =
        let low_here : m < number_of kind table.next = subst (λ one. m < number_of one table.next) same low in
        let alike : id (names_of kind) m ≡ id (names_of kind) (number_of kind table.next) =
        subst (λ one. id (names_of one) m ≡ new_id table kind) same named in
        let equal : m ≡ number_of kind table.next = ids_differ (names_of kind) m (number_of kind table.next) (omega (arith, low_here, small)) small alike in
        omega (arith, equal, low_here)
