-- What is done to a lock by one thread leaves which others hold it.
use Rattle.std.proofs.Common.{◌≡◌, ◌≢◌, ◌∙◌, ◌+◌, ◌==◌, ◌||◌, ℕ, suc, Bool, true, false, not, cond, if◌then◌else◌, List, [], ◌∷◌, ◌++◌, codes}
use Rattle.std.proofs.Common.{refl, ap, sym, subst, arith}
use Rattle.std.specs.List.{prefix_len, remove}
use Rattle.laws_shared.proofs.Deciding as deciding
use Rattle.laws_shared.proofs.LockHolds.{one-alone}
use Rattle.laws_shared.specs.HeldLocks.{is_alone}
use Rattle.tt_calls.specs.declared.lock_call.Family.TheVariants as family
use Rattle.tt_calls.specs.declared.lock_call.Kind.{Kind}
use Rattle.tt_calls.specs.declared.lock_call.Kind.TheVariants.{Exclusive, Recursive, ReadWrite, Condition}
use Rattle.tt_locks.specs.Lock.{Done, family_of, has_none, holds, is_among, locks, read_locks, refuses, unlocks, with_hold, without_hold, without_one, write_locks}
use Rattle.tt_locks.specs.LockLaws.{HasOneHolder}
use Rattle.tt_locks.specs.Table.{is_same}
use Rattle.tt_locks.specs.declared.lock.Lock.{Lock}

-- ---- holders ----

push_other : (holders : List ℕ) (n x : ℕ) → n ≢ x → is_among (holders ++ n ∷ []) x ≡ is_among holders x
push_other [] n x other = ap (λ b. b || false) (deciding.apart n x other)
push_other (h ∷ hs) n x other = ap (λ b. (h == x) || b) (push_other hs n x other)

without_other : (holders : List ℕ) (n x : ℕ) → n ≢ x → is_among (without_one holders n) x ≡ is_among holders x
without_other [] n x other = refl
without_other (h ∷ hs) n x other = go (h == n) refl (without_other hs n x other)
  where
    later : ℕ
    later = prefix_len (λ thread. not (thread == n)) hs

    place : (b : Bool) → (h == n) ≡ b → prefix_len (λ thread. not (thread == n)) (h ∷ hs) ≡ cond (not b) (1 + later) 0
    place b is = ap (λ b. cond (not b) (1 + later) 0) is

    one_more : 1 + later ≡ suc later
    one_more = omega arith

    go : (b : Bool) → (h == n) ≡ b → is_among (without_one hs n) x ≡ is_among hs x → is_among (without_one (h ∷ hs) n) x ≡ is_among (h ∷ hs) x
    go true is rest =
        let not_x : (h == x) ≡ false = deciding.apart h x (λ same. other (sym (deciding.same h n is) ∙ same)) in
        ap (λ i. is_among (remove (h ∷ hs) i) x) (place true is) ∙ sym (ap (λ b. b || is_among hs x) not_x)
    go false is rest = ap (λ i. is_among (remove (h ∷ hs) i) x) (place false is ∙ one_more) ∙ ap (λ b. (h == x) || b) rest

-- ---- one lock ----

-- who of the two holds it is as it was, and a lock that is written still is
pub record Kept (t u : ℕ) (old new : Lock) : Type 0 where
  pub kind : new.kind ≡ old.kind
  pub mine : is_among new.holders t ≡ is_among old.holders t
  pub theirs : is_among new.holders u ≡ is_among old.holders u
  pub written : old.kind ≡ ReadWrite → old.writing ≡ true → new.writing ≡ true

abbrev twice : List ℕ
twice = codes "locking the same exclusive mutex twice from the same thread"

-- what is done to take a mutex, by its kind
abbrev done_by_lock : Lock → ℕ → Kind → Done
done_by_lock lock n kind =
    elim kind [
      | Recursive ↦ holds lock n false
      | other ↦ (if is_among lock.holders n then refuses lock twice else holds lock n false)
    ]

module _ (lock : Lock) (t u n : ℕ) (not_t : n ≢ t) (not_u : n ≢ u) (held : is_among lock.holders u ≡ true) (allowed : HasOneHolder lock) where
  pub unchanged : Kept t u lock lock
  unchanged = record { kind = refl; mine = refl; theirs = refl; written = λ kind writes. writes }

  hold : (writing : Bool) → (lock.kind ≡ ReadWrite → lock.writing ≡ true → writing ≡ true) → Kept t u lock (with_hold lock n writing)
  hold writing still = record {
    kind = refl;
    mine = push_other lock.holders n t not_t;
    theirs = push_other lock.holders n u not_u;
    written = still;
  }

  no_mutex : (kind : Kind) → is_same family.Mutex (family_of kind) ≡ true → kind ≡ ReadWrite → ⊥
  no_mutex Exclusive of is = cc is
  no_mutex Recursive of is = cc is
  no_mutex ReadWrite of is = cc of
  no_mutex Condition of is = cc is

  choose : (b : Bool) (one other : Done) → (b ≡ true → Kept t u lock one.lock) → (b ≡ false → Kept t u lock other.lock) →
      Kept t u lock (if b then one else other).lock
  choose true one other first second = first refl
  choose false one other first second = second refl

  pub by_take : is_same family.Mutex (family_of lock.kind) ≡ true → Kept t u lock (with_hold lock n false)
  by_take of = hold false (λ kind writes. absurd (no_mutex lock.kind of kind))

  pub by_lock : is_same family.Mutex (family_of lock.kind) ≡ true → Kept t u lock (locks lock n).lock
  by_lock of = go lock.kind
    where
      either : Kept t u lock (if is_among lock.holders n then refuses lock twice else holds lock n false).lock
      either = choose (is_among lock.holders n) (refuses lock twice) (holds lock n false) (λ among. unchanged) (λ out. by_take of)

      go : (kind : Kind) → Kept t u lock (done_by_lock lock n kind).lock
      go Recursive = by_take of
      go Exclusive = either
      go ReadWrite = either
      go Condition = either

  pub by_read : Kept t u lock (read_locks lock n).lock
  by_read = choose lock.writing _ _ (λ is. unchanged) (λ is. hold false (λ kind writes. absurd (deciding.not_both lock.writing writes is)))

  pub by_write : Kept t u lock (write_locks lock n).lock
  by_write =
      choose (not (is_among lock.holders n)) _ _ (λ out. hold true (λ kind writes. refl))
      (λ mine. choose lock.writing _ _ (λ is. unchanged) (λ is. unchanged))

  -- one hold less: who writes holds it alone
  pub by_unheld : is_among lock.holders n ≡ true → Kept t u lock (without_hold lock n)
  by_unheld among = record {
    kind = refl;
    mine = without_other lock.holders n t not_t;
    theirs = without_other lock.holders n u not_u;
    written = λ kind writes.
        let alone : is_alone lock.kind lock.writing ≡ true =
        ap (λ kind. is_alone kind lock.writing) kind ∙ ap (is_alone ReadWrite) writes in
        absurd (not_u (one-alone lock.kind lock.writing lock.holders u n allowed alone held among));
  }

  pub by_unlock : Kept t u lock (unlocks lock n).lock
  by_unlock =
      choose (has_none lock.holders) _ _ (λ none. unchanged)
      (λ some. choose (not (is_among lock.holders n)) _ _ (λ out. unchanged) (λ mine. by_unheld (not_not (is_among lock.holders n) mine)))
    where
      not_not : (b : Bool) → not b ≡ false → b ≡ true
      not_not true is = refl
      not_not false is = absurd (cc is)
