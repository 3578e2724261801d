-- What is done to one lock leaves a thread that holds it still its hold as it was.
use Rattle.std.proofs.Common.{◌≡◌, ◌∙◌, ◌≤◌, ◌&&◌, ◌||◌, ◌==◌, ℕ, Bool, true, false, not, if◌then◌else◌, List, [], ◌∷◌}
use Rattle.std.proofs.Common.{length, Option, Some, None, ap, refl, sym, subst, arith}
use Rattle.std.proofs.lemmas.List.Elements.{All-head, All-tail}
use Rattle.std.specs.List.{All}
use Rattle.tt_calls.specs.declared.lock_call.Family.TheVariants as family
use Rattle.tt_calls.specs.declared.lock_call.Kind.{Kind}
use Rattle.tt_calls.specs.declared.lock_call.Kind.TheVariants.{Exclusive, Recursive, ReadWrite, Condition}
use Rattle.tt_locks.specs.LockLaws.{AreAllowed, HasOneHolder}
use Rattle.tt_locks.specs.Lock.{Done, family_of, has_none, with_hold, holds, is_among, locks, read_locks, without_hold, unlocks, waits_alone, without_one, write_locks}
use Rattle.tt_locks.specs.Table.{is_same}
use Rattle.tt_locks.specs.declared.lock.Lock.{Lock}
use Rattle.laws_shared.proofs.Deciding as deciding
use Rattle.laws_shared.specs.HeldLocks.{hold_in, is_alone}

-- ---- holders ----

-- who is among one holder at most
one-few : (holders : List ℕ) (t u : ℕ) → length holders ≤ 1 → is_among holders t ≡ true → is_among holders u ≡ true → u ≡ t
one-few [] t u few first second = absurd (cc first)
one-few (one ∷ []) t u few first second = go (one == t) (one == u) refl refl first second
  where
    go : (a b : Bool) → (one == t) ≡ a → (one == u) ≡ b → (a || false) ≡ true → (b || false) ≡ true → u ≡ t
    go true true is also first second = sym (deciding.same one u also) ∙ deciding.same one t is
    go true false is also first second = absurd (cc second)
    go false b is also first second = absurd (cc first)
one-few (one ∷ other ∷ holders) t u few first second = absurd (omega (arith, few))

all-one : (holders : List ℕ) (owner t : ℕ) → All (λ holder. holder ≡ owner) holders → is_among holders t ≡ true → t ≡ owner
all-one [] owner t all among = absurd (cc among)
all-one (holder ∷ holders) owner t all among = go (holder == t) refl among (all-one holders owner t (All-tail (λ one. one ≡ owner) holder holders all))
  where
    go : (here : Bool) → (holder == t) ≡ here → (here || is_among holders t) ≡ true → (is_among holders t ≡ true → t ≡ owner) → t ≡ owner
    go true is among later = sym (deciding.same holder t is) ∙ All-head (λ one. one ≡ owner) holder holders all
    go false is among later = later among

-- and nobody is left when that one is taken out
none-left : (holders : List ℕ) (u t : ℕ) → length holders ≤ 1 → is_among holders u ≡ true → is_among (without_one holders u) t ≡ true → ⊥
none-left [] u t few mine left = cc mine
none-left (one ∷ []) u t few mine left = go (one == u) refl mine
  where
    gone : (one == u) ≡ true → is_among (without_one (one ∷ []) u) t ≡ false
    gone is = rw is refl

    go : (b : Bool) → (one == u) ≡ b → (b || false) ≡ true → ⊥
    go true is mine = let both : false ≡ true = sym (gone is) ∙ left in cc both
    go false is mine = cc mine
none-left (one ∷ other ∷ holders) u t few mine left = absurd (omega (arith, few))

-- a lock that is held alone has one holder
pub one-alone : (kind : Kind) (writing : Bool) (holders : List ℕ) (t u : ℕ) → AreAllowed kind writing holders → is_alone kind writing ≡ true
    → is_among holders t ≡ true → is_among holders u ≡ true → u ≡ t
one-alone Exclusive writing holders t u allowed alone first second = one-few holders t u allowed first second
one-alone Recursive writing holders t u allowed alone first second =
    all-one holders allowed.0 u allowed.1 second ∙ sym (all-one holders allowed.0 t allowed.1 first)
one-alone ReadWrite true holders t u allowed alone first second = one-few holders t u allowed first second
one-alone ReadWrite false holders t u allowed alone first second = absurd (cc alone)
one-alone Condition writing holders t u allowed alone first second = absurd (cc alone)

-- ---- holds ----

-- a hold that is as it was, if it is still there
abbrev pub Still : ℕ → Bool → Option Lock → Type 0
Still t alone found = (now : Bool) → hold_in t found ≡ Some now → now ≡ alone

pub among : (t : ℕ) (lock : Lock) (alone : Bool) → hold_in t (Some lock) ≡ Some alone → (is_among lock.holders t ≡ true)
    × (is_alone lock.kind lock.writing ≡ alone)
among t lock alone is = go (is_among lock.holders t) refl is
  where
    go : (b : Bool) → is_among lock.holders t ≡ b → (if b then Some (is_alone lock.kind lock.writing) else None) ≡ Some alone →
        (is_among lock.holders t ≡ true) × (is_alone lock.kind lock.writing ≡ alone)
    go true has is = (has, cc is)
    go false has is = absurd (cc is)

-- a lock that is changed in no way that matters
alike : (t : ℕ) (alone : Bool) (old new : Lock) → hold_in t (Some old) ≡ Some alone → is_alone new.kind new.writing ≡ is_alone old.kind old.writing →
    Still t alone (Some new)
alike t alone old new was is now holds = sym (among t new now holds).1 ∙ is ∙ (among t old alone was).1

-- a mutex
mutex : (kind : Kind) (one other : Bool) → is_same family.Mutex (family_of kind) ≡ true → is_alone kind one ≡ is_alone kind other
mutex Exclusive one other of = refl
mutex Recursive one other of = refl
mutex ReadWrite one other of = absurd (cc of)
mutex Condition one other of = absurd (cc of)

pub none-among : (holders : List ℕ) (t : ℕ) → has_none holders ≡ true → is_among holders t ≡ true → ⊥
none-among [] t none has = cc has
none-among (one ∷ holders) t none has = cc none

module _ (lock : Lock) (t u : ℕ) (alone : Bool) (was : hold_in t (Some lock) ≡ Some alone) where
  pub unchanged : Still t alone (Some lock)
  unchanged now holds = let both : Some now ≡ Some alone = sym holds ∙ was in cc both

  -- a choice of two
  either : (b : Bool) (one other : Done) → Still t alone (Some one.lock) → Still t alone (Some other.lock) →
      Still t alone (Some (if b then one else other).lock)
  either true one other first second = first
  either false one other first second = second

  pub by_lock : is_same family.Mutex (family_of lock.kind) ≡ true → Still t alone (Some (locks lock u).lock)
  by_lock of = go lock.kind refl
    where
      taken : Still t alone (Some (with_hold lock u false))
      taken = alike t alone lock (with_hold lock u false) was (mutex lock.kind false lock.writing of)

      go : (kind : Kind) → lock.kind ≡ kind → Still t alone (Some (locks lock u).lock)
      go Recursive is = rw (is, locks) taken
      go Exclusive is = rw (is, locks) (either (is_among lock.holders u) _ _ unchanged taken)
      go ReadWrite is = rw (is, locks) (either (is_among lock.holders u) _ _ unchanged taken)
      go Condition is = rw (is, locks) (either (is_among lock.holders u) _ _ unchanged taken)

  pub by_take : is_same family.Mutex (family_of lock.kind) ≡ true → Still t alone (Some (with_hold lock u false))
  by_take of = alike t alone lock (with_hold lock u false) was (mutex lock.kind false lock.writing of)

  choose : (b : Bool) (one other : Done) → (b ≡ true → Still t alone (Some one.lock)) → (b ≡ false → Still t alone (Some other.lock)) →
      Still t alone (Some (if b then one else other).lock)
  choose true one other first second = first refl
  choose false one other first second = second refl

  pub by_read : Still t alone (Some (read_locks lock u).lock)
  by_read = choose lock.writing _ _ (λ is. unchanged) (λ is. alike t alone lock (with_hold lock u false) was (ap (is_alone lock.kind) (sym is)))

  pub by_write : waits_alone lock u ≡ false → Still t alone (Some (write_locks lock u).lock)
  by_write free =
      choose (not (is_among lock.holders u)) _ _ (λ out. absurd (alone-not out)) (λ mine. choose lock.writing _ _ (λ is. unchanged) (λ is. unchanged))
    where
      others : (none mine : Bool) → not mine ≡ true → (not none && not mine) ≡ false → none ≡ true
      others true mine out free = refl
      others false true out free = absurd (cc out)
      others false false out free = absurd (cc free)

      alone-not : not (is_among lock.holders u) ≡ true → ⊥
      alone-not out = none-among lock.holders t (others (has_none lock.holders) (is_among lock.holders u) out free) (among t lock alone was).0

  -- one hold less: of a lock that is written, the writer's
  pub by_unheld : HasOneHolder lock → is_among lock.holders u ≡ true → Still t alone (Some (without_hold lock u))
  by_unheld allowed mine = go lock.kind lock.writing refl refl
    where
      go : (kind : Kind) (writing : Bool) → lock.kind ≡ kind → lock.writing ≡ writing → Still t alone (Some (without_hold lock u))
      go Exclusive writing is w now holds =
          alike t alone lock (without_hold lock u) was (ap (λ kind. is_alone kind false) is ∙ ap (λ kind. is_alone kind lock.writing) (sym is)) now holds
      go Recursive writing is w now holds =
          alike t alone lock (without_hold lock u) was (ap (λ kind. is_alone kind false) is ∙ ap (λ kind. is_alone kind lock.writing) (sym is)) now holds
      go Condition writing is w now holds =
          alike t alone lock (without_hold lock u) was (ap (λ kind. is_alone kind false) is ∙ ap (λ kind. is_alone kind lock.writing) (sym is)) now holds
      go ReadWrite false is w now holds = alike t alone lock (without_hold lock u) was (ap (is_alone lock.kind) (sym w)) now holds
      go ReadWrite true is w now holds =
          let few : length lock.holders ≤ 1 =
          subst (λ kind. AreAllowed kind true lock.holders) is (subst (λ writing. AreAllowed lock.kind writing lock.holders) w allowed) in
          absurd (none-left lock.holders u t few mine (among t (without_hold lock u) now holds).0)

  pub by_unlock : HasOneHolder lock → Still t alone (Some (unlocks lock u).lock)
  by_unlock allowed =
      choose (has_none lock.holders) _ _ (λ none. unchanged)
      (λ some. choose (not (is_among lock.holders u)) _ _ (λ out. unchanged) (λ mine. by_unheld allowed (not-not (is_among lock.holders u) mine)))
    where
      not-not : (b : Bool) → not b ≡ false → b ≡ true
      not-not true is = refl
      not-not false is = absurd (cc is)
