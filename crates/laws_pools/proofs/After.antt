-- What a move makes happen comes after what it must, and before the pool is closed.
use Rattle.std.proofs.lemmas.Bool.Decides.{nat_tests}
use Rattle.std.proofs.Common.{◌≡◌, ◌∙◌, ◌+◌, ◌<◌, ◌≤◌, ◌==◌, ℕ, nat_lt, zero, suc, Bool, true, false, List, [], ◌∷◌, ◌++◌, Contains}
use Rattle.std.proofs.Common.{if◌then◌else◌, ap, refl, sym, subst, arith, append-nil}
use Rattle.std.proofs.lemmas.List.Sums.{fold_push}
use Rattle.laws_pools.proofs.Counts.{Counted, counted_on}
use Rattle.laws_pools.proofs.Moves.{Ends, Move, begins, cancels, done, ends, gets, lost, posts, quiet, suspends}
use Rattle.laws_pools.proofs.Order.{Rising, rising_on}
use Rattle.laws_pools.proofs.Ready.{Ready, ready_on}
use Rattle.laws_pools.proofs.Truths.{BegunTrue, DoneTrue, QueuedTrue, Truths, truths_on}
use Rattle.laws_pools.proofs.Views.{closed, left, numbered, posted}
use Rattle.laws_pools.specs.PoolHappenings.{PoolHappening, Posted, Cancelled, Began, Done, Lost, Got, Suspended, Closed}
use Rattle.laws_pools.specs.PoolJobs as spec
use Rattle.laws_pools.specs.PoolJobs.{BeginsInTurn, ComesAfter, HasLeft, IsNext, IsOpen, IsPosted, is_suspended, suspended_after}
use Rattle.laws_sends.proofs.Cuts.{Along, Every}
use Rattle.laws_sends.proofs.Entries.{every-at}
use Rattle.laws_sends.proofs.Totals.{total, total-append}
use Rattle.laws_sends.proofs.Weights.{counts, first_of, found, later_of, one_other, one_same}
use Rattle.laws_shared.proofs.Deciding.{same}
use Rattle.tt_calls.specs.declared.outcome.Outcome.{Outcome}
use Rattle.tt_pools.specs.Jobs.{JobTable}
use Rattle.tt_pools.specs.declared.jobs.Queued.{Queued}

-- all that holds of an open pool
pub record Open (hs : List PoolHappening) (on : Bool) (jobs : JobTable) : Type 0 where
  pub counted : Counted hs jobs
  pub rising : Rising jobs.queued
  pub truths : Truths hs jobs
  pub suspended : on ≡ is_suspended hs
  pub ready : Ready hs jobs
  pub unclosed : total closed hs ≡ 0

abbrev pub After : List PoolHappening → PoolHappening → Type 0
After before one = ComesAfter before one × IsOpen before

-- ---- what was counted is there ----

left_there : (n : ℕ) (hs : List PoolHappening) → 0 < total (left n) hs → HasLeft hs n
left_there n hs some = found (left n) (λ xs. HasLeft xs n) here later hs some
  where
    later : (one : PoolHappening) (xs : List PoolHappening) → HasLeft xs n → HasLeft (one ∷ xs) n
    later one xs (spec.HasLeft.cancelled there) = spec.HasLeft.cancelled (later_of one xs _ there)
    later one xs (spec.HasLeft.began t there) = spec.HasLeft.began t (later_of one xs _ there)

    here : (one : PoolHappening) (xs : List PoolHappening) → 0 < left n one → HasLeft (one ∷ xs) n
    here (Cancelled m) xs is = go (m == n) refl is
      where
        go : (b : Bool) → (m == n) ≡ b → 0 < (if b then 1 else 0) → HasLeft (Cancelled m ∷ xs) n
        go true m_is is = spec.HasLeft.cancelled (subst (λ k. Contains (Cancelled m ∷ xs) (Cancelled k)) (same m n m_is) (first_of (Cancelled m) xs))
        go false m_is is = let no : ⊥ = omega (arith, is) in absurd no
    here (Began m t) xs is = go (m == n) refl is
      where
        go : (b : Bool) → (m == n) ≡ b → 0 < (if b then 1 else 0) → HasLeft (Began m t ∷ xs) n
        go true m_is is = spec.HasLeft.began t (subst (λ k. Contains (Began m t ∷ xs) (Began k t)) (same m n m_is) (first_of (Began m t) xs))
        go false m_is is = let no : ⊥ = omega (arith, is) in absurd no
    here (Posted m from detached) xs is = let no : ⊥ = omega (arith, is) in absurd no
    here (Done m t outcome) xs is = let no : ⊥ = omega (arith, is) in absurd no
    here (Lost m t) xs is = let no : ⊥ = omega (arith, is) in absurd no
    here (Got m t outcome) xs is = let no : ⊥ = omega (arith, is) in absurd no
    here (Suspended on) xs is = let no : ⊥ = omega (arith, is) in absurd no
    here Closed xs is = let no : ⊥ = omega (arith, is) in absurd no

posted_counts : (hs : List PoolHappening) (n : ℕ) (detached : Bool) → IsPosted hs n detached → 0 < total (posted n) hs
posted_counts hs n detached is = omega (arith, counts (posted n) hs _ is.posted, one_same n n refl)

pub is_open : (hs : List PoolHappening) → total closed hs ≡ 0 → IsOpen hs
is_open hs none there = let no : ⊥ = omega (arith, counts closed hs Closed there, none) in no

-- ---- moves ----

module _ (hs : List PoolHappening) (on : Bool) (jobs : JobTable) (kept : Open hs on jobs) where
  next_is : IsNext hs jobs.next
  next_is k detached is = go (nat_lt k jobs.next) refl
    where
      go : (b : Bool) → nat_lt k jobs.next ≡ b → k < jobs.next
      go true less = grind (arith, nat_tests, less)
      go false less =
          let past : jobs.next ≤ k = grind (arith, nat_tests, less) in
          let no : ⊥ = omega (arith, kept.counted.later k past, posted_counts hs k detached is) in
          absurd no

  in_turn : (n : ℕ) (job : Queued) (later : List (ℕ × Queued)) → jobs.queued ≡ (n, job) ∷ later → on ≡ false → BeginsInTurn hs n
  in_turn n job later is goes_on = record {
    detached = job.detached;
    posted = (subst (Every (QueuedTrue hs)) is kept.truths.queued).0;
    in_order = λ k detached first less. go k detached first less (total (left k) hs) refl;
    goes_on = sym kept.suspended ∙ goes_on;
  }
    where
      rising : Rising ((n, job) ∷ later)
      rising = subst Rising is kept.rising

      go : (k : ℕ) (detached : Bool) → IsPosted hs k detached → k < n → (m : ℕ) → total (left k) hs ≡ m → HasLeft hs k
      go k detached first less (suc m) some = left_there k hs (omega (arith, some))
      go k detached first less zero none =
          let queue : total (numbered k) jobs.queued ≡ numbered k (n, job) + total (numbered k) later = ap (total (numbered k)) is in
          let other = one_other n k (λ alike. omega (arith, alike, less)) in
          let there : 0 < total (numbered k) later =
          omega (arith, queue, other, kept.counted.queued k, none, posted_counts hs k detached first) in
          let above : n < k = rising.0 k there in
          let no : ⊥ = omega (arith, above, less) in
          absurd no

  at_end : (n t : ℕ) (outcome : Outcome) (one : PoolHappening) → Contains hs (Began n t) → Ends n t outcome one → ComesAfter hs one
  at_end n t _ _ there (done outcome) = there
  at_end n t _ _ there lost = there

pub move_after : (hs : List PoolHappening) (on now : Bool) (old new : JobTable) (happened : List PoolHappening) → Move on old now new happened → Open hs on old
    → Along After hs happened
move_after hs on _ old _ _ quiet kept = tt
move_after hs on _ old _ _ (posts script from detached) kept = ((next_is hs on old kept, is_open hs kept.unclosed), tt)
move_after hs on _ old _ _ (cancels n job there own) kept =
    ((subst (IsPosted hs n) own (every-at (QueuedTrue hs) n old.queued job kept.truths.queued there), is_open hs kept.unclosed), tt)
move_after hs on _ old _ _ (begins n t job later is goes_on) kept = ((in_turn hs on old kept n job later is goes_on, is_open hs kept.unclosed), tt)
move_after hs on _ old _ _ (ends t begun outcome one there end) kept =
    let began = (every-at (BegunTrue hs) t old.begun begun kept.truths.begun there).began in
    ((at_end hs on old kept begun.job t outcome one began end, is_open hs kept.unclosed), tt)
move_after hs on _ old _ _ (gets n t outcome there) kept =
    let is = every-at (DoneTrue hs) n old.done outcome kept.truths.done there in
    ((record { posted = is.posted; is = is.is }, is_open hs kept.unclosed), tt)
move_after hs on _ old _ _ (suspends now) kept = ((tt, is_open hs kept.unclosed), tt)

-- ---- whether the pool is suspended, and not closed ----

still : (hs : List PoolHappening) (on : Bool) (one : PoolHappening) → suspended_after (is_suspended hs) one ≡ is_suspended hs → on ≡ is_suspended hs
    → on ≡ is_suspended (hs ++ one ∷ [])
still hs on one same is = is ∙ sym same ∙ sym (fold_push suspended_after false hs one)

suspended_on : (hs : List PoolHappening) (on now : Bool) (old new : JobTable) (happened : List PoolHappening) → Move on old now new happened
    → on ≡ is_suspended hs → now ≡ is_suspended (hs ++ happened)
suspended_on hs on _ old _ _ quiet is = is ∙ ap is_suspended (sym (append-nil hs))
suspended_on hs on _ old _ _ (posts script from detached) is = still hs on _ refl is
suspended_on hs on _ old _ _ (cancels n job there own) is = still hs on _ refl is
suspended_on hs on _ old _ _ (begins n t job later first goes_on) is = still hs on _ refl is
suspended_on hs on _ old _ _ (ends t begun outcome one there end) is = at end
  where
    at : {outcome : Outcome} {one : PoolHappening} → Ends begun.job t outcome one → on ≡ is_suspended (hs ++ one ∷ [])
    at (done outcome) = still hs on _ refl is
    at lost = still hs on _ refl is
suspended_on hs on _ old _ _ (gets n t outcome there) is = still hs on _ refl is
suspended_on hs on _ old _ _ (suspends now) is = sym (fold_push suspended_after false hs (Suspended now))

unclosed_on : (hs : List PoolHappening) (on now : Bool) (old new : JobTable) (happened : List PoolHappening) → Move on old now new happened
    → total closed hs ≡ 0 → total closed (hs ++ happened) ≡ 0
unclosed_on hs on _ old _ _ quiet is = omega (arith, is, total-append closed hs [])
unclosed_on hs on _ old _ _ (posts script from detached) is = omega (arith, is, total-append closed hs (Posted old.next from detached ∷ []))
unclosed_on hs on _ old _ _ (cancels n job there own) is = omega (arith, is, total-append closed hs (Cancelled n ∷ []))
unclosed_on hs on _ old _ _ (begins n t job later first goes_on) is = omega (arith, is, total-append closed hs (Began n t ∷ []))
unclosed_on hs on _ old _ _ (ends t begun outcome one there end) is = at end
  where
    at : {outcome : Outcome} {one : PoolHappening} → Ends begun.job t outcome one → total closed (hs ++ one ∷ []) ≡ 0
    at (done outcome) = omega (arith, is, total-append closed hs (Done begun.job t outcome ∷ []))
    at lost = omega (arith, is, total-append closed hs (Lost begun.job t ∷ []))
unclosed_on hs on _ old _ _ (gets n t outcome there) is = omega (arith, is, total-append closed hs (Got n t outcome ∷ []))
unclosed_on hs on _ old _ _ (suspends now) is = omega (arith, is, total-append closed hs (Suspended now ∷ []))

pub move_on : (hs : List PoolHappening) (on now : Bool) (old new : JobTable) (happened : List PoolHappening) → Move on old now new happened → Open hs on old
    → Open (hs ++ happened) now new
move_on hs on now old new happened move kept = record {
  counted = counted_on hs on now old new happened move kept.counted;
  rising = rising_on hs on now old new happened move kept.counted kept.rising;
  truths = truths_on hs on now old new happened move kept.truths;
  suspended = suspended_on hs on now old new happened move kept.suspended;
  ready = ready_on hs on now old new happened move kept.counted kept.truths kept.ready;
  unclosed = unclosed_on hs on now old new happened move kept.unclosed;
}
