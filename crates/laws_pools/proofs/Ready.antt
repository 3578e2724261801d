-- Of a job that is not detached, what it came to stays until it is got.
use Rattle.std.proofs.Common.{◌≡◌, ◌+◌, ◌<◌, ◌≤◌, ◌==◌, ℕ, Bool, true, false, not, if◌then◌else◌, List, [], ◌∷◌, ◌++◌}
use Rattle.std.proofs.Common.{Some, ap, refl, sym, subst, arith, append-nil}
use Rattle.std.specs.BTreeMap.{insert_entry}
use Rattle.std.specs.Ordering.{nat_cmp}
use Rattle.laws_pools.proofs.Counts.{Counted, began_left}
use Rattle.laws_pools.proofs.Tables.{insert_new}
use Rattle.laws_pools.proofs.Moves.{Ends, Move, begins, cancels, done, ends, gets, lost, posts, quiet, suspends}
use Rattle.laws_pools.proofs.Truths.{BegunTrue, Truths}
use Rattle.laws_pools.proofs.Views.{began, ended, got, left, numbered, posted, taken}
use Rattle.laws_pools.specs.PoolHappenings.{PoolHappening, Posted, Cancelled, Began, Done, Lost, Got, Suspended, Closed}
use Rattle.laws_pools.specs.PoolJobs.{IsPosted}
use Rattle.laws_sends.proofs.Entries.{at, every-at, total-at, total-remove}
use Rattle.laws_sends.proofs.Totals.{total, total-append, total-le, total-two}
use Rattle.laws_sends.proofs.Views.{one_if, one_of}
use Rattle.laws_sends.proofs.Weights.{counts, one_same}
use Rattle.laws_shared.proofs.Deciding.{same}
use Rattle.tt_calls.specs.declared.outcome.Outcome.{Outcome}
use Rattle.tt_pools.specs.Jobs.{JobTable, without}
use Rattle.tt_pools.specs.declared.jobs.Begun.{Begun}

-- posted, not detached or detached
abbrev pub own : ℕ → PoolHappening → ℕ
own n (Posted m from detached) = one_of (not detached) (m == n)
own n other = 0

abbrev aside : ℕ → PoolHappening → ℕ
aside n (Posted m from detached) = one_of detached (m == n)
aside n other = 0

abbrev pub Ready : List PoolHappening → JobTable → Type 0
Ready hs jobs = (n : ℕ) → 0 < total (own n) hs → total (got n) hs + total (numbered n) jobs.done ≡ total (ended n) hs

-- ---- a job is posted one way ----

two_ways : (n : ℕ) (one : PoolHappening) → own n one + aside n one ≤ posted n one
two_ways n (Posted m from true) = omega arith
two_ways n (Posted m from false) = omega arith
two_ways n (Cancelled m) = omega arith
two_ways n (Began m t) = omega arith
two_ways n (Done m t outcome) = omega arith
two_ways n (Lost m t) = omega arith
two_ways n (Got m t outcome) = omega arith
two_ways n (Suspended now) = omega arith
two_ways n Closed = omega arith

one_way : (hs : List PoolHappening) (jobs : JobTable) (n : ℕ) → Counted hs jobs → IsPosted hs n true → total (own n) hs ≡ 0
one_way hs jobs n counted is =
    omega (
      arith,
      total-two (own n) (aside n) (posted n) (two_ways n) hs,
      counted.once n,
      counts (aside n) hs (Posted n is.from true) is.posted,
      one_same n n refl,
    )

-- ---- moves ----

module _ (hs : List PoolHappening) (jobs : JobTable) (counted : Counted hs jobs) (truths : Truths hs jobs) (ready : Ready hs jobs) where
  by_other : (one : PoolHappening) → ((n : ℕ) → own n one ≡ 0) → ((n : ℕ) → got n one ≡ 0) → ((n : ℕ) → ended n one ≡ 0) → Ready (hs ++ one ∷ []) jobs
  by_other one unowned ungot unended n mine =
      omega (
        arith,
        total-append (got n) hs (one ∷ []),
        total-append (ended n) hs (one ∷ []),
        ungot n,
        unended n,
        ready n (omega (arith, mine, total-append (own n) hs (one ∷ []), unowned n)),
      )

  ended_least : (n : ℕ) → total (ended n) hs ≤ total (posted n) hs
  ended_least n = omega (arith, counted.begun n, counted.queued n, total-le (began n) (left n) (began_left n) hs)

  by_post : (from : ℕ) (detached : Bool) → Ready (hs ++ Posted jobs.next from detached ∷ []) jobs
  by_post from detached n mine = go (jobs.next == n) refl
    where
      happened : List PoolHappening
      happened = Posted jobs.next from detached ∷ []

      unowned : (way : Bool) → (jobs.next == n) ≡ false → one_of (not way) (jobs.next == n) ≡ 0
      unowned true is = refl
      unowned false is = ap one_if is

      go : (b : Bool) → (jobs.next == n) ≡ b → total (got n) (hs ++ happened) + total (numbered n) jobs.done ≡ total (ended n) (hs ++ happened)
      go true is =
          omega (
            arith,
            total-append (got n) hs happened,
            total-append (ended n) hs happened,
            counted.later n (omega (arith, same jobs.next n is)),
            ended_least n,
            counted.done n,
          )
      go false is =
          omega (
            arith,
            total-append (got n) hs happened,
            total-append (ended n) hs happened,
            ready n (omega (arith, mine, total-append (own n) hs happened, unowned detached is)),
          )

  by_end : (t : ℕ) (begun : Begun) (outcome : Outcome) (one : PoolHappening) → at t jobs.begun ≡ Some begun
      → ((n : ℕ) → own n one ≡ 0)
      → ((n : ℕ) → got n one ≡ 0)
      → ((n : ℕ) → ended n one ≡ one_if (begun.job == n))
      → (b : Bool) → begun.detached ≡ b
      → Ready (hs ++ one ∷ []) (if b then record jobs { begun = without jobs.begun t }
      else record jobs { begun = without jobs.begun t; done = insert_entry nat_cmp jobs.done begun.job outcome })
  by_end t begun outcome one there unowned ungot ends_it true is n mine = go (begun.job == n) refl
    where
      before : 0 < total (own n) hs
      before = omega (arith, mine, total-append (own n) hs (one ∷ []), unowned n)

      go : (b : Bool) → (begun.job == n) ≡ b → total (got n) (hs ++ one ∷ []) + total (numbered n) jobs.done ≡ total (ended n) (hs ++ one ∷ [])
      go true alike =
          let posted : IsPosted hs begun.job true =
          subst (IsPosted hs begun.job) is (every-at (BegunTrue hs) t jobs.begun begun truths.begun there).posted in
          let none : total (own n) hs ≡ 0 = subst (λ k. total (own k) hs ≡ 0) (same begun.job n alike) (one_way hs jobs begun.job counted posted) in
          let no : ⊥ = omega (arith, before, none) in
          absurd no
      go false apart =
          omega (
            arith,
            total-append (got n) hs (one ∷ []),
            total-append (ended n) hs (one ∷ []),
            ungot n,
            ends_it n,
            ap one_if apart,
            ready n before,
          )
  by_end t begun outcome one there unowned ungot ends_it false is n mine =
      omega (
        arith,
        total-append (got n) hs (one ∷ []),
        total-append (ended n) hs (one ∷ []),
        ungot n,
        ends_it n,
        insert_new n begun.job jobs.done outcome none,
        ready n (omega (arith, mine, total-append (own n) hs (one ∷ []), unowned n)),
      )
    where
      -- it had not ended before
      none : total (numbered begun.job) jobs.done ≡ 0
      none =
          omega (
            arith,
            counted.done begun.job,
            counted.begun begun.job,
            total-at (taken begun.job) t jobs.begun begun there,
            one_same begun.job begun.job refl,
            total-le (began begun.job) (left begun.job) (began_left begun.job) hs,
            counted.queued begun.job,
            counted.once begun.job,
          )

  by_get : (n t : ℕ) (outcome : Outcome) → at n jobs.done ≡ Some outcome → Ready (hs ++ Got n t outcome ∷ []) (record jobs { done = without jobs.done n })
  by_get n t outcome there k mine =
      omega (
        arith,
        total-append (got k) hs (Got n t outcome ∷ []),
        total-append (ended k) hs (Got n t outcome ∷ []),
        total-remove (numbered k) n jobs.done outcome there,
        ready k (omega (arith, mine, total-append (own k) hs (Got n t outcome ∷ []))),
      )

pub ready_on : (hs : List PoolHappening) (on now : Bool) (old new : JobTable) (happened : List PoolHappening) → Move on old now new happened → Counted hs old
    → Truths hs old
    → Ready hs old
    → Ready (hs ++ happened) new
ready_on hs on _ old _ _ quiet counted truths ready = subst (λ all. Ready all old) (sym (append-nil hs)) ready
ready_on hs on _ old _ _ (posts script from detached) counted truths ready = by_post hs old counted truths ready from detached
ready_on hs on _ old _ _ (cancels n job there own) counted truths ready = by_other hs old counted truths ready (Cancelled n) (λ k. refl) (λ k. refl) (λ k. refl)
ready_on hs on _ old _ _ (begins n t job later is goes_on) counted truths ready =
    by_other hs old counted truths ready (Began n t) (λ k. refl) (λ k. refl) (λ k. refl)
ready_on hs on _ old _ _ (ends t begun outcome one there end) counted truths ready = go end begun.detached refl
  where
    go : {outcome : Outcome} {one : PoolHappening} → Ends begun.job t outcome one → (b : Bool) → begun.detached ≡ b
        → Ready (hs ++ one ∷ []) (if b then record old { begun = without old.begun t }
        else record old { begun = without old.begun t; done = insert_entry nat_cmp old.done begun.job outcome })
    go (done outcome) b is =
        by_end hs old counted truths ready t begun outcome (Done begun.job t outcome) there (λ k. refl) (λ k. refl) (λ k. refl) b is
    go lost b is = by_end hs old counted truths ready t begun _ (Lost begun.job t) there (λ k. refl) (λ k. refl) (λ k. refl) b is
ready_on hs on _ old _ _ (gets n t outcome there) counted truths ready = by_get hs old counted truths ready n t outcome there
ready_on hs on _ old _ _ (suspends now) counted truths ready =
    by_other hs old counted truths ready (Suspended now) (λ k. refl) (λ k. refl) (λ k. refl)
