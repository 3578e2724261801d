-- A job draws a number once; it leaves the queue at most as often as it is posted, ends as often as it begins, and is got as often as it ends.
use Rattle.std.proofs.Common.{◌≡◌, ◌+◌, ◌<◌, ◌≤◌, ◌==◌, ℕ, nat_lt, Bool, true, false, cond, List, [], ◌∷◌, ◌++◌, if◌then◌else◌}
use Rattle.std.proofs.Common.{Some, ap, refl, sym, subst, arith, append-nil}
use Rattle.std.proofs.lemmas.Bool.Decides.{nat_tests}
use Rattle.std.specs.BTreeMap.{insert_entry}
use Rattle.std.specs.Ordering.{nat_cmp}
use Rattle.std.specs.declared.cmp.Ordering.TheVariants.{Less, Equal, Greater}
use Rattle.laws_pools.proofs.Moves.{Ends, Move, begins, cancels, done, ends, gets, lost, posts, quiet, suspends}
use Rattle.laws_pools.proofs.Views.{began, ended, got, left, numbered, posted, taken}
use Rattle.laws_pools.specs.PoolHappenings.{PoolHappening, Posted, Cancelled, Began, Done, Lost, Got, Suspended, Closed}
use Rattle.laws_sends.proofs.Entries.{at, total-insert, total-remove}
use Rattle.laws_sends.proofs.Totals.{total, total-append, total-le}
use Rattle.laws_sends.proofs.Views.{one_if}
use Rattle.laws_sends.proofs.Weights.{one_other, one_same}
use Rattle.laws_shared.proofs.Deciding.{same}
use Rattle.tt_calls.specs.declared.outcome.Outcome.{Outcome}
use Rattle.tt_pools.specs.Jobs.{JobTable, with_begun_job, with_outcome, with_posted_job, without}
use Rattle.tt_pools.specs.declared.jobs.Begun.{Begun}
use Rattle.tt_pools.specs.declared.jobs.Queued.{Queued}

pub record Counted (hs : List PoolHappening) (jobs : JobTable) : Type 0 where
  pub once : (n : ℕ) → total (posted n) hs ≤ 1
  pub later : (n : ℕ) → jobs.next ≤ n → total (posted n) hs ≡ 0
  pub queued : (n : ℕ) → total (left n) hs + total (numbered n) jobs.queued ≡ total (posted n) hs
  pub begun : (n : ℕ) → total (ended n) hs + total (taken n) jobs.begun ≤ total (began n) hs
  pub done : (n : ℕ) → total (got n) hs + total (numbered n) jobs.done ≤ total (ended n) hs

-- ---- a new number stands last ----

above : (k n : ℕ) → n < k → nat_cmp k n ≡ Greater
above k n less = go (nat_lt k n) (k == n) refl refl
  where
    go : (under alike : Bool) → nat_lt k n ≡ under → (k == n) ≡ alike → cond under Less (cond alike Equal Greater) ≡ Greater
    go true alike under_is alike_is = let no : ⊥ = grind (arith, nat_tests, under_is, less) in absurd no
    go false true under_is alike_is = let no : ⊥ = grind (arith, nat_tests, alike_is, less) in absurd no
    go false false under_is alike_is = refl

pub insert_last : {X : Type 0} (es : List (ℕ × X)) (k : ℕ) (v : X) → ((n : ℕ) → 0 < total (numbered n) es → n < k)
    → insert_entry nat_cmp es k v ≡ es ++ (k, v) ∷ []
insert_last [] k v under = refl
insert_last (e ∷ es) k v under =
    let first : e.0 < k = under e.0 (omega (arith, one_same e.0 e.0 refl)) in
    rw (above k e.0 first) (ap (λ rest. e ∷ rest) (insert_last es k v (λ n there. under n (omega (arith, there)))))

pub under_next : (hs : List PoolHappening) (jobs : JobTable) → Counted hs jobs → (n : ℕ) → 0 < total (numbered n) jobs.queued → n < jobs.next
under_next hs jobs counted n there = go (nat_lt n jobs.next) refl
  where
    go : (b : Bool) → nat_lt n jobs.next ≡ b → n < jobs.next
    go true is = grind (arith, nat_tests, is)
    go false is =
        let past : jobs.next ≤ n = grind (arith, nat_tests, is) in
        let no : ⊥ = omega (arith, counted.queued n, there, counted.later n past) in absurd no

pub queued_posted : (hs : List PoolHappening) (jobs : JobTable) (script : List ℕ) (detached : Bool) → Counted hs jobs
    → (with_posted_job jobs script detached).queued ≡ jobs.queued ++ (jobs.next, record { script = script; detached = detached }) ∷ []
queued_posted hs jobs script detached counted = insert_last jobs.queued jobs.next _ (under_next hs jobs counted)

-- ---- moves ----

module _ (hs : List PoolHappening) (jobs : JobTable) (counted : Counted hs jobs) where
  by_post : (script : List ℕ) (from : ℕ) (detached : Bool) → Counted (hs ++ Posted jobs.next from detached ∷ []) (with_posted_job jobs script detached)
  by_post script from detached = record {
    once = λ n. go n (jobs.next == n) refl;
    later = λ n past.
        omega (arith, total-append (posted n) hs happened, counted.later n (omega (arith, past)), one_other jobs.next n (λ is. omega (arith, is, past)));
    queued = λ n.
        omega (
          arith,
          total-append (left n) hs happened,
          total-append (posted n) hs happened,
          ap (total (numbered n)) (queued_posted hs jobs script detached counted),
          total-append (numbered n) jobs.queued ((jobs.next, job) ∷ []),
          counted.queued n,
        );
    begun = λ n. omega (arith, total-append (ended n) hs happened, total-append (began n) hs happened, counted.begun n);
    done = λ n. omega (arith, total-append (got n) hs happened, total-append (ended n) hs happened, counted.done n);
  }
    where
      happened : List PoolHappening
      happened = Posted jobs.next from detached ∷ []

      job : Queued
      job = record { script = script; detached = detached }

      go : (n : ℕ) (b : Bool) → (jobs.next == n) ≡ b → total (posted n) (hs ++ happened) ≤ 1
      go n true is =
          omega (arith, total-append (posted n) hs happened, ap one_if is, counted.later n (omega (arith, same jobs.next n is)))
      go n false is = omega (arith, total-append (posted n) hs happened, ap one_if is, counted.once n)

  by_cancel : (n : ℕ) (job : Queued) → at n jobs.queued ≡ Some job → Counted (hs ++ Cancelled n ∷ []) (record jobs { queued = without jobs.queued n })
  by_cancel n job there = record {
    once = λ k. omega (arith, total-append (posted k) hs happened, counted.once k);
    later = λ k past. omega (arith, total-append (posted k) hs happened, counted.later k past);
    queued = λ k.
        omega (
          arith,
          total-append (left k) hs happened,
          total-append (posted k) hs happened,
          total-remove (numbered k) n jobs.queued job there,
          counted.queued k,
        );
    begun = λ k. omega (arith, total-append (ended k) hs happened, total-append (began k) hs happened, counted.begun k);
    done = λ k. omega (arith, total-append (got k) hs happened, total-append (ended k) hs happened, counted.done k);
  }
    where
      happened : List PoolHappening
      happened = Cancelled n ∷ []

  by_begin : (n t : ℕ) (job : Queued) (later : List (ℕ × Queued)) → jobs.queued ≡ (n, job) ∷ later
      → Counted (hs ++ Began n t ∷ []) (with_begun_job jobs t (n, job) later)
  by_begin n t job later is = record {
    once = λ k. omega (arith, total-append (posted k) hs happened, counted.once k);
    later = λ k past. omega (arith, total-append (posted k) hs happened, counted.later k past);
    queued = λ k.
        omega (
          arith,
          total-append (left k) hs happened,
          total-append (posted k) hs happened,
          ap (total (numbered k)) is,
          counted.queued k,
        );
    begun = λ k.
        omega (
          arith,
          total-append (ended k) hs happened,
          total-append (began k) hs happened,
          total-insert (taken k) jobs.begun t (record { job = n; detached = job.detached }),
          counted.begun k,
        );
    done = λ k. omega (arith, total-append (got k) hs happened, total-append (ended k) hs happened, counted.done k);
  }
    where
      happened : List PoolHappening
      happened = Began n t ∷ []

  by_end : (t : ℕ) (begun : Begun) (outcome : Outcome) (one : PoolHappening) → at t jobs.begun ≡ Some begun → Ends begun.job t outcome one
      → Counted (hs ++ one ∷ []) (with_outcome jobs t begun outcome)
  by_end t begun outcome one there end = go begun.detached
    where
      quiets : (n : ℕ) → (posted n one ≡ 0) × (left n one ≡ 0) × (began n one ≡ 0) × (got n one ≡ 0) × (ended n one ≡ one_if (begun.job == n))
      quiets n = at_end end
        where
          at_end : {outcome : Outcome} {one : PoolHappening} → Ends begun.job t outcome one
              → (posted n one ≡ 0) × (left n one ≡ 0) × (began n one ≡ 0) × (got n one ≡ 0) × (ended n one ≡ one_if (begun.job == n))
          at_end (done outcome) = (refl, refl, refl, refl, refl)
          at_end lost = (refl, refl, refl, refl, refl)

      fewer : (n : ℕ) → total (taken n) (without jobs.begun t) + one_if (begun.job == n) ≡ total (taken n) jobs.begun
      fewer n = total-remove (taken n) t jobs.begun begun there

      ends_now : (n : ℕ) → total (ended n) (hs ++ one ∷ []) ≡ total (ended n) hs + one_if (begun.job == n)
      ends_now n = omega (arith, total-append (ended n) hs (one ∷ []), (quiets n).4)

      go : (b : Bool) → Counted (hs ++ one ∷ []) (if b then record jobs { begun = without jobs.begun t }
          else record jobs { begun = without jobs.begun t; done = insert_entry nat_cmp jobs.done begun.job outcome })
      go true = record {
        once = λ n. omega (arith, total-append (posted n) hs (one ∷ []), (quiets n).0, counted.once n);
        later = λ n past. omega (arith, total-append (posted n) hs (one ∷ []), (quiets n).0, counted.later n past);
        queued = λ n.
            omega (
              arith,
              total-append (left n) hs (one ∷ []),
              total-append (posted n) hs (one ∷ []),
              (quiets n).0,
              (quiets n).1,
              counted.queued n,
            );
        begun = λ n. omega (arith, ends_now n, total-append (began n) hs (one ∷ []), (quiets n).2, fewer n, counted.begun n);
        done = λ n. omega (arith, total-append (got n) hs (one ∷ []), (quiets n).3, ends_now n, counted.done n);
      }
      go false = record {
        once = λ n. omega (arith, total-append (posted n) hs (one ∷ []), (quiets n).0, counted.once n);
        later = λ n past. omega (arith, total-append (posted n) hs (one ∷ []), (quiets n).0, counted.later n past);
        queued = λ n.
            omega (
              arith,
              total-append (left n) hs (one ∷ []),
              total-append (posted n) hs (one ∷ []),
              (quiets n).0,
              (quiets n).1,
              counted.queued n,
            );
        begun = λ n. omega (arith, ends_now n, total-append (began n) hs (one ∷ []), (quiets n).2, fewer n, counted.begun n);
        done = λ n.
            omega (
              arith,
              total-append (got n) hs (one ∷ []),
              (quiets n).3,
              ends_now n,
              total-insert (numbered n) jobs.done begun.job outcome,
              counted.done n,
            );
      }

  by_get : (n t : ℕ) (outcome : Outcome) → at n jobs.done ≡ Some outcome → Counted (hs ++ Got n t outcome ∷ []) (record jobs { done = without jobs.done n })
  by_get n t outcome there = record {
    once = λ k. omega (arith, total-append (posted k) hs happened, counted.once k);
    later = λ k past. omega (arith, total-append (posted k) hs happened, counted.later k past);
    queued = λ k. omega (arith, total-append (left k) hs happened, total-append (posted k) hs happened, counted.queued k);
    begun = λ k. omega (arith, total-append (ended k) hs happened, total-append (began k) hs happened, counted.begun k);
    done = λ k.
        omega (
          arith,
          total-append (got k) hs happened,
          total-append (ended k) hs happened,
          total-remove (numbered k) n jobs.done outcome there,
          counted.done k,
        );
  }
    where
      happened : List PoolHappening
      happened = Got n t outcome ∷ []

  by_suspend : (now : Bool) → Counted (hs ++ Suspended now ∷ []) jobs
  by_suspend now = record {
    once = λ k. omega (arith, total-append (posted k) hs happened, counted.once k);
    later = λ k past. omega (arith, total-append (posted k) hs happened, counted.later k past);
    queued = λ k. omega (arith, total-append (left k) hs happened, total-append (posted k) hs happened, counted.queued k);
    begun = λ k. omega (arith, total-append (ended k) hs happened, total-append (began k) hs happened, counted.begun k);
    done = λ k. omega (arith, total-append (got k) hs happened, total-append (ended k) hs happened, counted.done k);
  }
    where
      happened : List PoolHappening
      happened = Suspended now ∷ []

pub counted_on : (hs : List PoolHappening) (on now : Bool) (old new : JobTable) (happened : List PoolHappening) → Move on old now new happened → Counted hs old
    → Counted (hs ++ happened) new
counted_on hs on _ old _ _ quiet counted = subst (λ all. Counted all old) (sym (append-nil hs)) counted
counted_on hs on _ old _ _ (posts script from detached) counted = by_post hs old counted script from detached
counted_on hs on _ old _ _ (cancels n job there own) counted = by_cancel hs old counted n job there
counted_on hs on _ old _ _ (begins n t job later is goes_on) counted = by_begin hs old counted n t job later is
counted_on hs on _ old _ _ (ends t begun outcome one there end) counted = by_end hs old counted t begun outcome one there end
counted_on hs on _ old _ _ (gets n t outcome there) counted = by_get hs old counted n t outcome there
counted_on hs on _ old _ _ (suspends now) counted = by_suspend hs old counted now

-- ---- what it comes to for one job ----

pub record Bounded (hs : List PoolHappening) : Type 0 where
  pub posted_once : (n : ℕ) → total (posted n) hs ≤ 1
  pub left_once : (n : ℕ) → total (left n) hs ≤ 1
  pub ended_once : (n : ℕ) → total (ended n) hs ≤ 1
  pub got_once : (n : ℕ) → total (got n) hs ≤ 1

pub began_left : (n : ℕ) (one : PoolHappening) → began n one ≤ left n one
began_left n (Posted m from detached) = omega arith
began_left n (Cancelled m) = omega arith
began_left n (Began m t) = omega arith
began_left n (Done m t outcome) = omega arith
began_left n (Lost m t) = omega arith
began_left n (Got m t outcome) = omega arith
began_left n (Suspended now) = omega arith
began_left n Closed = omega arith

pub bounds : (hs : List PoolHappening) (jobs : JobTable) → Counted hs jobs → Bounded hs
bounds hs jobs counted = record {
  posted_once = counted.once;
  left_once = leaves;
  ended_once = λ n. omega (arith, counted.begun n, total-le (began n) (left n) (began_left n) hs, leaves n);
  got_once = λ n. omega (arith, counted.done n, counted.begun n, total-le (began n) (left n) (began_left n) hs, leaves n);
}
  where
    leaves : (n : ℕ) → total (left n) hs ≤ 1
    leaves n = omega (arith, counted.queued n, counted.once n)
