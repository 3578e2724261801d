-- A job that has ended, is not detached and was not got is answered what it came to.
use Rattle.std.proofs.Common.{◌≡◌, ◌∙◌, ◌<◌, ◌≤◌, ◌==◌, ◌⊎◌, inl, inr, ℕ, zero, suc, Bool, true, false, List, [], ◌∷◌, Contains, Option}
use Rattle.std.proofs.Common.{Some, None, option_and_then, ap, refl, sym, subst, arith}
use Rattle.laws_pools.proofs.After.{Open}
use Rattle.laws_pools.proofs.Calls.{some_in}
use Rattle.laws_pools.proofs.Counts.{bounds}
use Rattle.laws_pools.proofs.Kept.{Gone, Holds, Lines, lines_of}
use Rattle.laws_pools.proofs.Ready.{own}
use Rattle.laws_pools.proofs.Tables.{there_is}
use Rattle.laws_pools.proofs.Truths.{DoneTrue}
use Rattle.laws_pools.proofs.Views.{closed, ended, got, numbered}
use Rattle.laws_pools.proofs.Workers.{pool_is}
use Rattle.laws_pools.specs.PoolAnswers.{AnswerLaw, IsReady}
use Rattle.laws_pools.specs.PoolHappenings.{PoolHappening, Posted, Cancelled, Began, Done, Lost, Got, Suspended, Closed, happenings}
use Rattle.laws_pools.specs.PoolJobs as spec
use Rattle.laws_pools.specs.PoolJobs.{CameTo}
use Rattle.laws_sends.proofs.Entries.{at, every-at}
use Rattle.laws_sends.proofs.Totals.{total}
use Rattle.laws_sends.proofs.Views.{one_if}
use Rattle.laws_sends.proofs.Weights.{counts, first_of, found, later_of, one_same}
use Rattle.laws_shared.proofs.Deciding.{same}
use Rattle.tt_calls.specs.declared.outcome.Outcome.{Outcome}
use Rattle.tt_calls.specs.declared.reply.Reply.TheVariants.{Answer}
use Rattle.tt_calls.specs.declared.reply.Step.TheVariants as step
use Rattle.tt_ids.specs.Ids.{number_named}
use Rattle.tt_pools.specs.Calls as pools
use Rattle.tt_pools.specs.Jobs.{JobTable, outcome_of}
use Rattle.tt_pools.specs.Pools.{PoolTable, at_number, pool_of}
use Rattle.tt_pools.specs.declared.pool.Pool.{Pool}
use Rattle.tt_pools.specs.declared.step.PoolStep.{PoolStep}
use Rattle.tt_shared.specs.Acts.{gives_of}
use Rattle.tt_shared.specs.State.{State, start_state}

-- ---- one element that counts ----

-- two that count are the same, if they count once
one_alone : {X : Type 0} (w : X → ℕ) (xs : List X) (x y : X) → total w xs ≤ 1 → w x ≡ 1 → w y ≡ 1 → Contains xs x → Contains xs y → x ≡ y
one_alone w [] x y most x_is y_is here there = absurd (let no : ⊥ = omega (arith, here.1) in no)
one_alone w (z ∷ zs) x y most x_is y_is (zero, here, first) (zero, there, second) = sym first ∙ second
one_alone w (z ∷ zs) x y most x_is y_is (zero, here, first) (suc j, there, second) =
    let no : ⊥ = omega (arith, most, ap w first, x_is, y_is, counts w zs y (j, omega (arith, there), second)) in
    absurd no
one_alone w (z ∷ zs) x y most x_is y_is (suc i, here, first) (zero, there, second) =
    let no : ⊥ = omega (arith, most, ap w second, x_is, y_is, counts w zs x (i, omega (arith, here), first)) in
    absurd no
one_alone w (z ∷ zs) x y most x_is y_is (suc i, here, first) (suc j, there, second) =
    one_alone w zs x y (omega (arith, most)) x_is y_is (i, omega (arith, here), first) (j, omega (arith, there), second)

-- what a job came to is one thing
one_outcome : (hs : List PoolHappening) (n : ℕ) (first second : Outcome) → total (ended n) hs ≤ 1 → CameTo hs n first → CameTo hs n second → first ≡ second
one_outcome hs n _ _ most (spec.CameTo.done t first here) (spec.CameTo.done u second there) =
    let alike : Done n t first ≡ Done n u second =
    one_alone (ended n) hs (Done n t first) (Done n u second) most (one_same n n refl) (one_same n n refl) here there in
    cc alike
one_outcome hs n _ _ most (spec.CameTo.done t first here) (spec.CameTo.lost u there) =
    let alike : Done n t first ≡ Lost n u =
    one_alone (ended n) hs (Done n t first) (Lost n u) most (one_same n n refl) (one_same n n refl) here there in
    absurd (cc alike)
one_outcome hs n _ _ most (spec.CameTo.lost t here) (spec.CameTo.done u second there) =
    let alike : Lost n t ≡ Done n u second =
    one_alone (ended n) hs (Lost n t) (Done n u second) most (one_same n n refl) (one_same n n refl) here there in
    absurd (cc alike)
one_outcome hs n _ _ most (spec.CameTo.lost t here) (spec.CameTo.lost u there) = refl

ended_counts : (hs : List PoolHappening) (n : ℕ) (outcome : Outcome) → CameTo hs n outcome → 0 < total (ended n) hs
ended_counts hs n _ (spec.CameTo.done t outcome there) = omega (arith, counts (ended n) hs _ there, one_same n n refl)
ended_counts hs n _ (spec.CameTo.lost t there) = omega (arith, counts (ended n) hs _ there, one_same n n refl)

-- ---- what did not happen ----

record IsGot (n : ℕ) (hs : List PoolHappening) : Type 0 where
  by : ℕ
  outcome : Outcome
  there : Contains hs (Got n by outcome)

got_some : (n : ℕ) (hs : List PoolHappening) → 0 < total (got n) hs → IsGot n hs
got_some n hs some = found (got n) (IsGot n) here later hs some
  where
    later : (one : PoolHappening) (xs : List PoolHappening) → IsGot n xs → IsGot n (one ∷ xs)
    later one xs is = record { by = is.by; outcome = is.outcome; there = later_of one xs _ is.there }

    here : (one : PoolHappening) (xs : List PoolHappening) → 0 < got n one → IsGot n (one ∷ xs)
    here (Got m t outcome) xs is = go (m == n) refl is
      where
        go : (b : Bool) → (m == n) ≡ b → 0 < one_if b → IsGot n (Got m t outcome ∷ xs)
        go true m_is is = record {
          by = t;
          outcome = outcome;
          there = subst (λ k. Contains (Got m t outcome ∷ xs) (Got k t outcome)) (same m n m_is) (first_of (Got m t outcome) xs);
        }
        go false m_is is = let no : ⊥ = omega (arith, is) in absurd no
    here (Posted m from detached) xs is = let no : ⊥ = omega (arith, is) in absurd no
    here (Cancelled m) xs is = let no : ⊥ = omega (arith, is) in absurd no
    here (Began m t) xs is = let no : ⊥ = omega (arith, is) in absurd no
    here (Done m t outcome) xs is = let no : ⊥ = omega (arith, is) in absurd no
    here (Lost m t) xs is = let no : ⊥ = omega (arith, is) in absurd no
    here (Suspended on) xs is = let no : ⊥ = omega (arith, is) in absurd no
    here Closed xs is = let no : ⊥ = omega (arith, is) in absurd no

none_got : (hs : List PoolHappening) (n : ℕ) (outcome : Outcome) → IsReady hs n outcome → total (got n) hs ≡ 0
none_got hs n outcome ready = go (total (got n) hs) refl
  where
    go : (m : ℕ) → total (got n) hs ≡ m → m ≡ 0
    go zero is = refl
    go (suc m) is = let some = got_some n hs (omega (arith, is)) in absurd (ready.unanswered some.by some.outcome some.there)

is_closed : (hs : List PoolHappening) → 0 < total closed hs → Contains hs Closed
is_closed hs some = found closed (λ xs. Contains xs Closed) here (λ one xs is. later_of one xs _ is) hs some
  where
    here : (one : PoolHappening) (xs : List PoolHappening) → 0 < closed one → Contains (one ∷ xs) Closed
    here Closed xs is = first_of Closed xs
    here (Posted m from detached) xs is = let no : ⊥ = omega (arith, is) in absurd no
    here (Cancelled m) xs is = let no : ⊥ = omega (arith, is) in absurd no
    here (Began m t) xs is = let no : ⊥ = omega (arith, is) in absurd no
    here (Done m t outcome) xs is = let no : ⊥ = omega (arith, is) in absurd no
    here (Lost m t) xs is = let no : ⊥ = omega (arith, is) in absurd no
    here (Got m t outcome) xs is = let no : ⊥ = omega (arith, is) in absurd no
    here (Suspended on) xs is = let no : ⊥ = omega (arith, is) in absurd no

-- ---- the answer ----

-- it is there
kept_there : (hs : List PoolHappening) (on : Bool) (jobs : JobTable) (n : ℕ) (outcome : Outcome) → Open hs on jobs → IsReady hs n outcome
    → at n jobs.done ≡ Some outcome
kept_there hs on jobs n outcome kept ready =
    let mine : 0 < total (own n) hs = omega (arith, counts (own n) hs (Posted n ready.posted.from false) ready.posted.posted, one_same n n refl) in
    let some : 0 < total (numbered n) jobs.done =
    omega (arith, kept.ready n mine, none_got hs n outcome ready, ended_counts hs n outcome ready.is) in
    let there = there_is n jobs.done some in
    let came : CameTo hs n there.0 = (every-at (DoneTrue hs) n jobs.done there.0 kept.truths.done there.1).is in
    there.1 ∙ ap Some (one_outcome hs n there.0 outcome ((bounds hs jobs kept.counted).ended_once n) came ready.is)

-- the pool is open
open_pool : (p : ℕ) (hs : List PoolHappening) (table : PoolTable) (n : ℕ) (outcome : Outcome) → Lines p hs table → IsReady hs n outcome
    → (pool : Pool) × ((at_number table p ≡ Some pool) × Open hs pool.suspended pool.jobs)
open_pool p hs table n outcome lines ready = go (at_number table p) refl lines.holds
  where
    none : Gone hs table.next p → ⊥
    none gone = at gone.closes
      where
        at : 0 < total closed hs ⊎ (hs ≡ []) → ⊥
        at (inl some) = ready.unclosed (is_closed hs some)
        at (inr is) =
            let there = subst (λ all. Contains all (Posted n ready.posted.from false)) is ready.posted.posted in
            let no : ⊥ = omega (arith, there.1) in
            no

    go : (found : Option Pool) → at_number table p ≡ found → Holds hs table.next p found
        → (pool : Pool) × ((at_number table p ≡ Some pool) × Open hs pool.suspended pool.jobs)
    go None is gone = absurd (none gone)
    go (Some pool) is kept = (pool, (is, kept))

answer_of : (table : PoolTable) (text job : List ℕ) (n : ℕ) (pool : Pool) (outcome : Outcome) → pool_of table text ≡ Some pool → number_named job ≡ Some n
    → at n pool.jobs.done ≡ Some outcome
    → (pools.in_pool (pools.takes_outcome job) table text).gives.step ≡ step.Reply (Answer outcome)
answer_of table text job n pool outcome found named there =
    ap (λ (answered : pools.Answered). answered.gives.step) (some_in (pools.takes_outcome job) table text pool found) ∙ taken
  where
    came : outcome_of pool.jobs job ≡ Some outcome
    came = ap (option_and_then (λ k. at k pool.jobs.done)) named ∙ there

    taken : (pools.takes_outcome job pool).gives.step ≡ step.Reply (Answer outcome)
    taken = rw (came, pools.takes_outcome) refl

pub answers_get : AnswerLaw
answers_get main actions state p n outcome t text job line acts ready id named =
    let hs = happenings p (start_state main) actions in
    let opened = open_pool p hs state.pools n outcome (lines_of main actions state p acts) ready in
    let pool = opened.0 in
    let there = kept_there hs pool.suspended pool.jobs n outcome opened.1.1 ready in
    let answered = pools.in_pool (pools.takes_outcome job) state.pools text in
    replied (record state { pools = answered.table }) t answered.gives (answer_of state.pools text job n pool outcome
    (pool_is state.pools p text pool id opened.1.0) named there)
  where
    replied : (after : State) (t : ℕ) (gives : PoolStep) → gives.step ≡ step.Reply (Answer outcome) → (gives_of after t gives).gives.reply ≡ Answer outcome
    replied after t gives is = rw (is, gives_of) refl
