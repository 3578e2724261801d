-- What a thread has begun is what it has in hand, after each action.
use Rattle.std.proofs.Common.{◌≡◌, ◌≢◌, ◌∙◌, ℕ, List, Contains, Option, Some, None, IfSome, ⊎_elim, ap, refl, sym, subst, arith, true}
use Rattle.laws_pools.proofs.Actions.{by_action}
use Rattle.laws_pools.proofs.BegunJobs.{some_same}
use Rattle.laws_pools.proofs.Moves as moves
use Rattle.laws_pools.proofs.Moves.{Single, TableMove}
use Rattle.laws_pools.proofs.Rows.{stay}
use Rattle.laws_pools.proofs.Starts.{StayWorkers}
use Rattle.laws_pools.proofs.Workers.{pool_is}
use Rattle.laws_pools.specs.PoolHappenings.{Began, Done, PoolHappening, happenings_by, happens, is_id}
use Rattle.laws_pools.specs.PoolWorkers.{AsksAsWorker, IsWorker, is_of_pool}
use Rattle.laws_shared.specs.Actions.{Action, CanHappen, Moment, action_result, after}
use Rattle.laws_working.proofs.Asked.{Takes, hands_in, takes}
use Rattle.laws_working.proofs.Begun.{Few, done_on, few_on, nothing, was_on}
use Rattle.laws_working.specs.Turns.{IsInTurn, in_hand_after}
use Rattle.tt_calls.specs.declared.outcome.Outcome.{Outcome}
use Rattle.tt_calls.specs.declared.pool_call.PoolCall.TheVariants as pool
use Rattle.tt_calls.specs.declared.reply.Reply.{Reply}
use Rattle.tt_calls.specs.declared.request.Request.TheVariants as ask
use Rattle.tt_calls.specs.declared.request.Request.{Request}
use Rattle.tt_pools.specs.Jobs.{JobTable, at, no_jobs}
use Rattle.tt_pools.specs.Pools.{at_number}
use Rattle.tt_pools.specs.declared.jobs.Begun.{Begun}
use Rattle.tt_pools.specs.declared.pool.Pool.{Pool}
use Rattle.tt_shared.specs.Acts.{act}
use Rattle.tt_shared.specs.Ends.{pool_of_row}
use Rattle.tt_shared.specs.State.{State}
use Rattle.tt_shared.specs.declared.applied.Line.{Line}
use Rattle.tt_threads.specs.Rows.{row_of}

-- of each pool thread t has begun one job at most, which it has in hand, and it is a worker of that pool
pub record Tied (state : State) (t : ℕ) (hand : Option ℕ) : Type 0 where
  pub few : (p : ℕ) (one : Pool) → at_number state.pools p ≡ Some one → Few t one.jobs
  pub job : (p : ℕ) (one : Pool) → at_number state.pools p ≡ Some one → (job : Begun) → at one.jobs.begun t ≡ Some job → hand ≡ Some job.job
  pub worker : (p : ℕ) (one : Pool) → at_number state.pools p ≡ Some one → (job : Begun) → at one.jobs.begun t ≡ Some job → IsWorker state p t

still_worker : (old new : State) (p u : ℕ) → StayWorkers old.rows new.rows → IsWorker old p u → IsWorker new p u
still_worker old new p u stays is = go (pool_of_row (row_of old.rows u)) refl is
  where
    go : (found : Option (List ℕ)) → pool_of_row (row_of old.rows u) ≡ found → is_of_pool p found ≡ true → IsWorker new p u
    go None there is = absurd (cc is)
    go (Some text) there is = ap (is_of_pool p) (stays u text there) ∙ is

-- who goes on with its job has it in hand still
keeps_hand : (state : State) (t : ℕ) (request : Request) (line : Line) (hand : Option ℕ) (p : ℕ) (one : Pool) (job : Begun) → hand ≡ Some job.job
    → IsWorker state p t → at_number state.pools p ≡ Some one → at one.jobs.begun t ≡ Some job
    → IsInTurn (pool_of_row (row_of state.rows t)) hand request
    → ((n : ℕ) (outcome : Outcome) → ¬ (Contains (happens p state t request (act state t request line).gives.reply) (Done n t outcome)))
    → in_hand_after hand request (act state t request line).gives.reply ≡ Some job.job
keeps_hand state t (ask.Pool (pool.JobTake text)) line hand p one job held worker is there turn unended =
    let none : None ≡ Some job.job = sym turn.1 ∙ held in
    absurd (cc none)
keeps_hand state t (ask.Pool (pool.JobDone text n outcome)) line hand p one job held worker is there turn unended =
    let number : n ≡ job.job = some_same n job.job (sym turn.1 ∙ held) in
    let id : is_id p text ≡ true = sym (ap (is_of_pool p) turn.0) ∙ worker in
    let done = hands_in p state t text outcome line one job id is there in
    absurd (unended job.job outcome
    (subst
    (λ (k : ℕ). Contains (happens p state t (ask.Pool (pool.JobDone text k outcome)) (act state t (ask.Pool (pool.JobDone text k outcome)) line).gives.reply)
    (Done job.job t outcome)) (sym number) done))
keeps_hand state t (ask.Pool call) line hand p one job held worker is there turn unended = held
keeps_hand state t request line hand p one job held worker is there turn unended = held

module _ (old : State) (action : Action) (can : CanHappen old action) (single : (p : ℕ) → Single p old.pools) where
  abbrev moment : Moment
  moment = record { before = old; action = action }

  abbrev next : State
  next = after old action

  abbrev NotDone : (p t : ℕ) → Type 0
  NotDone p t = (n : ℕ) (outcome : Outcome) → ¬ (Contains (happenings_by p moment) (Done n t outcome))

  module _ (works : AsksAsWorker moment) (t : ℕ) (hand now : Option ℕ) (tied : Tied old t hand)
      (kept : (p : ℕ) (one : Pool) (job : Begun) → at_number old.pools p ≡ Some one → at one.jobs.begun t ≡ Some job → NotDone p t → now ≡ Some job.job)
      (gained : (p k : ℕ) → Contains (happenings_by p moment) (Began k t) → now ≡ Some k) where
    taken : (p k : ℕ) → Contains (happenings_by p moment) (Began k t) → Takes p action.thread action.request (action_result old action).gives.reply k t
    taken p k there = takes p old action.thread action.request (action_result old action).gives.reply k t there

    free : (p : ℕ) (one : Pool) → at_number old.pools p ≡ Some one → (k : ℕ) → Contains (happenings_by p moment) (Began k t) → at one.jobs.begun t ≡ None
    free p one is k there =
        let by = taken p k there in
        let worker = works by.text by.asks in
        let nothing_begun : at one.jobs.begun action.thread ≡ None =
        subst (λ found. IfSome found (λ other. at other.jobs.begun action.thread ≡ None)) (pool_is old.pools p by.text one by.id is) worker.free in
        subst (λ (u : ℕ). at one.jobs.begun u ≡ None) (sym by.alike) nothing_begun

    begins_worker : (p k : ℕ) → Contains (happenings_by p moment) (Began k t) → IsWorker old p t
    begins_worker p k there =
        let by = taken p k there in
        subst (IsWorker old p) (sym by.alike) (ap (is_of_pool p) (works by.text by.asks).worker ∙ by.id)

    few_now : (p : ℕ) (one : Pool) → at_number next.pools p ≡ Some one → Few t one.jobs
    few_now p one is = go (happenings_by p moment) (by_action p moment can (single p)).move (λ other found k. free p other found k)
      where
        go : (happened : List PoolHappening) → TableMove p old.pools next.pools happened
            → ((other : Pool) → at_number old.pools p ≡ Some other → (k : ℕ) → Contains happened (Began k t) → at other.jobs.begun t ≡ None)
            → Few t one.jobs
        go _ (moves.TableMove.same alike grows) none = tied.few p one (sym alike ∙ is)
        go _ (moves.TableMove.made new missing past found suspended jobs) none =
            let alike = some_same new one (sym found ∙ is) in
            subst (Few t) (sym jobs ∙ ap (λ (other : Pool). other.jobs) alike) (omega arith)
        go _ (moves.TableMove.changed other new happened found there changes) none =
            let alike = some_same new one (sym there ∙ is) in
            subst (λ (now_one : Pool). Few t now_one.jobs) alike
            (few_on t other.suspended new.suspended other.jobs new.jobs happened changes (none other found) (tied.few p other found))
        go _ (moves.TableMove.closes other found there same_next) none = let no_pool : None ≡ Some one = sym there ∙ is in absurd (cc no_pool)

    record Has (p : ℕ) (job : Begun) : Type 0 where
      hand_is : now ≡ Some job.job
      worker : IsWorker old p t

    -- a job that it had before
    had : (p : ℕ) (other : Pool) (job : Begun) → at_number old.pools p ≡ Some other → at other.jobs.begun t ≡ Some job → NotDone p t → Has p job
    had p other job found there unended =
        record { hand_is = kept p other job found there unended; worker = tied.worker p other found job there }

    has_now : (p : ℕ) (one : Pool) (job : Begun) → at_number next.pools p ≡ Some one → at one.jobs.begun t ≡ Some job → Has p job
    has_now p one job is begun =
        go (happenings_by p moment) (by_action p moment can (single p)).move (λ other found there unended. had p other job found there unended)
        (λ there. record { hand_is = gained p job.job there; worker = begins_worker p job.job there })
      where
        go : (happened : List PoolHappening) → TableMove p old.pools next.pools happened
            → ((other : Pool) → at_number old.pools p ≡ Some other → at other.jobs.begun t ≡ Some job
            → ((n : ℕ) (outcome : Outcome) → ¬ (Contains happened (Done n t outcome))) → Has p job)
            → (Contains happened (Began job.job t) → Has p job)
            → Has p job
        go _ (moves.TableMove.same alike grows) before new_one = before one (sym alike ∙ is) begun (λ n outcome there. nothing _ there)
        go _ (moves.TableMove.made new missing past found suspended jobs) before new_one =
            let alike = some_same new one (sym found ∙ is) in
            let empty : no_jobs ≡ one.jobs = sym jobs ∙ ap (λ (other : Pool). other.jobs) alike in
            let none : None ≡ Some job = ap (λ (table : JobTable). at table.begun t) empty ∙ begun in
            absurd (cc none)
        go _ (moves.TableMove.changed other new happened found there changes) before new_one =
            let alike = some_same new one (sym there ∙ is) in
            let begun_now : at new.jobs.begun t ≡ Some job = ap (λ (now_one : Pool). at now_one.jobs.begun t) alike ∙ begun in
            let few = tied.few p other found in
            ⊎_elim
            (λ was. before other found was
            (λ n outcome done.
            let none : None ≡ Some job =
            sym (done_on t other.suspended new.suspended other.jobs new.jobs happened n outcome changes few done) ∙ begun_now in
            absurd (cc none)))
            new_one
            (was_on t other.suspended new.suspended other.jobs new.jobs happened changes few job begun_now)
        go _ (moves.TableMove.closes other found there same_next) before new_one =
            let none : None ≡ Some one = sym there ∙ is in
            absurd (cc none)

    pub tied_on : Tied next t now
    tied_on = record {
      few = few_now;
      job = λ p one is job there. (has_now p one job is there).hand_is;
      worker = λ p one is job there.
          still_worker old next p t (stay old action.thread action.request action.line) (has_now p one job is there).worker;
    }

  -- ---- another thread ----

  module _ (works : AsksAsWorker moment) (t : ℕ) (hand : Option ℕ) (tied : Tied old t hand) where
    pub others_tied : t ≢ action.thread → Tied next t hand
    others_tied apart =
        tied_on works t hand hand tied
        (λ p one job is there unended. tied.job p one is job there)
        (λ p k there. absurd (apart (takes p old action.thread action.request (action_result old action).gives.reply k t there).alike))

  -- ---- the thread itself ----

  module _ (works : AsksAsWorker moment) (hand : Option ℕ) (tied : Tied old action.thread hand)
      (turn : IsInTurn (pool_of_row (row_of old.rows action.thread)) hand action.request) where
    abbrev told : Reply
    told = (action_result old action).gives.reply

    pub itself_tied : Tied next action.thread (in_hand_after hand action.request told)
    itself_tied =
        tied_on works action.thread hand (in_hand_after hand action.request told) tied
        (λ p one job is there unended.
        keeps_hand old action.thread action.request action.line hand p one job (tied.job p one is job there) (tied.worker p one is job there) is there turn
        unended)
        gains
      where
        gains : (p k : ℕ) → Contains (happenings_by p moment) (Began k action.thread) → in_hand_after hand action.request told ≡ Some k
        gains p k there =
            let by = takes p old action.thread action.request told k action.thread there in
            ap (λ (request : Request). in_hand_after hand request told) by.asks
            ∙ ap (in_hand_after hand (ask.Pool (pool.JobTake by.text))) by.gives
