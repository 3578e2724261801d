-- Whose jobs begin, and what becomes of them, if jobs are asked for by workers of the pool that is named.
use Rattle.std.proofs.Common.{◌≡◌, ◌∙◌, ◌⊎◌, ℕ, nat_eq, Bool, true, false, if◌then◌else◌, List, [], ◌∷◌, ◌++◌, Contains, flat_map}
use Rattle.std.proofs.Common.{Option, Some, None, IfSome, option_and_then, inl, inr, ⊎_elim, ap, refl, sym, negsuc, subst, arith, append_assoc, append-nil}
use Rattle.std.proofs.lemmas.List.Elements.{All-head, All-tail, Contains-append_cases, Contains-append_left, Contains-append_right}
use Rattle.std.specs.Bool.{⊤}
use Rattle.std.specs.List.{All}
use Rattle.std.specs.Option.{option_eq}
use Rattle.laws_pools.proofs.Actions.{by_action}
use Rattle.laws_pools.proofs.BegunJobs.{BeginsNone, Goes, by_moves, every-contains, has_it, is_done, is_lost, some_same, stays}
use Rattle.laws_pools.proofs.Living.{IsEnd, is_end, live_on}
use Rattle.laws_pools.proofs.Moves as moves
use Rattle.laws_pools.proofs.Moves.{IsNoBegin, Single, TableMove}
use Rattle.laws_pools.proofs.Rows.{stay}
use Rattle.laws_pools.proofs.Starts.{StayWorkers}
use Rattle.laws_pools.specs.PoolHappenings.{PoolHappening, Began, Done, Lost, Closed, cancellation, cancellation_of, answer_of, happenings}
use Rattle.laws_pools.specs.PoolHappenings.{happenings_by, happens, if_open, in_call, in_pool_named, is_id, loss, pool_named}
use Rattle.laws_pools.specs.PoolWorkers as spec
use Rattle.laws_pools.specs.PoolWorkers.{AsksAsWorker, HasCome, HasJob, IsFreeWorker, IsWorked, IsWorker, WorkerLaw, is_of_pool}
use Rattle.laws_sends.proofs.Cuts.{Every, every-append, every-on}
use Rattle.laws_sends.proofs.Weights.{first_of}
use Rattle.laws_shared.proofs.Deciding.{same}
use Rattle.laws_shared.specs.Actions.{Action, Acts, CanHappen, Moment, action_result, after, moments, more, none}
use Rattle.tt_calls.specs.declared.pool_call.PoolCall.{PoolCall}
use Rattle.tt_calls.specs.declared.pool_call.PoolCall.TheVariants as pool
use Rattle.tt_calls.specs.declared.reply.Reply.{Reply}
use Rattle.tt_calls.specs.declared.reply.Reply.TheVariants as reply
use Rattle.tt_calls.specs.declared.request.Request.{Request}
use Rattle.tt_calls.specs.declared.request.Request.TheVariants as ask
use Rattle.tt_ids.specs.Ids.{id_named, number_named}
use Rattle.tt_ids.specs.declared.id.IdKind.TheVariants as kind
use Rattle.tt_pools.specs.Calls.{is_unheld, with_references}
use Rattle.tt_pools.specs.Jobs.{at, cancels}
use Rattle.tt_pools.specs.Pools.{PoolTable, at_number, pool_of}
use Rattle.tt_pools.specs.declared.jobs.Begun.{Begun}
use Rattle.tt_pools.specs.declared.pool.Pool.{Pool}
use Rattle.tt_shared.specs.Ends.{pool_of_row}
use Rattle.tt_shared.specs.State.{State, start_state}
use Rattle.tt_threads.specs.Rows.{is_living, row_of}

-- ---- who begins a job ----

-- the thread that asks for one
abbrev OfAsker : (t : ℕ) → PoolCall → PoolHappening → Type 0
OfAsker t call (Began n u) = (u ≡ t) × ((text : List ℕ) × (call ≡ pool.JobTake text))
OfAsker t call other = ⊤

every_cancelled : (t : ℕ) (call : PoolCall) (texts : List (List ℕ)) → Every (OfAsker t call) (flat_map cancellation texts)
every_cancelled t call [] = tt
every_cancelled t call (text ∷ texts) =
    every-append (OfAsker t call) (cancellation text) (flat_map cancellation texts) (go (number_named text)) (every_cancelled t call texts)
  where
    go : (found : Option ℕ) → Every (OfAsker t call) (cancellation_of found)
    go None = tt
    go (Some n) = (tt, tt)

by_asker : (one : Pool) (t : ℕ) (call : PoolCall) (told : Reply) → Every (OfAsker t call) (in_call one t call told)
by_asker one t (pool.Post text script detached) (reply.Value number) = (tt, tt)
by_asker one t (pool.Cancel text listed) told = every_cancelled t (pool.Cancel text listed) (cancels one.jobs listed).gone
by_asker one t (pool.Get text job) (reply.Answer outcome) = go (number_named job)
  where
    go : (found : Option ℕ) → Every (OfAsker t (pool.Get text job)) (answer_of t outcome found)
    go None = tt
    go (Some n) = (tt, tt)
by_asker one t (pool.Release text) told = go (is_unheld (Some (with_references one (negsuc 0))))
  where
    go : (b : Bool) → Every (OfAsker t (pool.Release text)) (if b then Closed ∷ [] else [])
    go true = (tt, tt)
    go false = tt
by_asker one t (pool.Suspend text on) told = (tt, tt)
by_asker one t (pool.JobTake text) (reply.Job n script detached) = ((refl, (text, refl)), tt)
by_asker one t (pool.JobDone text n outcome) reply.Go = (tt, tt)
by_asker one t call told = tt

-- ---- a job that is begun is asked for ----

-- by the thread that begins it, as a worker
record Asked (p : ℕ) (state : State) (t : ℕ) (request : Request) (u : ℕ) : Type 0 where
  alike : u ≡ t
  text : List ℕ
  asks : request ≡ ask.Pool (pool.JobTake text)
  id : is_id p text ≡ true
  worker : IsFreeWorker state t text

abbrev ByAsker : (p : ℕ) → State → (t : ℕ) → Request → PoolHappening → Type 0
ByAsker p state t request (Began n u) = Asked p state t request u
ByAsker p state t request other = ⊤

abbrev AsAWorker : State → (t : ℕ) → Request → Type 0
AsAWorker state t request = (text : List ℕ) → request ≡ ask.Pool (pool.JobTake text) → IsFreeWorker state t text

module _ (p : ℕ) (state : State) (t : ℕ) where
  asker : (call : PoolCall) (text : List ℕ) → pool_named call ≡ Some text → is_id p text ≡ true → AsAWorker state t (ask.Pool call)
      → (one : PoolHappening) → OfAsker t call one → ByAsker p state t (ask.Pool call) one
  asker call text named id works (Began n u) (alike, (asked, is)) =
      let same : Some asked ≡ Some text = sym (ap pool_named is) ∙ named in
      let texts : asked ≡ text = cc same in
      record { alike = alike; text = asked; asks = ap ask.Pool is; id = ap (is_id p) texts ∙ id; worker = works asked (ap ask.Pool is) }
  asker call text named id works other is = tt

  by_pools : (call : PoolCall) (told : Reply) → AsAWorker state t (ask.Pool call)
      → Every (ByAsker p state t (ask.Pool call)) (in_pool_named p state.pools (pool_named call) (λ one. in_call one t call told))
  by_pools call told works = go (pool_named call) refl
    where
      at_id : (text : List ℕ) → pool_named call ≡ Some text → (b : Bool) → is_id p text ≡ b → (found : Option Pool)
          → Every (ByAsker p state t (ask.Pool call)) (if b then if_open (λ one. in_call one t call told) found else [])
      at_id text named false id found = tt
      at_id text named true id None = tt
      at_id text named true id (Some one) =
          every-on (OfAsker t call) (ByAsker p state t (ask.Pool call)) (asker call text named id works) (in_call one t call told) (by_asker one t call told)

      go : (named : Option (List ℕ)) → pool_named call ≡ named
          → Every (ByAsker p state t (ask.Pool call)) (in_pool_named p state.pools named (λ one. in_call one t call told))
      go None is = tt
      go (Some text) is = at_id text is (is_id p text) refl (at_number state.pools p)

  by_end : (request : Request) (left : Option (List ℕ))
      → Every (ByAsker p state t request) (in_pool_named p state.pools left (λ one. loss t (at one.jobs.begun t)))
  by_end request None = tt
  by_end request (Some text) = go (is_id p text) (at_number state.pools p)
    where
      lost_one : (found : Option Begun) → Every (ByAsker p state t request) (loss t found)
      lost_one None = tt
      lost_one (Some begun) = (tt, tt)

      go : (b : Bool) (found : Option Pool) → Every (ByAsker p state t request) (if b then if_open (λ one. loss t (at one.jobs.begun t)) found else [])
      go true None = tt
      go true (Some one) = lost_one (at one.jobs.begun t)
      go false found = tt

  by_request : (request : Request) (told : Reply) → AsAWorker state t request → Every (ByAsker p state t request) (happens p state t request told)
  by_request (ask.Pool call) told works = by_pools call told works
  by_request (ask.End code) told works = by_end (ask.End code) (pool_of_row (row_of state.rows t))
  by_request request told works = tt

-- ---- workers and their jobs ----

still_worker : (old new : State) (p u : ℕ) → StayWorkers old.rows new.rows → IsWorker old p u → IsWorker new p u
still_worker old new p u kept is = go (pool_of_row (row_of old.rows u)) refl is
  where
    go : (found : Option (List ℕ)) → pool_of_row (row_of old.rows u) ≡ found → is_of_pool p found ≡ true → IsWorker new p u
    go None there is = absurd (cc is)
    go (Some text) there is = ap (is_of_pool p) (kept u text there) ∙ is

-- the pool that an id names
pub pool_is : (table : PoolTable) (p : ℕ) (text : List ℕ) (one : Pool) → is_id p text ≡ true → at_number table p ≡ Some one → pool_of table text ≡ Some one
pool_is table p text one id there = go (id_named kind.Pool text) refl id
  where
    go : (named : Option ℕ) → id_named kind.Pool text ≡ named → option_eq nat_eq named (Some p) ≡ true → pool_of table text ≡ Some one
    go None is id = absurd (cc id)
    go (Some n) is id = ap (option_and_then (at_number table)) is ∙ ap (at_number table) (same n p id) ∙ there

-- a worker that ends loses its job
lost_there : (p : ℕ) (state : State) (n t : ℕ) → IsWorker state p t → HasJob state p n t
    → Contains (in_pool_named p state.pools (pool_of_row (row_of state.rows t)) (λ one. loss t (at one.jobs.begun t))) (Lost n t)
lost_there p state n t worker has = go (pool_of_row (row_of state.rows t)) worker
  where
    go : (found : Option (List ℕ)) → is_of_pool p found ≡ true
        → Contains (in_pool_named p state.pools found (λ one. loss t (at one.jobs.begun t))) (Lost n t)
    go None is = absurd (cc is)
    go (Some text) is =
        subst (λ b. Contains (if b then if_open (λ one. loss t (at one.jobs.begun t)) (at_number state.pools p) else []) (Lost n t)) (sym is)
        (subst (λ found. Contains (if_open (λ one. loss t (at one.jobs.begun t)) found) (Lost n t)) (sym has.is_open)
        (subst (λ found. Contains (loss t found) (Lost n t)) (sym has.there)
        (subst (λ k. Contains (Lost has.begun.job t ∷ []) (Lost k t)) has.job (first_of (Lost has.begun.job t) []))))

come_on : (hs happened : List PoolHappening) (state : State) (p n t : ℕ) → HasCome happened state p n t → HasCome (hs ++ happened) state p n t
come_on hs happened state p n t (spec.HasCome.done outcome there) = spec.HasCome.done outcome (Contains-append_right hs happened _ there)
come_on hs happened state p n t (spec.HasCome.lost there) = spec.HasCome.lost (Contains-append_right hs happened _ there)
come_on hs happened state p n t (spec.HasCome.closed there) = spec.HasCome.closed (Contains-append_right hs happened _ there)
come_on hs happened state p n t (spec.HasCome.goes_on has) = spec.HasCome.goes_on has

-- ---- one action ----

module _ (p : ℕ) (old new : State) (n t : ℕ) (lives : is_living new.rows t ≡ true) where
  -- what becomes of a job that a thread has
  goes_on : (happened : List PoolHappening) → TableMove p old.pools new.pools happened → BeginsNone t happened → HasJob old p n t
      → HasCome happened new p n t
  goes_on _ (moves.TableMove.same is grows) quiet has =
      spec.HasCome.goes_on (record { lives = lives; pool = has.pool; is_open = is ∙ has.is_open; begun = has.begun; there = has.there; job = has.job })
  goes_on _ (moves.TableMove.made one missing past there suspended jobs) quiet has =
      let no : None ≡ Some has.pool = sym missing ∙ has.is_open in
      absurd (cc no)
  goes_on _ (moves.TableMove.changed one now happened is there changes) quiet has =
      go (by_moves t has.begun one.suspended now.suspended one.jobs now.jobs happened changes quiet
      (ap (λ (other : Pool). at other.jobs.begun t) (some_same one has.pool (sym is ∙ has.is_open)) ∙ has.there))
    where
      go : Goes t has.begun now.jobs happened → HasCome happened new p n t
      go (stays still) = spec.HasCome.goes_on (record { lives = lives; pool = now; is_open = there; begun = has.begun; there = still; job = has.job })
      go (is_done outcome there) = spec.HasCome.done outcome (subst (λ k. Contains happened (Done k t outcome)) has.job there)
      go (is_lost there) = spec.HasCome.lost (subst (λ k. Contains happened (Lost k t)) has.job there)
  goes_on _ (moves.TableMove.closes one is there next) quiet has = spec.HasCome.closed (first_of Closed [])

  -- a job that begins is had
  has_begun : (happened : List PoolHappening) → TableMove p old.pools new.pools happened → Contains happened (Began n t) → HasJob new p n t
  has_begun _ (moves.TableMove.same is grows) there = absurd (every-contains IsNoBegin [] (Began n t) tt there)
  has_begun _ (moves.TableMove.made one missing past found suspended jobs) there = absurd (every-contains IsNoBegin [] (Began n t) tt there)
  has_begun _ (moves.TableMove.changed one now happened is found changes) there =
      let has = has_it n t one.suspended now.suspended one.jobs now.jobs happened changes there in
      record { lives = lives; pool = now; is_open = found; begun = has.begun; there = has.there; job = has.job }
  has_begun _ (moves.TableMove.closes one is found next) there = absurd (every-contains IsNoBegin (Closed ∷ []) (Began n t) (tt, tt) there)

abbrev Workers : (p : ℕ) → List PoolHappening → State → Type 0
Workers p hs state = (n t : ℕ) → Contains hs (Began n t) → IsWorked hs state p n t

module _ (p : ℕ) (hs : List PoolHappening) (old : State) (action : Action) (can : CanHappen old action) (single : Single p old.pools)
    (works : AsAWorker old action.thread action.request) (workers : Workers p hs old) where
  abbrev moment : Moment
  moment = record { before = old; action = action }

  abbrev happened : List PoolHappening
  happened = happenings_by p moment

  abbrev next : State
  next = after old action

  stays_so : StayWorkers old.rows next.rows
  stays_so = stay old action.thread action.request action.line

  asked : (n t : ℕ) → Contains happened (Began n t) → Asked p old action.thread action.request t
  asked n t there =
      every-contains (ByAsker p old action.thread action.request) happened (Began n t) (by_request p old action.thread action.request _ works) there

  -- who has a job begins no other
  none_begun : (n t : ℕ) → HasJob old p n t → BeginsNone t happened
  none_begun n t has k there =
      let by = asked k t there in
      let found : pool_of old.pools by.text ≡ Some has.pool = pool_is old.pools p by.text has.pool by.id has.is_open in
      let free : at has.pool.jobs.begun action.thread ≡ None =
      subst (λ one. IfSome one (λ other. at other.jobs.begun action.thread ≡ None)) found by.worker.free in
      let no : None ≡ Some has.begun = sym free ∙ ap (at has.pool.jobs.begun) (sym by.alike) ∙ has.there in
      cc no

  had : (n t : ℕ) → IsWorker old p t → HasJob old p n t → HasCome (hs ++ happened) next p n t
  had n t worker has = go (is_end t action.thread action.request)
    where
      go : IsEnd t action.thread action.request ⊎ (¬ (IsEnd t action.thread action.request)) → HasCome (hs ++ happened) next p n t
      go (inl end) =
          let there = lost_there p old n t worker has in
          let by_it = subst (λ u. Contains (in_pool_named p old.pools (pool_of_row (row_of old.rows u)) (λ one. loss u (at one.jobs.begun u))) (Lost n t))
          end.alike there in
          spec.HasCome.lost (Contains-append_right hs happened _
          (subst (λ request. Contains (happens p old action.thread request (action_result old action).gives.reply) (Lost n t)) (sym end.is) by_it))
      go (inr other) =
          come_on hs happened next p n t
          (goes_on p old next n t (live_on old action.thread action.request action.line t other has.lives) happened (by_action p moment can single).move
          (none_begun n t has) has)

  came_on : (n t : ℕ) → IsWorker old p t → HasCome hs old p n t → HasCome (hs ++ happened) next p n t
  came_on n t worker (spec.HasCome.done outcome there) = spec.HasCome.done outcome (Contains-append_left hs happened _ there)
  came_on n t worker (spec.HasCome.lost there) = spec.HasCome.lost (Contains-append_left hs happened _ there)
  came_on n t worker (spec.HasCome.closed there) = spec.HasCome.closed (Contains-append_left hs happened _ there)
  came_on n t worker (spec.HasCome.goes_on has) = had n t worker has

  before : (n t : ℕ) → Contains hs (Began n t) → IsWorked (hs ++ happened) next p n t
  before n t there =
      let was = workers n t there in
      record { worker = still_worker old next p t stays_so was.worker; has_come = came_on n t was.worker was.has_come }

  now : (n t : ℕ) → Contains happened (Began n t) → IsWorked (hs ++ happened) next p n t
  now n t there =
      let by = asked n t there in
      let worker : IsWorker old p action.thread = ap (is_of_pool p) by.worker.worker ∙ by.id in
      let mine : IsWorker old p t = subst (IsWorker old p) (sym by.alike) worker in
      let lived : is_living old.rows t ≡ true = subst (λ u. is_living old.rows u ≡ true) (sym by.alike) can.lives in
      let lives = live_on old action.thread action.request action.line t (λ end. let no : ask.End end.code ≡ ask.Pool (pool.JobTake by.text) =
      sym end.is ∙ by.asks in cc no) lived in
      record {
        worker = still_worker old next p t stays_so mine;
        has_come = spec.HasCome.goes_on (has_begun p old next n t lives happened (by_action p moment can single).move there);
      }

  on_action : Workers p (hs ++ happened) next
  on_action n t there = ⊎_elim (before n t) (now n t) (Contains-append_cases hs happened (Began n t) there)

-- ---- lists of actions ----

along : (p : ℕ) (hs : List PoolHappening) (old new : State) (actions : List Action) → Acts old actions new → All AsksAsWorker (moments old actions)
    → Single p old.pools
    → Workers p hs old
    → Workers p (hs ++ happenings p old actions) new
along p hs old new [] none asks single workers = subst (λ all. Workers p all new) (sym (append-nil hs)) workers
along p hs old new (action ∷ actions) (more can rest) asks single workers =
    let moment : Moment = record { before = old; action = action } in
    let next = after old action in
    let works = All-head AsksAsWorker moment (moments next actions) asks in
    let later = All-tail AsksAsWorker moment (moments next actions) asks in
    subst (λ all. Workers p all new) (append_assoc hs (happenings_by p moment) (happenings p next actions))
    (along p (hs ++ happenings_by p moment) next new actions rest later (by_action p moment can single).single
    (on_action p hs old action can single works workers))

pub workers_begin : WorkerLaw
workers_begin main actions state p n t acts asks there =
    along p [] (start_state main) state actions acts asks (record { one = omega arith; later = λ past. refl })
    (λ n t none. let no : ⊥ = omega (arith, none.1) in absurd no) n t there
