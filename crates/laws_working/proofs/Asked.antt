-- A job is begun by the thread that takes it, and is done when its thread hands it in.
use Rattle.std.proofs.Common.{◌≡◌, ◌∙◌, ℕ, Bool, true, false, if◌then◌else◌, List, [], ◌∷◌, Contains, Option, Some, None}
use Rattle.std.proofs.Common.{flat_map, ap, refl, sym, subst, negsuc}
use Rattle.std.specs.Bool.{⊤}
use Rattle.laws_pools.proofs.BegunJobs.{every-contains}
use Rattle.laws_pools.proofs.Workers.{pool_is}
use Rattle.laws_pools.specs.PoolHappenings.{PoolHappening, Began, Closed, Done, Lost, answer_of, cancellation, cancellation_of, happens, if_open, in_call}
use Rattle.laws_pools.specs.PoolHappenings.{in_pool_named, is_id, loss, pool_named}
use Rattle.laws_sends.proofs.Cuts.{Every, every-append}
use Rattle.laws_sends.proofs.Weights.{first_of}
use Rattle.laws_shared.proofs.Deciding.{itself}
use Rattle.tt_calls.specs.declared.outcome.Outcome.{Outcome}
use Rattle.tt_calls.specs.declared.pool_call.PoolCall.TheVariants as pool
use Rattle.tt_calls.specs.declared.pool_call.PoolCall.{PoolCall}
use Rattle.tt_calls.specs.declared.reply.Reply.TheVariants as reply
use Rattle.tt_calls.specs.declared.reply.Reply.{Reply}
use Rattle.tt_calls.specs.declared.request.Request.TheVariants as ask
use Rattle.tt_calls.specs.declared.request.Request.{Request}
use Rattle.tt_ids.specs.Ids.{number_named}
use Rattle.tt_pools.specs.Calls.{is_unheld, with_references}
use Rattle.tt_pools.specs.Jobs.{at, cancels}
use Rattle.tt_pools.specs.Pools.{at_number}
use Rattle.tt_pools.specs.declared.jobs.Begun.{Begun}
use Rattle.tt_pools.specs.declared.pool.Pool.{Pool}
use Rattle.tt_shared.specs.Acts.{act}
use Rattle.tt_shared.specs.Ends.{pool_of_row}
use Rattle.tt_shared.specs.State.{State}
use Rattle.tt_shared.specs.declared.applied.Line.{Line}
use Rattle.tt_threads.specs.Rows.{row_of}

-- job k was given to thread t, which asked for one of pool p
pub record Takes (p t : ℕ) (request : Request) (told : Reply) (k u : ℕ) : Type 0 where
  pub alike : u ≡ t
  pub text : List ℕ
  pub asks : request ≡ ask.Pool (pool.JobTake text)
  pub id : is_id p text ≡ true
  pub script : List ℕ
  pub detached : Bool
  pub gives : told ≡ reply.Job k script detached

-- after it a thread has no job in hand: it hands one in, or ends
abbrev pub lets_go : Request → Bool
lets_go (ask.Pool (pool.JobDone text n outcome)) = true
lets_go (ask.End code) = true
lets_go request = false

abbrev OfRequest : (p t : ℕ) → Request → Reply → PoolHappening → Type 0
OfRequest p t request told (Began k u) = Takes p t request told k u
OfRequest p t request told (Done k u outcome) = (u ≡ t) × (lets_go request ≡ true)
OfRequest p t request told (Lost k u) = (u ≡ t) × (lets_go request ≡ true)
OfRequest p t request told other = ⊤

module _ (p t : ℕ) (call : PoolCall) (told : Reply) where
  cancelled : (texts : List (List ℕ)) → Every (OfRequest p t (ask.Pool call) told) (flat_map cancellation texts)
  cancelled [] = tt
  cancelled (text ∷ texts) =
      every-append (OfRequest p t (ask.Pool call) told) (cancellation text) (flat_map cancellation texts) (go (number_named text)) (cancelled texts)
    where
      go : (found : Option ℕ) → Every (OfRequest p t (ask.Pool call) told) (cancellation_of found)
      go None = tt
      go (Some n) = (tt, tt)

by_call : (p t : ℕ) (call : PoolCall) (text : List ℕ) → pool_named call ≡ Some text → is_id p text ≡ true → (told : Reply) (one : Pool)
    → Every (OfRequest p t (ask.Pool call) told) (in_call one t call told)
by_call p t (pool.Post text script detached) named is id (reply.Value number) one = (tt, tt)
by_call p t (pool.Cancel text listed) named is id told one = cancelled p t (pool.Cancel text listed) told (cancels one.jobs listed).gone
by_call p t (pool.Get text job) named is id (reply.Answer outcome) one = go (number_named job)
  where
    go : (found : Option ℕ) → Every (OfRequest p t (ask.Pool (pool.Get text job)) (reply.Answer outcome)) (answer_of t outcome found)
    go None = tt
    go (Some n) = (tt, tt)
by_call p t (pool.Release text) named is id told one = go (is_unheld (Some (with_references one (negsuc 0))))
  where
    go : (b : Bool) → Every (OfRequest p t (ask.Pool (pool.Release text)) told) (if b then Closed ∷ [] else [])
    go true = (tt, tt)
    go false = tt
by_call p t (pool.Suspend text on) named is id told one = (tt, tt)
by_call p t (pool.JobTake text) named is id (reply.Job n script detached) one = (
  record {
    alike = refl;
    text = text;
    asks = refl;
    id = (let alike : text ≡ named = cc is in ap (is_id p) alike ∙ id);
    script = script;
    detached = detached;
    gives = refl;
  },
  tt,
)
by_call p t (pool.JobDone text n outcome) named is id reply.Go one = ((refl, refl), tt)
by_call p t call named is id told one = tt

module _ (p : ℕ) (state : State) (t : ℕ) where
  by_named : (call : PoolCall) (told : Reply)
      → Every (OfRequest p t (ask.Pool call) told) (in_pool_named p state.pools (pool_named call) (λ one. in_call one t call told))
  by_named call told = go (pool_named call) refl
    where
      at_id : (text : List ℕ) → pool_named call ≡ Some text → (b : Bool) → is_id p text ≡ b → (found : Option Pool)
          → Every (OfRequest p t (ask.Pool call) told) (if b then if_open (λ one. in_call one t call told) found else [])
      at_id text named false id found = tt
      at_id text named true id None = tt
      at_id text named true id (Some one) = by_call p t call text named id told one

      go : (named : Option (List ℕ)) → pool_named call ≡ named
          → Every (OfRequest p t (ask.Pool call) told) (in_pool_named p state.pools named (λ one. in_call one t call told))
      go None is = tt
      go (Some text) is = at_id text is (is_id p text) refl (at_number state.pools p)

  by_end : (request : Request) (told : Reply) → lets_go request ≡ true → (left : Option (List ℕ))
      → Every (OfRequest p t request told) (in_pool_named p state.pools left (λ one. loss t (at one.jobs.begun t)))
  by_end request told ends None = tt
  by_end request told ends (Some text) = go (is_id p text) (at_number state.pools p)
    where
      lost_one : (found : Option Begun) → Every (OfRequest p t request told) (loss t found)
      lost_one None = tt
      lost_one (Some begun) = ((refl, ends), tt)

      go : (b : Bool) (found : Option Pool) → Every (OfRequest p t request told) (if b then if_open (λ one. loss t (at one.jobs.begun t)) found else [])
      go true None = tt
      go true (Some one) = lost_one (at one.jobs.begun t)
      go false found = tt

  by_request : (request : Request) (told : Reply) → Every (OfRequest p t request told) (happens p state t request told)
  by_request (ask.Pool call) told = by_named call told
  by_request (ask.End code) told = by_end (ask.End code) told refl (pool_of_row (row_of state.rows t))
  by_request request told = tt

  -- who begins a job has taken it
  pub takes : (request : Request) (told : Reply) (k u : ℕ) → Contains (happens p state t request told) (Began k u) → Takes p t request told k u
  takes request told k u there = every-contains (OfRequest p t request told) (happens p state t request told) (Began k u) (by_request request told) there

  -- whose job ends has let it go
  pub done_by : (request : Request) (told : Reply) (k u : ℕ) (outcome : Outcome) → Contains (happens p state t request told) (Done k u outcome)
      → (u ≡ t) × (lets_go request ≡ true)
  done_by request told k u outcome there =
      every-contains (OfRequest p t request told) (happens p state t request told) (Done k u outcome) (by_request request told) there

  pub lost_by : (request : Request) (told : Reply) (k u : ℕ) → Contains (happens p state t request told) (Lost k u)
      → (u ≡ t) × (lets_go request ≡ true)
  lost_by request told k u there =
      every-contains (OfRequest p t request told) (happens p state t request told) (Lost k u) (by_request request told) there

  -- a thread that hands in its job has done it
  pub hands_in : (text : List ℕ) (outcome : Outcome) (line : Line) (one : Pool) (job : Begun) → is_id p text ≡ true → at_number state.pools p ≡ Some one
      → at one.jobs.begun t ≡ Some job
      → Contains (happens p state t (ask.Pool (pool.JobDone text job.job outcome))
      (act state t (ask.Pool (pool.JobDone text job.job outcome)) line).gives.reply) (Done job.job t outcome)
  hands_in text outcome line one job id is there =
      subst (λ told. Contains (happens p state t (ask.Pool (pool.JobDone text job.job outcome)) told) (Done job.job t outcome)) (sym told_go)
      (subst (λ (b : Bool). Contains (if b then if_open (λ other. Done job.job t outcome ∷ []) (at_number state.pools p) else []) (Done job.job t outcome))
      (sym id)
      (subst (λ found. Contains (if_open (λ other. Done job.job t outcome ∷ []) found) (Done job.job t outcome)) (sym is)
      (first_of (Done job.job t outcome) [])))
    where
      told_go : (act state t (ask.Pool (pool.JobDone text job.job outcome)) line).gives.reply ≡ reply.Go
      told_go = rw (pool_is state.pools p text one id is) (rw there (rw (itself job.job) refl))
