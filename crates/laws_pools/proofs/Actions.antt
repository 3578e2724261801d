-- What each action does to the pool of a number.
use Rattle.std.proofs.Common.{◌≡◌, ◌∙◌, ◌&&◌, ◌||◌, ℕ, Bool, true, false, not, if◌then◌else◌, IsTrue, List, [], Option, Some, None, ap, refl, sym, subst}
use Rattle.laws_pools.proofs.Alone.{TakesEvent, alone, by_starts, by_takes, takes_event}
use Rattle.laws_pools.proofs.Calls.{GoesOn, by_call, by_end}
use Rattle.laws_pools.proofs.Moves.{Single, TableStep}
use Rattle.laws_pools.proofs.NamedPools.{unchanged}
use Rattle.laws_pools.proofs.Replies.{IsReply, replies}
use Rattle.laws_pools.specs.PoolHappenings.{PoolHappening, happenings_by, happens, if_open, in_call, in_named, in_pool_named, is_id, pool_named}
use Rattle.laws_shared.specs.Actions.{CanHappen, Moment, after}
use Rattle.tt_calls.specs.declared.pool_call.PoolCall.{PoolCall}
use Rattle.tt_calls.specs.declared.pool_call.PoolCall.TheVariants as pool
use Rattle.tt_calls.specs.declared.reply.Reply.{Reply}
use Rattle.tt_calls.specs.declared.reply.Step.{Step}
use Rattle.tt_calls.specs.declared.reply.Step.TheVariants as step
use Rattle.tt_calls.specs.declared.request.Request.{Request}
use Rattle.tt_calls.specs.declared.request.Request.TheVariants as ask
use Rattle.tt_pools.specs.Calls as pools
use Rattle.tt_pools.specs.Jobs.{has_none}
use Rattle.tt_pools.specs.Pools.{PoolTable, at_number, pool_of}
use Rattle.tt_pools.specs.declared.pool.Pool.{Pool}
use Rattle.tt_shared.specs.Acts.{act, gives_of, on_pools, pools_after}
use Rattle.tt_shared.specs.Enabled.{can_pool, enabled}
use Rattle.tt_shared.specs.Ends.{pool_of_row}
use Rattle.tt_shared.specs.Sends.{takes}
use Rattle.tt_shared.specs.State.{State, is_marked, reply_of, room}
use Rattle.tt_shared.specs.declared.applied.Line.{Line}
use Rattle.tt_threads.specs.Rows.{row_of}

module _ (p : ℕ) where
  abbrev Stepped : State → ℕ → PoolCall → State → Reply → Type 0
  Stepped old t call new told = TableStep p old.pools new.pools (in_pool_named p old.pools (pool_named call) (λ one. in_call one t call told))

  nothing_if : (table : PoolTable) (text : List ℕ) (happened : Pool → List PoolHappening) → ((one : Pool) → happened one ≡ [])
      → in_named p table text happened ≡ []
  nothing_if table text happened each = go (is_id p text) (at_number table p)
    where
      go : (b : Bool) (found : Option Pool) → (if b then if_open happened found else []) ≡ []
      go true None = refl
      go true (Some one) = each one
      go false found = refl

  -- a call that waits serves an event
  waited : (state : State) (t : ℕ) (call : PoolCall) (text : List ℕ) → pool_named call ≡ Some text →
      ((one : Pool) (told : Reply) → TakesEvent told → in_call one t call told ≡ [])
      → Single p state.pools
      → Stepped state t call (takes state t).state (takes state t).gives.reply
  waited state t call text named each single =
      rw named
      (subst (TableStep p state.pools (takes state t).state.pools)
      (sym (nothing_if state.pools text _ (λ one. each one _ (takes_event state t))))
      (unchanged p state.pools (takes state t).state.pools (by_takes state t) single))

  replied : (state : State) (t : ℕ) (call : PoolCall) (answered : pools.Answered) (told : Reply) → answered.gives.step ≡ step.Reply told →
      TableStep p state.pools answered.table (in_pool_named p state.pools (pool_named call) (λ one. in_call one t call told))
      → Stepped state t call (pools_after state t answered).state (pools_after state t answered).gives.reply
  replied state t call answered told is stepped =
      rw (is, pools_after, gives_of)
      (subst (λ table. TableStep p state.pools table (in_pool_named p state.pools (pool_named call) (λ one. in_call one t call told)))
      (sym (by_starts (record state { pools = answered.table }) answered.gives.start answered.gives.worker)) stepped)

  -- ---- calls on pools ----

  goes_on : (state : State) (t : ℕ) (call : PoolCall) → pools.waits state.pools (is_marked state t) call ≡ false
      → (text : List ℕ) → call ≡ pool.JobTake text
      → GoesOn state.pools (is_marked state t) text
  goes_on state t call ready text is one there unmarked =
      let waits : pools.waits state.pools (is_marked state t) (pool.JobTake text) ≡ false =
      ap (pools.waits state.pools (is_marked state t)) (sym is) ∙ ready in
      let now : (not false && (one.suspended || has_none one.jobs.queued)) ≡ false =
      sym (ap (λ found. not false && pools.waits_for_job found) there)
      ∙ sym (ap (λ marked. not marked && pools.waits_for_job (pool_of state.pools text)) unmarked)
      ∙ waits in
      first one.suspended (has_none one.jobs.queued) now
    where
      first : (a b : Bool) → a || b ≡ false → a ≡ false
      first true b is = absurd (cc is)
      first false b is = refl

  ready_call : (state : State) (t : ℕ) (call : PoolCall) → Single p state.pools → pools.waits state.pools (is_marked state t) call ≡ false
      → Stepped state t call (on_pools state t call).state (on_pools state t call).gives.reply
  ready_call state t call single ready =
      subst (λ answered. Stepped state t call (pools_after state t answered).state (pools_after state t answered).gives.reply)
      (sym (ap (λ b. if b then record { table = state.pools; gives = pools.waiting } else answered) ready))
      (go answered.gives.step refl (replies state.pools t (room state) (is_marked state t) call))
    where
      answered : pools.Answered
      answered = pools.act state.pools t (room state) (is_marked state t) call

      go : (what : Step) → answered.gives.step ≡ what → IsReply what
          → Stepped state t call (pools_after state t answered).state (pools_after state t answered).gives.reply
      go step.Wait is never = absurd never
      go (step.Reply told) is fine =
          replied state t call answered told is
          (subst (λ what. TableStep p state.pools answered.table (in_pool_named p state.pools (pool_named call) (λ one. in_call one t call (reply_of what)))) is
          (by_call p state.pools t (room state) (is_marked state t) call single (goes_on state t call ready)))

  waiting_call : (state : State) (t : ℕ) (call : PoolCall) (text : List ℕ) → pool_named call ≡ Some text →
      ((one : Pool) (told : Reply) → TakesEvent told → in_call one t call told ≡ [])
      → Single p state.pools
      → pools.waits state.pools (is_marked state t) call ≡ true
      → Stepped state t call (on_pools state t call).state (on_pools state t call).gives.reply
  waiting_call state t call text named each single waits =
      subst (λ answered. Stepped state t call (pools_after state t answered).state (pools_after state t answered).gives.reply)
      (sym (ap (λ b. if b then record { table = state.pools; gives = pools.waiting } else pools.act state.pools t (room state) (is_marked state t) call) waits))
      (waited state t call text named each single)

  by_pools : (state : State) (t : ℕ) (call : PoolCall) → Single p state.pools → can_pool state t call ≡ true
      → Stepped state t call (on_pools state t call).state (on_pools state t call).gives.reply
  by_pools state t (pool.Look text listed) single can = go (pools.waits state.pools (is_marked state t) (pool.Look text listed)) refl
    where
      go : (b : Bool) → pools.waits state.pools (is_marked state t) (pool.Look text listed) ≡ b
          → Stepped state t (pool.Look text listed) (on_pools state t (pool.Look text listed)).state (on_pools state t (pool.Look text listed)).gives.reply
      go true waits = waiting_call state t (pool.Look text listed) text refl (λ one told is. refl) single waits
      go false ready = ready_call state t (pool.Look text listed) single ready
  by_pools state t (pool.JobTake text) single can =
      ready_call state t (pool.JobTake text) single (go (pools.waits state.pools (is_marked state t) (pool.JobTake text)) can)
    where
      go : (b : Bool) → not b || false ≡ true → b ≡ false
      go true is = absurd (cc is)
      go false is = refl
  by_pools state t call single can = ready_call state t call single refl

  -- ---- all requests ----

  by_request : (state : State) (t : ℕ) (request : Request) (line : Line) → Single p state.pools → IsTrue (enabled state t request)
      → TableStep p state.pools (act state t request line).state.pools (happens p state t request (act state t request line).gives.reply)
  by_request state t (ask.Pool call) line single can = by_pools state t call single can
  by_request state t (ask.End code) line single can = by_end p state.pools t (pool_of_row (row_of state.rows t)) single
  by_request state t request line single can =
      unchanged p state.pools (act state t request line).state.pools (alone state t request line refl) single

  pub by_action : (moment : Moment) → CanHappen moment.before moment.action → Single p moment.before.pools
      → TableStep p moment.before.pools (after moment.before moment.action).pools (happenings_by p moment)
  by_action moment can single = by_request moment.before moment.action.thread moment.action.request moment.action.line single can.enabled
