-- What a thread has in hand it has begun, after each action.
use Rattle.std.proofs.Common.{◌≡◌, ◌≢◌, ◌∙◌, ◌<◌, ◌≤◌, ℕ, nat_lt, Bool, true, false, List, [], ◌∷◌, Contains, Option, Some, None, if◌then◌else◌}
use Rattle.std.proofs.Common.{◌&&◌, not, nat_eq, option_and_then, IsTrue, ap, refl, sym, subst, arith}
use Rattle.std.proofs.lemmas.Bool.Decides.{nat_tests}
use Rattle.std.specs.Option.{option_eq}
use Rattle.laws_pools.proofs.Actions.{by_action}
use Rattle.laws_pools.proofs.BegunJobs.{Goes, Has, by_moves, has_it, is_done, is_lost, some_same, stays}
use Rattle.laws_pools.proofs.Moves as moves
use Rattle.laws_pools.proofs.Moves.{Single, TableMove}
use Rattle.laws_pools.proofs.Rows.{stay}
use Rattle.laws_pools.proofs.Views.{numbered}
use Rattle.laws_pools.specs.PoolHappenings.{Began, Done, Lost, PoolHappening, happenings_by, happens, if_open, is_id}
use Rattle.laws_pools.specs.PoolWorkers.{AsksAsWorker}
use Rattle.laws_sends.proofs.Entries.{total-at}
use Rattle.laws_sends.proofs.Weights.{first_of, one_same}
use Rattle.laws_shared.proofs.Deciding.{same}
use Rattle.laws_shared.specs.Actions.{Action, CanHappen, Moment, action_result, after}
use Rattle.laws_working.proofs.Asked.{done_by, lets_go, lost_by, takes}
use Rattle.laws_working.proofs.Begun.{nothing}
use Rattle.laws_working.specs.Turns.{IsInTurn, in_hand_after}
use Rattle.tt_calls.specs.declared.outcome.Outcome.{Outcome}
use Rattle.tt_calls.specs.declared.pool_call.PoolCall.TheVariants as pool
use Rattle.tt_calls.specs.declared.reply.Reply.TheVariants as reply
use Rattle.tt_calls.specs.declared.reply.Reply.{Reply}
use Rattle.tt_calls.specs.declared.request.Request.TheVariants as ask
use Rattle.tt_calls.specs.declared.request.Request.{Request}
use Rattle.tt_ids.specs.Ids.{id_named}
use Rattle.tt_ids.specs.declared.id.IdKind.TheVariants as kind
use Rattle.tt_kept.specs.Asking.{goes_on}
use Rattle.tt_pools.specs.Calls as pools
use Rattle.tt_pools.specs.Pools.{PoolTable, at_number, pool_of}
use Rattle.tt_pools.specs.declared.pool.Pool.{Pool}
use Rattle.tt_shared.specs.Acts.{act, pools_after}
use Rattle.tt_shared.specs.Ends.{pool_of_row}
use Rattle.tt_shared.specs.State.{State}
use Rattle.tt_shared.specs.State.{is_marked}
use Rattle.tt_shared.specs.declared.applied.Line.{Line}
use Rattle.tt_threads.specs.Rows.{row_of}

-- ---- what is in hand after a reply, if the thread goes on ----

abbrev pub held_after : (held : Option ℕ) → Request → Reply → Option ℕ
held_after held request told = if lets_go request then None else in_hand_after held request told

-- a job that was in hand before, or one that it was given
data IsAfter (held : Option ℕ) (n : ℕ) (request : Request) (told : Reply) : Type 0 where
  still : held ≡ Some n → IsAfter held n request told
  gains : (text script : List ℕ) (detached : Bool) → request ≡ ask.Pool (pool.JobTake text) → told ≡ reply.Job n script detached
      → IsAfter held n request told

after_it : (held : Option ℕ) (request : Request) (told : Reply) (n : ℕ) → lets_go request ≡ false → in_hand_after held request told ≡ Some n
    → IsAfter held n request told
after_it held (ask.Pool (pool.JobTake text)) (reply.Job k script detached) n goes is =
    gains text script detached refl (ap (λ (m : ℕ). reply.Job m script detached) (some_same k n is))
after_it held (ask.Pool (pool.JobTake text)) told n goes is = still is
after_it held (ask.Pool (pool.JobDone text k outcome)) told n goes is = absurd (cc goes)
after_it held (ask.Pool call) told n goes is = still is
after_it held (ask.End code) told n goes is = absurd (cc goes)
after_it held request told n goes is = still is

pub goes_alike : (held : Option ℕ) (request : Request) (told : Reply) → IsTrue (goes_on request)
    → held_after held request told ≡ in_hand_after held request told
goes_alike held (ask.Pool (pool.JobDone text n outcome)) told goes = refl
goes_alike held (ask.Pool call) told goes = refl
goes_alike held (ask.End code) told goes = absurd (cc goes)
goes_alike held request told goes = refl

-- ---- what a thread holds ----

-- thread t has job n of its pool, if that is still open; its number was drawn
pub record Holds (state : State) (t n : ℕ) : Type 0 where
  pub text : List ℕ
  pub worker : pool_of_row (row_of state.rows t) ≡ Some text
  pub drawn : (p : ℕ) → is_id p text ≡ true → p < state.pools.next
  pub there : (p : ℕ) (one : Pool) → is_id p text ≡ true → at_number state.pools p ≡ Some one → Has n t one.jobs

-- what an id names
pool_named_is : (table : PoolTable) (p : ℕ) (text : List ℕ) → is_id p text ≡ true → pool_of table text ≡ at_number table p
pool_named_is table p text id = go (id_named kind.Pool text) refl id
  where
    go : (named : Option ℕ) → id_named kind.Pool text ≡ named → option_eq nat_eq named (Some p) ≡ true → pool_of table text ≡ at_number table p
    go None is id = absurd (cc id)
    go (Some n) is id = ap (option_and_then (at_number table)) is ∙ ap (at_number table) (same n p id)

-- of a pool that isn't open no job is given
closed_stops : (state : State) (t : ℕ) (text : List ℕ) (line : Line) → pool_of state.pools text ≡ None
    → (act state t (ask.Pool (pool.JobTake text)) line).gives.reply ≡ reply.JobStop
closed_stops state t text line none =
    subst (λ (found : Option Pool). (pools_after state t (if not (is_marked state t) && pools.waits_for_job found
    then record { table = state.pools; gives = pools.waiting }
    else pools.takes_job state.pools t (is_marked state t) text found)).gives.reply ≡ reply.JobStop) (sym none) (by (is_marked state t))
  where
    by : (b : Bool) → (pools_after state t (if not b && false
        then record { table = state.pools; gives = pools.waiting }
        else pools.takes_job state.pools t b text None)).gives.reply ≡ reply.JobStop
    by true = refl
    by false = refl

open_one : (state : State) (t : ℕ) (text : List ℕ) (line : Line) (p n : ℕ) (script : List ℕ) (detached : Bool) → is_id p text ≡ true
    → (act state t (ask.Pool (pool.JobTake text)) line).gives.reply ≡ reply.Job n script detached
    → (one : Pool) × (at_number state.pools p ≡ Some one)
open_one state t text line p n script detached id told = go (at_number state.pools p) refl
  where
    go : (found : Option Pool) → at_number state.pools p ≡ found → (one : Pool) × (at_number state.pools p ≡ Some one)
    go None is =
        let both : reply.JobStop ≡ reply.Job n script detached = sym (closed_stops state t text line (pool_named_is state.pools p text id ∙ is)) ∙ told in
        absurd (cc both)
    go (Some one) is = (one, is)

-- the number of an open pool was drawn
pub was_drawn : (p : ℕ) (table : PoolTable) (one : Pool) → Single p table → at_number table p ≡ Some one → p < table.next
was_drawn p table one single is = go (nat_lt p table.next) refl
  where
    go : (b : Bool) → nat_lt p table.next ≡ b → p < table.next
    go true less = grind (arith, nat_tests, less)
    go false more =
        let past : table.next ≤ p = grind (arith, nat_tests, more) in
        let no_such : ⊥ = omega (arith, single.later past, total-at (numbered p) p table.pools one is, one_same p p refl) in
        absurd no_such

module _ (old : State) (action : Action) (can : CanHappen old action) (single : (p : ℕ) → Single p old.pools) where
  abbrev moment : Moment
  moment = record { before = old; action = action }

  abbrev next : State
  next = after old action

  abbrev told : Reply
  told = (action_result old action).gives.reply

  -- numbers of pools stay drawn
  drawn_on : (p : ℕ) → p < old.pools.next → p < next.pools.next
  drawn_on p before = go (happenings_by p moment) (by_action p moment can (single p)).move
    where
      go : (happened : List PoolHappening) → TableMove p old.pools next.pools happened → p < next.pools.next
      go _ (moves.TableMove.same alike grows) = omega (arith, grows, before)
      go _ (moves.TableMove.made new missing past found suspended jobs) = let no_such : ⊥ = omega (arith, past, before) in absurd no_such
      go _ (moves.TableMove.changed other new happened found there changes) =
          was_drawn p next.pools new (by_action p moment can (single p)).single there
      go _ (moves.TableMove.closes other found there same_next) = omega (arith, same_next, before)

  -- its job neither ends nor is another one begun
  record Undisturbed (t : ℕ) (happened : List PoolHappening) : Type 0 where
    begins_none : (k : ℕ) → ¬ (Contains happened (Began k t))
    done_none : (k : ℕ) (outcome : Outcome) → ¬ (Contains happened (Done k t outcome))
    lost_none : (k : ℕ) → ¬ (Contains happened (Lost k t))

  module _ (t n : ℕ) (calm : (p : ℕ) → Undisturbed t (happenings_by p moment)) (holds : Holds old t n) where
    there_now : (p : ℕ) (one : Pool) → is_id p holds.text ≡ true → at_number next.pools p ≡ Some one → Has n t one.jobs
    there_now p one id is = go (happenings_by p moment) (by_action p moment can (single p)).move (calm p)
      where
        go : (happened : List PoolHappening) → TableMove p old.pools next.pools happened → Undisturbed t happened → Has n t one.jobs
        go _ (moves.TableMove.same alike grows) quiet = holds.there p one id (sym alike ∙ is)
        go _ (moves.TableMove.made new missing past found suspended jobs) quiet =
            let no_such : ⊥ = omega (arith, past, holds.drawn p id) in
            absurd no_such
        go _ (moves.TableMove.changed other new happened found there changes) quiet =
            let has = holds.there p other id found in
            subst (λ (now : Pool). Has n t now.jobs) (some_same new one (sym there ∙ is))
            (still has (by_moves t has.begun other.suspended new.suspended other.jobs new.jobs happened changes quiet.begins_none has.there))
          where
            still : (has : Has n t other.jobs) → Goes t has.begun new.jobs happened → Has n t new.jobs
            still has (stays at_it) = record { begun = has.begun; there = at_it; job = has.job }
            still has (is_done outcome ended) = absurd (quiet.done_none _ outcome ended)
            still has (is_lost ended) = absurd (quiet.lost_none _ ended)
        go _ (moves.TableMove.closes other found there same_next) quiet = let none : None ≡ Some one = sym there ∙ is in absurd (cc none)

    holds_on : Holds next t n
    holds_on = record {
      text = holds.text;
      worker = stay old action.thread action.request action.line t holds.text holds.worker;
      drawn = λ p id. drawn_on p (holds.drawn p id);
      there = there_now;
    }

  -- ---- another thread ----

  pub others_hold : (t n : ℕ) → t ≢ action.thread → Holds old t n → Holds next t n
  others_hold t n apart holds =
      holds_on t n
      (λ p. record {
        begins_none = λ k there. apart (takes p old action.thread action.request told k t there).alike;
        done_none = λ k outcome there. apart (done_by p old action.thread action.request told k t outcome there).0;
        lost_none = λ k there. apart (lost_by p old action.thread action.request told k t there).0;
      }) holds

  -- ---- the thread itself ----

  -- the job that it is given
  given : (n : ℕ) (text script : List ℕ) (detached : Bool) → pool_of_row (row_of old.rows action.thread) ≡ Some text
      → action.request ≡ ask.Pool (pool.JobTake text) → told ≡ reply.Job n script detached → Holds next action.thread n
  given n text script detached worker asks is = record {
    text = text;
    worker = stay old action.thread action.request action.line action.thread text worker;
    drawn = λ p id. drawn_on p (was_drawn p old.pools (its p id).0 (single p) (its p id).1);
    there = there_then;
  }
    where
      its : (p : ℕ) → is_id p text ≡ true → (one : Pool) × (at_number old.pools p ≡ Some one)
      its p id =
          open_one old action.thread text action.line p n script detached id
          (ap (λ (request : Request). (act old action.thread request action.line).gives.reply) (sym asks) ∙ is)

      begins : (p : ℕ) → is_id p text ≡ true → Contains (happenings_by p moment) (Began n action.thread)
      begins p id =
          subst (λ (request : Request). Contains (happens p old action.thread request told) (Began n action.thread)) (sym asks)
          (subst (λ (answer : Reply). Contains (happens p old action.thread (ask.Pool (pool.JobTake text)) answer) (Began n action.thread)) (sym is)
          (subst (λ (b : Bool). Contains (if b then if_open (λ other. Began n action.thread ∷ []) (at_number old.pools p) else []) (Began n action.thread))
          (sym id)
          (subst (λ found. Contains (if_open (λ other. Began n action.thread ∷ []) found) (Began n action.thread)) (sym (its p id).1)
          (first_of (Began n action.thread) []))))

      there_then : (p : ℕ) (one : Pool) → is_id p text ≡ true → at_number next.pools p ≡ Some one → Has n action.thread one.jobs
      there_then p one id at_it = go (happenings_by p moment) (by_action p moment can (single p)).move (begins p id)
        where
          go : (happened : List PoolHappening) → TableMove p old.pools next.pools happened → Contains happened (Began n action.thread)
              → Has n action.thread one.jobs
          go _ (moves.TableMove.same alike grows) begun = absurd (nothing _ begun)
          go _ (moves.TableMove.made new missing past found suspended jobs) begun = absurd (nothing _ begun)
          go _ (moves.TableMove.changed other new happened found there changes) begun =
              subst (λ (now : Pool). Has n action.thread now.jobs) (some_same new one (sym there ∙ at_it))
              (has_it n action.thread other.suspended new.suspended other.jobs new.jobs happened changes begun)
          go _ (moves.TableMove.closes other found there same_next) begun = let none : None ≡ Some one = sym there ∙ at_it in absurd (cc none)

  module _ (works : AsksAsWorker moment) (held : Option ℕ) (turn : IsInTurn (pool_of_row (row_of old.rows action.thread)) held action.request)
      (holds : (n : ℕ) → held ≡ Some n → Holds old action.thread n) where
    pub itself_holds : (n : ℕ) → held_after held action.request told ≡ Some n → Holds next action.thread n
    itself_holds n is = go (lets_go action.request) refl is
      where
        takes_none : held ≡ Some n → (text : List ℕ) → ¬ (action.request ≡ ask.Pool (pool.JobTake text))
        takes_none has text asks =
            let now : IsInTurn (pool_of_row (row_of old.rows action.thread)) held (ask.Pool (pool.JobTake text)) =
            subst (IsInTurn (pool_of_row (row_of old.rows action.thread)) held) asks turn in
            let none : None ≡ Some n = sym now.1 ∙ has in
            cc none

        go : (b : Bool) → lets_go action.request ≡ b → (if b then None else in_hand_after held action.request told) ≡ Some n → Holds next action.thread n
        go true lets is = absurd (cc is)
        go false goes is = by (after_it held action.request told n goes is)
          where
            calm : held ≡ Some n → (p : ℕ) → Undisturbed action.thread (happenings_by p moment)
            calm has p = record {
              begins_none = λ k there.
                  let by_it = takes p old action.thread action.request told k action.thread there in
                  takes_none has by_it.text by_it.asks;
              done_none = λ k outcome there.
                  let ended = done_by p old action.thread action.request told k action.thread outcome there in
                  let both : true ≡ false = sym ended.1 ∙ goes in
                  cc both;
              lost_none = λ k there.
                  let ended = lost_by p old action.thread action.request told k action.thread there in
                  let both : true ≡ false = sym ended.1 ∙ goes in
                  cc both;
            }

            by : IsAfter held n action.request told → Holds next action.thread n
            by (still has) = holds_on action.thread n (calm has) (holds n has)
            by (gains text script detached asks answer) = given n text script detached (works text asks).worker asks answer
