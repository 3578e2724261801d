-- What each thread of a machine has in hand, from step to step.
use Rattle.std.proofs.Common.{◌≡◌, ◌≢◌, ◌∙◌, ◌-◌, ◌==◌, ℕ, zero, suc, Bool, true, false, List, [], ◌∷◌, ◌++◌, slice_get}
use Rattle.std.proofs.Common.{Option, Some, None, IfSome, IsTrue, nat_eq, if◌then◌else◌, ap, option_and_then, refl, sym, subst, arith}
use Rattle.std.specs.Option.{option_eq}
use Rattle.laws_pools.proofs.Actions.{by_action}
use Rattle.laws_pools.proofs.BegunJobs.{some_same}
use Rattle.laws_pools.proofs.Moves.{Single}
use Rattle.laws_pools.proofs.Rows.{stay}
use Rattle.laws_pools.specs.PoolHappenings.{is_id}
use Rattle.laws_pools.specs.PoolWorkers.{AsksAsWorker}
use Rattle.laws_runs.proofs.Places.{IsAfter, after_step, answered, begun, none_after, other}
use Rattle.laws_shared.proofs.Deciding.{apart, differs, itself, same}
use Rattle.laws_shared.specs.Actions.{CanHappen, Moment}
use Rattle.laws_working.proofs.Held.{Holds, goes_alike, held_after, itself_holds, others_hold}
use Rattle.laws_working.proofs.Rows.{new_has_row}
use Rattle.laws_working.proofs.Tied.{Tied, itself_tied, others_tied}
use Rattle.laws_working.proofs.Turns.{turn_law, went_on}
use Rattle.laws_working.specs.Turns.{HasInHand, IsInTurn, after_reply, at_first, in_hand_after}
use Rattle.laws_working.specs.WorkedRuns.{HandsInOwn, HasBegun}
use Rattle.tt_calls.specs.Numbers.{at_number}
use Rattle.tt_calls.specs.declared.pool_call.PoolCall.TheVariants as pool
use Rattle.tt_calls.specs.declared.request.Request.TheVariants as ask
use Rattle.tt_calls.specs.declared.request.Request.{Request}
use Rattle.tt_calls.specs.declared.start.Start.TheVariants as start
use Rattle.tt_ids.specs.Ids.{id_named}
use Rattle.tt_ids.specs.declared.id.IdKind.TheVariants as kind
use Rattle.tt_kept.specs.Asking.{goes_on}
use Rattle.tt_kept.specs.Beginning.{IsNext}
use Rattle.tt_kept.specs.declared.setup.Setup.{Setup}
use Rattle.tt_machine.specs.Machine.{Machine, Steps, Thread, after_act, start_machine}
use Rattle.tt_machine.specs.RunActions.{step_action}
use Rattle.tt_pools.specs.Jobs.{at, is_job}
use Rattle.tt_pools.specs.Pools.{at_number as pool_at}
use Rattle.tt_pools.specs.declared.jobs.Begun.{Begun}
use Rattle.tt_pools.specs.declared.pool.Pool.{Pool}
use Rattle.tt_shared.specs.Acts.{act}
use Rattle.tt_shared.specs.Ends.{pool_of_row, pool_of_start}
use Rattle.tt_shared.specs.State.{Acted, State}
use Rattle.tt_threads.specs.Rows.{row_of}

-- the jobs that threads have in hand, in a machine: none if a thread isn't there; a thread was made as its row says
pub record Working (machine : Machine) : Type 0 where
  pub hand : ℕ → Option ℕ
  pub has : (t : ℕ) (thread : Thread) → at_number machine.threads t ≡ Some thread → HasInHand machine.setup t thread.start thread.replies (hand t)
  pub absent : (t : ℕ) → at_number machine.threads t ≡ None → hand t ≡ None
  pub made : (t : ℕ) (thread : Thread) (text : List ℕ) → at_number machine.threads t ≡ Some thread → pool_of_start thread.start ≡ Some text
      → pool_of_row (row_of machine.shared.rows t) ≡ Some text
  pub tied : (t : ℕ) → Tied machine.shared t (hand t)
  -- the same, but none of a thread that has ended
  pub held : ℕ → Option ℕ
  pub alike : (t : ℕ) (thread : Thread) → at_number machine.threads t ≡ Some thread → (request : Request) (serving : List ℕ)
      → IsNext machine.setup t thread.start thread.replies request serving → held t ≡ hand t
  pub idle : (t : ℕ) → at_number machine.threads t ≡ None → held t ≡ None
  pub holds : (t n : ℕ) → held t ≡ Some n → Holds machine.shared t n
  pub single : (p : ℕ) → Single p machine.shared.pools

-- a thread that is made so, and asks so
turn_as : (own row : Option (List ℕ)) (hand : Option ℕ) (request : Request) → ((text : List ℕ) → own ≡ Some text → row ≡ Some text)
    → IsInTurn own hand request → IsInTurn row hand request
turn_as own row hand (ask.Pool (pool.JobTake text)) made turn = (made text turn.0, turn.1)
turn_as own row hand (ask.Pool (pool.JobDone text n outcome)) made turn = (made text turn.0, turn.1)
turn_as own row hand (ask.Pool call) made turn = tt
turn_as own row hand request made turn = tt

-- who has none in hand has begun none
nothing_begun : (state : State) (t : ℕ) (hand : Option ℕ) (text : List ℕ) → Tied state t hand → hand ≡ None
    → IfSome (option_and_then (pool_at state.pools) (id_named kind.Pool text)) (λ one. at one.jobs.begun t ≡ None)
nothing_begun state t hand text tied free = by_id (id_named kind.Pool text)
  where
    none_at : (p : ℕ) (one : Pool) → pool_at state.pools p ≡ Some one → (found : Option Begun) → at one.jobs.begun t ≡ found → found ≡ None
    none_at p one is None there = refl
    none_at p one is (Some job) there = let both : None ≡ Some job.job = sym free ∙ tied.job p one is job there in absurd (cc both)

    by_pool : (p : ℕ) (found : Option Pool) → pool_at state.pools p ≡ found → IfSome found (λ one. at one.jobs.begun t ≡ None)
    by_pool p None is = tt
    by_pool p (Some one) is = none_at p one is (at one.jobs.begun t) refl

    by_id : (named : Option ℕ) → IfSome (option_and_then (pool_at state.pools) named) (λ one. at one.jobs.begun t ≡ None)
    by_id None = tt
    by_id (Some p) = by_pool p (pool_at state.pools p) refl

-- who has a job in hand has begun it
has_begun : (state : State) (t n : ℕ) (text : List ℕ) → pool_of_row (row_of state.rows t) ≡ Some text → Holds state t n → HasBegun state t text n
has_begun state t n text worker holds = record { worker = worker; begun = by_id (id_named kind.Pool text) refl }
  where
    named : holds.text ≡ text
    named = some_same holds.text text (sym holds.worker ∙ worker)

    by_pool : (p : ℕ) → is_id p text ≡ true → (found : Option Pool) → pool_at state.pools p ≡ found
        → IfSome found (λ one. is_job n (at one.jobs.begun t) ≡ true)
    by_pool p id None is = tt
    by_pool p id (Some one) is =
        let has = holds.there p one (subst (λ (name : List ℕ). is_id p name ≡ true) (sym named) id) is in
        ap (is_job n) has.there ∙ ap (λ (k : ℕ). k == n) has.job ∙ itself n

    by_id : (named : Option ℕ) → id_named kind.Pool text ≡ named
        → IfSome (option_and_then (pool_at state.pools) named) (λ one. is_job n (at one.jobs.begun t) ≡ true)
    by_id None is = tt
    by_id (Some p) is = by_pool p (ap (λ (found : Option ℕ). option_eq nat_eq found (Some p)) is ∙ itself p) (pool_at state.pools p) refl

module _ (old : Machine) (number : ℕ) {next : Machine} (step : Steps old number next) (working : Working old) where
  abbrev moment : Moment
  moment = record { before = old.shared; action = step_action step }

  abbrev acted : Acted
  acted = act old.shared number step.can.request step.line

  abbrev asking : Thread
  asking = step.can.asks.thread

  can_happen : CanHappen old.shared (step_action step)
  can_happen = record { lives = step.can.asks.lives; enabled = step.can.enabled }

  turn : IsInTurn (pool_of_row (row_of old.shared.rows number)) (working.hand number) step.can.request
  turn =
      turn_as (pool_of_start asking.start) _ (working.hand number) step.can.request
      (λ text own. working.made number asking text step.can.asks.made own)
      (turn_law old.setup number asking.start asking.replies (working.hand number) step.can.request step.can.serving
      (working.has number asking step.can.asks.made) step.can.asks.next)

  pub asks_so : AsksAsWorker moment
  asks_so text is =
      let in_turn : IsInTurn (pool_of_row (row_of old.shared.rows number)) (working.hand number) (ask.Pool (pool.JobTake text)) =
      subst (IsInTurn (pool_of_row (row_of old.shared.rows number)) (working.hand number)) is turn in
      record { worker = in_turn.0; free = nothing_begun old.shared number (working.hand number) text (working.tied number) in_turn.1 }

  held_is : working.held number ≡ working.hand number
  held_is = working.alike number asking step.can.asks.made step.can.request step.can.serving step.can.asks.next

  pub hands_in_so : HandsInOwn moment
  hands_in_so text n outcome is =
      let in_turn : IsInTurn (pool_of_row (row_of old.shared.rows number)) (working.hand number) (ask.Pool (pool.JobDone text n outcome)) =
      subst (IsInTurn (pool_of_row (row_of old.shared.rows number)) (working.hand number)) is turn in
      has_begun old.shared number n text in_turn.0 (working.holds number n (held_is ∙ in_turn.1))

  -- ---- the machine after the step ----

  abbrev hands : ℕ → Option ℕ
  hands t = if t == number then in_hand_after (working.hand number) step.can.request acted.gives.reply else working.hand t

  own_hand : hands number ≡ in_hand_after (working.hand number) step.can.request acted.gives.reply
  own_hand =
      ap (λ (b : Bool). if b then in_hand_after (working.hand number) step.can.request acted.gives.reply else working.hand number) (itself number)

  other_hand : (t : ℕ) → t ≢ number → hands t ≡ working.hand t
  other_hand t other_one =
      ap (λ (b : Bool). if b then in_hand_after (working.hand number) step.can.request acted.gives.reply else working.hand t) (apart t number other_one)

  not_itself : (t : ℕ) → at_number old.threads t ≡ None → t ≢ number
  not_itself t absent is = cc (sym absent ∙ subst (λ (n : ℕ). at_number old.threads n ≡ Some asking) (sym is) step.can.asks.made)

  has_now : (t : ℕ) (thread : Thread) → IsAfter old.threads number acted.gives.reply asking step.can.asks.made t thread
      → HasInHand old.setup t thread.start thread.replies (hands t)
  has_now t _ (answered is) =
      subst (λ (n : ℕ). HasInHand old.setup n asking.start (asking.replies ++ acted.gives.reply ∷ []) (hands n)) (sym is)
      (subst (HasInHand old.setup number asking.start (asking.replies ++ acted.gives.reply ∷ [])) (sym own_hand)
      (after_reply acted.gives.reply (working.has number asking step.can.asks.made) step.can.asks.next))
  has_now t thread (other others there) =
      subst (HasInHand old.setup t thread.start thread.replies) (sym (other_hand t others)) (working.has t thread there)
  has_now t _ (begun row absent) =
      subst (HasInHand old.setup t row.start []) (sym (other_hand t (not_itself t absent) ∙ working.absent t absent)) at_first

  made_now : (t : ℕ) (thread : Thread) (text : List ℕ) → at_number (after_act old number acted step.left).threads t ≡ Some thread
      → IsAfter old.threads number acted.gives.reply asking step.can.asks.made t thread
      → pool_of_start thread.start ≡ Some text
      → pool_of_row (row_of acted.state.rows t) ≡ Some text
  made_now t _ text there (answered is) own =
      stay old.shared number step.can.request step.line t text
      (subst (λ (n : ℕ). pool_of_row (row_of old.shared.rows n) ≡ Some text) (sym is) (working.made number asking text step.can.asks.made own))
  made_now t thread text there (other others found) own =
      stay old.shared number step.can.request step.line t text (working.made t thread text found own)
  made_now t _ text there (begun row absent) own =
      let new = new_has_row old.threads number acted.gives.reply asking step.can.asks.made acted.state.rows t _ there absent in
      ap pool_of_row new.is ∙ ap (λ (thread : Thread). pool_of_start thread.start) (sym new.begins) ∙ own

  tied_now : (t : ℕ) → Tied acted.state t (hands t)
  tied_now t = go (t == number) refl
    where
      go : (b : Bool) → (t == number) ≡ b → Tied acted.state t (hands t)
      go true is =
          let alike = same t number is in
          subst (λ (n : ℕ). Tied acted.state n (hands n)) (sym alike)
          (subst (Tied acted.state number) (sym own_hand)
          (itself_tied old.shared (step_action step) can_happen working.single asks_so (working.hand number) (working.tied number) turn))
      go false is =
          let others = differs t number is in
          subst (Tied acted.state t) (sym (other_hand t others))
          (others_tied old.shared (step_action step) can_happen working.single asks_so t (working.hand t) (working.tied t) others)

  -- ---- what threads hold then ----

  abbrev helds : ℕ → Option ℕ
  helds t = if t == number then held_after (working.held number) step.can.request acted.gives.reply else working.held t

  own_held : helds number ≡ held_after (working.held number) step.can.request acted.gives.reply
  own_held =
      ap (λ (b : Bool). if b then held_after (working.held number) step.can.request acted.gives.reply else working.held number) (itself number)

  other_held : (t : ℕ) → t ≢ number → helds t ≡ working.held t
  other_held t other_one =
      ap (λ (b : Bool). if b then held_after (working.held number) step.can.request acted.gives.reply else working.held t) (apart t number other_one)

  own_alike : IsTrue (goes_on step.can.request) → helds number ≡ hands number
  own_alike goes =
      own_held ∙ goes_alike (working.held number) step.can.request acted.gives.reply goes
      ∙ ap (λ (one : Option ℕ). in_hand_after one step.can.request acted.gives.reply) held_is ∙ sym own_hand

  alike_now : (t : ℕ) (thread : Thread) → IsAfter old.threads number acted.gives.reply asking step.can.asks.made t thread
      → (request : Request) (serving : List ℕ) → IsNext old.setup t thread.start thread.replies request serving → helds t ≡ hands t
  alike_now t _ (answered is) request serving next_is =
      subst (λ (n : ℕ). helds n ≡ hands n) (sym is)
      (own_alike
      (went_on old.setup number asking.start asking.replies acted.gives.reply step.can.request request step.can.serving serving step.can.asks.next
      (subst (λ (n : ℕ). IsNext old.setup n asking.start (asking.replies ++ acted.gives.reply ∷ []) request serving) is next_is)))
  alike_now t thread (other others there) request serving next_is =
      other_held t others ∙ working.alike t thread there request serving next_is ∙ sym (other_hand t others)
  alike_now t _ (begun row absent) request serving next_is =
      let others = not_itself t absent in
      other_held t others ∙ working.idle t absent ∙ sym (other_hand t others ∙ working.absent t absent)

  holds_now : (t n : ℕ) → helds t ≡ Some n → Holds acted.state t n
  holds_now t n is = go (t == number) refl
    where
      go : (b : Bool) → (t == number) ≡ b → Holds acted.state t n
      go true alike =
          let one = same t number alike in
          subst (λ (u : ℕ). Holds acted.state u n) (sym one)
          (itself_holds old.shared (step_action step) can_happen working.single asks_so (working.held number)
          (subst (λ (hand : Option ℕ). IsInTurn (pool_of_row (row_of old.shared.rows number)) hand step.can.request) (sym held_is) turn)
          (working.holds number) n (sym own_held ∙ ap helds (sym one) ∙ is))
      go false apart_is =
          let others = differs t number apart_is in
          others_hold old.shared (step_action step) can_happen working.single t n others (working.holds t n (sym (other_held t others) ∙ is))

  after_it : Working (after_act old number acted step.left)
  after_it = record {
    hand = hands;
    has = λ t thread there. has_now t thread (after_step old.threads number acted.gives.reply asking step.can.asks.made acted.state.rows t thread there);
    absent = λ t later.
        let before = none_after old.threads number acted.gives.reply asking step.can.asks.made acted.state.rows t later in
        other_hand t (not_itself t before) ∙ working.absent t before;
    made = λ t thread text there own.
        made_now t thread text there (after_step old.threads number acted.gives.reply asking step.can.asks.made acted.state.rows t thread there) own;
    tied = tied_now;
    held = helds;
    alike = λ t thread there.
        alike_now t thread (after_step old.threads number acted.gives.reply asking step.can.asks.made acted.state.rows t thread there);
    idle = λ t later.
        let before = none_after old.threads number acted.gives.reply asking step.can.asks.made acted.state.rows t later in
        other_held t (not_itself t before) ∙ working.idle t before;
    holds = holds_now;
    single = λ p. (by_action p moment can_happen (working.single p)).single;
  }

  pub works_on : Working next
  works_on = subst Working (sym step.becomes) after_it

-- ---- the first machine ----

alone_there : (one : Thread) (t : ℕ) (thread : Thread) → at_number (one ∷ []) t ≡ Some thread → thread ≡ one
alone_there one t thread = go (t == 0)
  where
    in_place : (i : ℕ) → slice_get (one ∷ []) i ≡ Some thread → thread ≡ one
    in_place zero there = cc there
    in_place (suc i) there = absurd (cc there)

    go : (b : Bool) → (if b then None else slice_get (one ∷ []) (t - 1)) ≡ Some thread → thread ≡ one
    go true there = absurd (cc there)
    go false there = in_place (t - 1) there

pub at_start : (setup : Setup) (input : List ℕ) → Working (start_machine setup input)
at_start setup input = record {
  hand = λ t. None;
  has = λ t thread there.
      subst (λ (one : Thread). HasInHand setup t one.start one.replies None) (sym (alone_there _ t thread there)) at_first;
  absent = λ t there. refl;
  made = λ t thread text there own.
      let alike : thread ≡ record { start = start.Script setup.script; replies = [] } = alone_there _ t thread there in
      let none : None ≡ Some text = ap (λ (one : Thread). pool_of_start one.start) (sym alike) ∙ own in
      absurd (cc none);
  tied = λ t. record {
    few = λ p one is. absurd (cc is);
    job = λ p one is job there. absurd (cc is);
    worker = λ p one is job there. absurd (cc is);
  };
  held = λ t. None;
  alike = λ t thread there request serving next_is. refl;
  idle = λ t there. refl;
  holds = λ t n is. absurd (cc is);
  single = λ p. record { one = omega arith; later = λ past. refl };
}
