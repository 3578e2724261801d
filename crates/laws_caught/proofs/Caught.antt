-- Threads that wait for one another take no step.
use Rattle.std.proofs.Common.{◌≡◌, ◌≢◌, ◌∙◌, ◌-◌, ◌==◌, ◌<◌, ◌≤◌, ◌^◌, ℕ, zero, suc, Bool, true, false, IsTrue, if◌then◌else◌, List, [], ◌∷◌, ◌++◌}
use Rattle.std.proofs.Common.{slice_get, map, drop, length, Option, Some, None, refl, ap, sym, subst, arith}
use Rattle.std.specs.List.{Contains}
use Rattle.laws_caught.proofs.Answers.{answer_wait}
use Rattle.laws_caught.proofs.Arrays.{array_wait, in_none}
use Rattle.laws_caught.proofs.Ended.{end_wait}
use Rattle.laws_caught.proofs.Lines.{line_wait}
use Rattle.laws_caught.proofs.LockTables as locks
use Rattle.laws_caught.proofs.Locks.{lock_wait}
use Rattle.laws_caught.proofs.Moving.{move_wait}
use Rattle.laws_caught.specs.CaughtLaws.{AreCaught, CaughtStayLaw, StayCaught, WaitsForOneOf}
use Rattle.laws_caught.specs.WaitLaws.{AllFit, Stays, WaitsOn}
use Rattle.laws_shared.proofs.Drawn as channels
use Rattle.laws_shared.proofs.Numbered.{by_number}
use Rattle.laws_shared.specs.Actions.{Action, Acts, Moment, Reached, after, more as one_first, none as nothing}
use Rattle.laws_shared.specs.Orderly.{later}
use Rattle.tt_calls.specs.Numbers.{at_number}
use Rattle.tt_calls.specs.declared.chan_call.ChanCall.TheVariants as chan
use Rattle.tt_calls.specs.declared.reply.Reply.{Reply}
use Rattle.tt_calls.specs.declared.request.Request.{Request}
use Rattle.tt_calls.specs.declared.request.Request.TheVariants as ask
use Rattle.tt_calls.specs.declared.start.Start.TheVariants as start
use Rattle.tt_kept.specs.Beginning.{IsNext}
use Rattle.tt_kept.specs.declared.setup.Setup.{Setup}
use Rattle.tt_machine.proofs.Steps.{not_barred, one_more}
use Rattle.tt_machine.specs.Machine.{CanStep, Machine, Runs, Steps, Thread, ThreadAsks, more, new_thread, none, start_machine, thread_with_reply, waits as has_to_wait}
use Rattle.tt_machine.specs.Machine.{with_new_threads, with_reply, with_reply_at}
use Rattle.tt_machine.specs.RunActions.{step_action}
use Rattle.tt_machine.specs.Waiting.{HasToWait, WaitsFor}
use Rattle.tt_locks.specs.Table.{number_of}
use Rattle.tt_shared.proofs.Blockers.{exact}
use Rattle.tt_shared.specs.Acts.{act}
use Rattle.tt_shared.specs.Blocking.{blockers, waited_for}
use Rattle.tt_shared.specs.State.{State}
use Rattle.tt_threads.specs.Rows.{is_living}
use Rattle.tt_threads.specs.declared.row.Row.{Row}

-- ---- a thread that does nothing asks the same ----

front : {X : Type 0} (xs ys : List X) (i : ℕ) (x : X) → slice_get xs i ≡ Some x → slice_get (xs ++ ys) i ≡ Some x
front [] ys i x is = absurd (cc is)
front (y ∷ xs) ys zero x is = is
front (y ∷ xs) ys (suc i) x is = front xs ys i x is

at_front : {X : Type 0} (xs ys : List X) (t : ℕ) (x : X) → at_number xs t ≡ Some x → at_number (xs ++ ys) t ≡ Some x
at_front {X = X} xs ys t x is = go (t == 0) is
  where
    go : (b : Bool) → (if b then None else slice_get xs (t - 1)) ≡ Some x → (if b then None else slice_get (xs ++ ys) (t - 1)) ≡ Some x
    go true is = absurd (cc is)
    go false is = front xs ys (t - 1) x is

stays_there : (threads : List Thread) (n t : ℕ) (reply : Reply) (rows : List Row) (thread : Thread) → n ≢ t → at_number threads t ≡ Some thread →
    at_number (with_new_threads (with_reply threads n reply) rows) t ≡ Some thread
stays_there threads n t reply rows thread other is =
    at_front (with_reply threads n reply) (map new_thread (drop (length (with_reply threads n reply)) rows)) t thread (replied (at_number threads n) refl)
  where
    replied : (found : Option Thread) → at_number threads n ≡ found → at_number (with_reply_at threads n reply found) t ≡ Some thread
    replied None there = is
    replied (Some asking) there =
        by_number (λ found. found ≡ Some thread) threads n t (thread_with_reply reply asking) asking there (λ same. absurd (other (sym same))) is

-- ---- each kind of wait ----

stays : (request : Request) → Stays request
stays (ask.AwaitEnd thread) moment t u reached can fit not_t not_u waits = end_wait thread moment t u reached can fit not_t not_u waits
stays (ask.Await n) moment t u reached can fit not_t not_u waits = answer_wait n moment t u reached can fit not_t not_u waits
stays (ask.Tsv call) moment t u reached can fit not_t not_u waits = array_wait call moment t u reached can fit not_t not_u waits
stays (ask.Lock call) moment t u reached can fit not_t not_u waits = lock_wait call moment t u reached can fit not_t not_u waits
stays (ask.Chan (chan.AwaitMove text)) moment t u reached can fit not_t not_u waits = move_wait text moment t u reached can fit not_t not_u waits
stays (ask.Chan (chan.GetLine text)) moment t u reached can fit not_t not_u waits = line_wait text moment t u reached can fit not_t not_u waits
stays (ask.Chan call) moment t u reached can fit not_t not_u waits = in_none _ u waits.named
stays request moment t u reached can fit not_t not_u waits = in_none _ u waits.named

-- ---- what a run reaches ----

shared_after : {old new : Machine} {n : ℕ} → (step : Steps old n new) → new.shared ≡ after old.shared (step_action step)
shared_after step = ap (λ (machine : Machine). machine.shared) step.becomes

acts_of : (old new : Machine) (schedule : List ℕ) → Runs old schedule new → (actions : List Action) × Acts old.shared actions new.shared
acts_of old new [] none = ([], nothing)
acts_of old new (n ∷ schedule) (more {next = next} step rest) =
    let others = acts_of next new schedule rest in (
      step_action step ∷ others.0,
      one_first (record { lives = step.can.asks.lives; enabled = step.can.enabled })
          (subst (λ (state : State). Acts state others.0 new.shared) (shared_after step) others.1),
    )

reached : (setup : Setup) (input : List ℕ) (machine : Machine) (schedule : List ℕ) → Runs (start_machine setup input) schedule machine →
    Reached machine.shared
reached setup input machine schedule ran =
    let actions = acts_of (start_machine setup input) machine schedule ran in
    record { main = start.Script setup.script; actions = actions.0; acts = actions.1 }

-- ---- numbers fit before, too ----

fits_before : {old new : Machine} {n : ℕ} → (step : Steps old n new) → AllFit new.shared → AllFit old.shared
fits_before {old = old} {new = new} {n = n} step fit = record {
  channels =
      let up : old.shared.channels.next ≤ new.shared.channels.next =
      subst (λ (state : State). old.shared.channels.next ≤ state.channels.next) (sym shared) (channels.up_after old.shared n step.can.request step.line).up in
      let small : new.shared.channels.next < 2 ^ 64 = fit.channels in
      omega (arith, up, small);
  locks = λ kind.
      let up : number_of kind old.shared.locks.next ≤ number_of kind new.shared.locks.next =
      subst (λ (state : State). number_of kind old.shared.locks.next ≤ number_of kind state.locks.next) (sym shared)
      (locks.up_after old.shared n step.can.request step.line kind) in
      let small = fit.locks kind in
      omega (arith, up, small);
}
  where
    shared : new.shared ≡ after old.shared (step_action step)
    shared = shared_after step

fits_back : (machine new : Machine) (later : List ℕ) → Runs machine later new → AllFit new.shared → AllFit machine.shared
fits_back machine new [] none fit = fit
fits_back machine new (n ∷ later) (more {next = next} step rest) fit = fits_before step (fits_back next new later rest fit)

-- ---- a step ----

record StillWaits (machine : Machine) (t u : ℕ) : Type 0 where
  waits : WaitsFor machine t u

module _ (setup : Setup) (input : List ℕ) (old new : Machine) (schedule : List ℕ) (n : ℕ) (ran : Runs (start_machine setup input) schedule old)
    (step : Steps old n new) (fit : AllFit new.shared) where
  shared : new.shared ≡ after old.shared (step_action step)
  shared = shared_after step

  abbrev moment : Moment
  moment = record { before = old.shared; action = step_action step }

  one_step : (t u : ℕ) → n ≢ t → n ≢ u → new.shared.over ≡ None → (was : WaitsFor old t u) → StillWaits new t u
  one_step t u not_t not_u going was = record {
    waits = record {
      others = blockers new.shared t request;
      has_to = record {
        request = request;
        serving = was.has_to.serving;
        going = going;
        asks = asks;
        not_enabled = still.not_enabled;
        are = refl;
      };
      is_one = ((exact new.shared t request still.not_enabled).exactly u).1 (still.other_lives, still.named);
    };
  }
    where
      request : Request
      request = was.has_to.request

      blocks : IsTrue (is_living old.shared.rows u) × Contains (waited_for old.shared t request) u
      blocks = ((exact old.shared t request was.has_to.not_enabled).exactly u).0 (subst (λ list. Contains list u) was.has_to.are was.is_one)

      on : WaitsOn old.shared t request u
      on = record { lives = was.has_to.asks.lives; not_enabled = was.has_to.not_enabled; other_lives = blocks.0; named = blocks.1 }

      still : WaitsOn new.shared t request u
      still =
          subst (λ (state : State). WaitsOn state t request u) (sym shared)
          (stays request moment t u (reached setup input old schedule ran)
          (record { lives = step.can.asks.lives; enabled = step.can.enabled }) (subst AllFit shared fit) not_t not_u on)

      asks : ThreadAsks new t request was.has_to.serving
      asks = record {
        thread = was.has_to.asks.thread;
        made =
            ap (λ (machine : Machine). at_number machine.threads t) step.becomes
            ∙ stays_there old.threads n t (act old.shared n step.can.request step.line).gives.reply
            (act old.shared n step.can.request step.line).state.rows was.has_to.asks.thread not_t was.has_to.asks.made;
        lives = still.lives;
        next =
            subst (λ (one : Setup). IsNext one t was.has_to.asks.thread.start was.has_to.asks.thread.replies request was.has_to.serving)
            (sym (ap (λ (machine : Machine). machine.setup) step.becomes)) was.has_to.asks.next;
      }

  -- who waits takes no step
  not_self : (t u : ℕ) → WaitsFor old t u → n ≢ t
  not_self t u was same =
      not_barred old t (subst (CanStep old) same step.can)
      (has_to_wait {request = was.has_to.request} {serving = was.has_to.serving} was.has_to.asks was.has_to.not_enabled)

  caught_step : (threads : List ℕ) → AreCaught old threads → new.shared.over ≡ None → AreCaught new threads
  caught_step threads caught going t among =
      let was = caught t among in
      let other = caught was.other was.among in
      let still = one_step t was.other (not_self t was.other was.waits) (not_self was.other other.other other.waits) going was.waits in
      record { other = was.other; waits = still.waits; among = was.among }

-- ---- a run ----

first_or_later : (P : Type 0) (n : ℕ) (later : List ℕ) (t : ℕ) → (n ≡ t → P) → (Contains later t → P) → Contains (n ∷ later) t → P
first_or_later P n later t first other (zero, within, is) = first is
first_or_later P n later t first other (suc k, within, is) = other (k, omega (arith, within), is)

along : (setup : Setup) (input : List ℕ) (machine new : Machine) (schedule later threads : List ℕ) → Runs (start_machine setup input) schedule machine →
    Runs machine later new → AllFit new.shared → (machine.shared.over ≡ None → AreCaught machine threads) → StayCaught threads later new
along setup input machine new schedule [] threads ran none fit caught = record { no_steps = λ t among there. in_none ⊥ t there; still = caught }
along setup input machine new schedule (n ∷ later) threads ran (more {next = next} step rest) fit caught =
    let fits : AllFit next.shared = fits_back next new later rest fit in
    let are : AreCaught machine threads = caught step.can.going in
    let others : StayCaught threads later new =
    along setup input next new (schedule ++ n ∷ []) later threads (one_more (start_machine setup input) machine next schedule n ran step) rest fit
    (caught_step setup input machine next schedule n ran step fits threads are) in
    record {
      no_steps = λ t among there.
          first_or_later ⊥ n later t (λ same. not_self setup input machine next schedule n ran step fits t (are t among).other (are t among).waits same)
          (λ after. others.no_steps t among after) there;
      still = others.still;
    }

pub caught_stay : CaughtStayLaw
caught_stay setup input machine new schedule later threads ran goes fit caught =
    along setup input machine new schedule later threads ran goes fit (λ going. caught)
