-- What a system stands for after a step.
use Rattle.std.proofs.Common.{◌≡◌, ◌∙◌, ◌<◌, length, ℕ, Bool, true, false, IsTrue, IsFalse, List, [], ◌∷◌, Option, Some}
use Rattle.std.proofs.Common.{None, Result, Err, inl, inr, is_none, is_some, not, refl, sym, subst}
use Rattle.std.specs.Option.{option_map}
use Rattle.tt_calls.specs.declared.reply.Reply.{Reply}
use Rattle.tt_calls.specs.declared.request.Request.{Request}
use Rattle.tt_calls.specs.declared.start.Start.TheVariants as start
use Rattle.tt_run.specs.Acting.{Happens, IsAnswer, Writes}
use Rattle.tt_run.specs.Desk.{Ground, can_act, input_left}
use Rattle.tt_run.specs.declared.desk.Acted.{Acted}
use Rattle.tt_run.specs.declared.fault.StepFault.{StepFault}
use Rattle.tt_run.specs.declared.fault.StepFault.TheVariants as fault
use Rattle.tt_devices.specs.Streams.{Grows, GrowsByPart}
use Rattle.tt_interp.specs.Interps.{Interpreter, request_of, serving_of}
use Rattle.tt_kept.specs.declared.setup.Setup.{Setup}
use Rattle.tt_lines.specs.Lines.{reads_line}
use Rattle.tt_machine.proofs.Steps.{not_barred}
use Rattle.tt_machine.specs.RunActions.{StepsOrderly}
use Rattle.tt_machine.specs.Machine.{CanStep, IsBarred, IsStuck, Machine, with_reply, start_machine, silent}
use Rattle.tt_schedule.specs.ScheduleText.{most_steps}
use Rattle.tt_shared.specs.Acts.{act}
use Rattle.tt_shared.specs.State.{start_state}
use Rattle.tt_shared.specs.declared.applied.Line.{Line}
use Rattle.tt_threads.specs.declared.row.Row.{Row}
use Rattle.tt_core.proofs.ActionLemmas as actions
use Rattle.tt_core.proofs.ActionLemmas.{Becomes, Failed, Of, Stood, acted, acted-without-memory, of-machine}
use Rattle.tt_core.proofs.StepLemmas.{able, AsksIn, barred-asking, can-go, some-none}
use Rattle.tt_core.proofs.CrewLemmas as crew
use Rattle.tt_core.proofs.PlaceLemmas.{joined-each}
use Rattle.tt_core.proofs.CrewLemmas.{replied-placed, stands-asking, stands-for}
use Rattle.tt_core.specs.inside.Crew.{AllBegin, AreBusy, AreIdle, ArePlaced, able as can_be, ended as has_ended, IsReadyAfter}
use Rattle.tt_core.specs.inside.Crew.{IsPlaced, IsReplied, Places, StandsIn, asked_by, can_act_at, interp_of, is_ready}
use Rattle.tt_core.specs.Faithful.{AsksLine, StepWrites}
use Rattle.tt_core.specs.Stage.{Began, IsNextAfter}
use Rattle.tt_core.specs.inside.Standing.{InPlaces, IsIts}

-- ---- tests ----

pub some-code : (found : Option ℕ) → is_some found ≡ true → (code : ℕ) × (found ≡ Some code)
some-code None is = absurd (cc is)
some-code (Some code) is = (code, refl)

pub not-not : (b : Bool) → IsFalse b → IsFalse (not (not b))
not-not true is = absurd (cc is)
not-not false is = refl

-- somebody is ready, if somebody is next
pub some-ready : (ready : ℕ → Bool) (after : ℕ) (found : Option ℕ) → IsFalse (is_none found) → IsReadyAfter ready after found
    → (number : ℕ) × IsTrue (ready number)
some-ready ready after None is next = absurd (cc is)
some-ready ready after (Some number) is next = (number, next.0)

-- ---- what the crew asks ----

-- the thread of an interpreter asks what it does
asks-it : (number : ℕ) (request : Request) (places : Places) (interp : Interpreter)
    → interp_of places number ≡ Some interp → request ≡ request_of interp.standing
    → AsksIn (InPlaces places) number request (serving_of interp.standing)
asks-it number request places interp found is = λ machine are lives.
    let at = stands-for machine.setup number machine.threads places interp are found in
    record {
      thread = at.thread;
      made = at.made;
      lives = lives;
      next = rw is (stands-asking machine.setup number at.thread interp at.stands);
    }

-- the interpreter that a request is asked by
pub record IsAskedBy (places : Places) (number : ℕ) (request : Request) : Type 0 where
  pub interp : Interpreter
  pub found : interp_of places number ≡ Some interp
  pub asks : AsksIn (InPlaces places) number request (serving_of interp.standing)

pub asked-in : (places : Places) (number : ℕ) (request : Request) → Some request ≡ asked_by places number → IsAskedBy places number request
asked-in places number request is = by-case (interp_of places number) refl is
  where
    by-case : (found : Option Interpreter) → interp_of places number ≡ found
        → Some request ≡ option_map (λ (interp : Interpreter). request_of interp.standing) found → IsAskedBy places number request
    by-case None at asked = absurd (cc asked)
    by-case (Some interp) at asked =
        let same : request ≡ request_of interp.standing = cc asked in
        record { interp = interp; found = at; asks = asks-it number request places interp at same }

places-after : (setup : Setup) (number : ℕ) (reply : Reply) (rows : List Row) (old mid new : Places)
    → IsReplied number reply old mid → AllBegin setup rows mid new
    → Becomes setup (InPlaces old) (InPlaces new) number reply rows
places-after setup number reply rows old mid new replied_is begin = λ machine next is same are is_joined.
    let here = subst (λ (one : Setup). ArePlaced one 1 machine.threads old) is are in
    let one = replied-placed setup number reply machine.threads old mid here replied_is in
    let all = joined-each (IsPlaced setup) rows (with_reply machine.threads number reply) mid new one begin in
    subst (λ (one : Setup). ArePlaced one 1 next.threads new) (sym same)
    (subst (λ (some : List _). ArePlaced setup 1 some new) (sym is_joined) all)

module _ {S K E : Type 0} (held : S → Option (List ℕ)) (got_out : K → Option (List ℕ)) (got_err : E → Option (List ℕ)) where
  -- all is as the machine has it
  abbrev pub In : (setup : Setup) → (began : Began S K E) → (desk : Ground S K E) → Places → Type 0
  In setup began desk places = Stood held got_out got_err setup began desk (InPlaces places)

  -- it began
  pub begun : (setup : Setup) (input : S) (output : K) (errors : E) (interp : Interpreter) (places : Places) (desk : Ground S K E)
      → desk ≡ record {
        shared = start_state (start.Script setup.script);
        schedule = [];
        devices = record { input = input; ahead = []; output = output; errors = errors };
        kept = None;
      }
      → places ≡ Some interp ∷ []
      → StandsIn interp setup 1 (record { start = start.Script setup.script; replies = [] })
      → In setup (record { input = input; output = output; errors = errors }) desk places
  begun setup input output errors interp places desk is are stands =
      actions.begun held got_out got_err setup input output errors (InPlaces places) desk is
      (λ bytes. subst (λ (some : Places). ArePlaced setup 1 (start_machine setup bytes).threads some) (sym are) (stands, tt))

  -- ---- what can be done ----

  barred-at : (desk : Ground S K E) (number : ℕ) (places : Places) (machine : Machine) (found : Option Interpreter)
      → IsIts desk.shared (input_left held desk.devices) machine → InPlaces places machine → desk.kept ≡ None
      → interp_of places number ≡ found → IsFalse (can_act_at desk number found)
      → IsBarred machine number
  barred-at desk number places machine None its are kept is unable =
      silent (λ request serving asking. crew.silent machine.setup number machine.threads places asking.thread are is asking.made request serving asking.next)
  barred-at desk number places machine (Some interp) its are kept is unable =
      barred-asking held desk number (request_of interp.standing) (serving_of interp.standing) machine its kept
      (λ lives. asks-it number (request_of interp.standing) places interp is refl machine are lives) unable

  -- it can't
  pub barred : (setup : Setup) (began : Began S K E) (desk : Ground S K E) (number : ℕ) (places : Places)
      → desk.kept ≡ None → IsFalse (is_ready desk places number)
      → In setup began desk places
      → Of held got_out got_err setup began desk (λ machine. IsBarred machine number)
  barred setup began desk number places kept unable stood =
      of-machine held got_out got_err setup began desk (InPlaces places) (λ machine. IsBarred machine number) kept stood (λ machine its are.
      barred-at desk number places machine (interp_of places number) its are kept refl unable)

  ready-one : (desk : Ground S K E) (number : ℕ) (found : Option Interpreter)
      → IsTrue (can_act_at desk number found) → (interp : Interpreter) × (found ≡ Some interp) × IsTrue (can_act desk number (request_of interp.standing))
  ready-one desk number None is = absurd (cc is)
  ready-one desk number (Some interp) is = (interp, refl, is)

  ready-at : (desk : Ground S K E) (number : ℕ) (places : Places) (machine : Machine)
      → IsIts desk.shared (input_left held desk.devices) machine → InPlaces places machine
      → IsTrue (is_ready desk places number) → CanStep machine number
  ready-at desk number places machine its are is =
      let one = ready-one desk number (interp_of places number) is in
      let request = request_of one.0.standing in
      let has = able desk number request one.2 in
      can-go held desk number request (serving_of one.0.standing) machine its has
      (asks-it number request places one.0 one.1 refl machine are (rw (← its.is_shared) has.lives))

  -- it can
  pub ready : (setup : Setup) (began : Began S K E) (desk : Ground S K E) (number : ℕ) (places : Places)
      → IsTrue (is_ready desk places number)
      → In setup began desk places
      → Of held got_out got_err setup began desk (λ machine. CanStep machine number)
  ready setup began desk number places is stood =
      let one = ready-one desk number (interp_of places number) is in
      let request = request_of one.0.standing in
      actions.could held got_out got_err setup began desk number request (serving_of one.0.standing) (InPlaces places) one.2
      (asks-it number request places one.0 one.1 refl) stood

  -- nothing is asked, so nothing can be done
  pub unasked : (setup : Setup) (began : Began S K E) (desk : Ground S K E) (number : ℕ) (places : Places)
      → desk.kept ≡ None → None ≡ asked_by places number → In setup began desk places
      → Of held got_out got_err setup began desk (λ machine. IsBarred machine number)
  unasked setup began desk number places kept is stood =
      of-machine held got_out got_err setup began desk (InPlaces places) (λ machine. IsBarred machine number) kept stood (λ machine its are.
      by-case (interp_of places number) refl is machine its are)
    where
      by-case : (found : Option Interpreter) → interp_of places number ≡ found
          → None ≡ option_map (λ (interp : Interpreter). request_of interp.standing) found
          → (machine : Machine) → IsIts desk.shared (input_left held desk.devices) machine → InPlaces places machine → IsBarred machine number
      by-case None at asked machine its are = barred-at desk number places machine None its are kept at refl
      by-case (Some interp) at asked machine its are = absurd (cc asked)

  -- what is asked can't be answered
  pub unable : (setup : Setup) (began : Began S K E) (desk : Ground S K E) (number : ℕ) (request : Request) (places : Places)
      → desk.kept ≡ None → Some request ≡ asked_by places number → IsFalse (can_act desk number request) → In setup began desk places
      → Of held got_out got_err setup began desk (λ machine. IsBarred machine number)
  unable setup began desk number request places kept is cannot stood =
      let one = asked-in places number request is in
      of-machine held got_out got_err setup began desk (InPlaces places) (λ machine. IsBarred machine number) kept stood (λ machine its are.
      barred-asking held desk number request (serving_of one.interp.standing) machine its kept (λ lives. one.asks machine are lives) cannot)

  -- what is asked could be answered
  pub asked-could : (setup : Setup) (began : Began S K E) (desk : Ground S K E) (number : ℕ) (request : Request) (places : Places)
      → Some request ≡ asked_by places number → IsTrue (can_act desk number request) → In setup began desk places
      → Of held got_out got_err setup began desk (λ machine. CanStep machine number)
  asked-could setup began desk number request places is can stood =
      let one = asked-in places number request is in
      actions.could held got_out got_err setup began desk number request (serving_of one.interp.standing) (InPlaces places) can one.asks stood

  -- ---- a step ----

  pub went-on : (setup : Setup) (began : Began S K E) (old new : Ground S K E) (number : ℕ) (request : Request) (did : Acted) (places after : Places)
      → IsTrue (can_act old number request) → Some request ≡ asked_by places number
      → ((line : Line) × Happens held got_out got_err Grows old number request line new × IsAnswer did (act old.shared number request line).gives)
      → new.kept ≡ None
      → ((mid : Places) × IsReplied number did.reply places mid × AllBegin setup new.shared.rows mid after)
      → In setup began old places → In setup began new after
  went-on setup began old new number request did places after can is happens kept goes stood =
      let one = asked-in places number request is in
      let replies = subst (λ (reply : Reply). IsReplied number reply places goes.0) happens.2.reply goes.1 in
      acted held got_out got_err setup began old new number request (serving_of one.interp.standing) happens.0 (InPlaces places)
      (InPlaces after) can one.asks happens.1 kept
      (places-after setup number (act old.shared number request happens.0).gives.reply new.shared.rows places goes.0 after replies goes.2) stood

  pub ran-out : (setup : Setup) (began : Began S K E) (old new last : Ground S K E) (number : ℕ) (request : Request) (did : Acted) (places after : Places)
      → IsTrue (can_act old number request) → Some request ≡ asked_by places number
      → ((line : Line) × Happens held got_out got_err Grows old number request line new × IsAnswer did (act old.shared number request line).gives)
      → last ≡ record new { kept = Some fault.NoMemory }
      → In setup began old places → In setup began last after
  ran-out setup began old new last number request did places after can is happens is_last stood =
      let one = asked-in places number request is in
      acted-without-memory held got_out got_err setup began old new last number request (serving_of one.interp.standing) happens.0
      (InPlaces places) (InPlaces after) can one.asks happens.1 is_last stood

  pub failed : {T : Type 0} (setup : Setup) (began : Began S K E) (old new : Ground S K E) (number : ℕ) (request : Request)
      (places : Places) (result : Result T StepFault) (is : StepFault)
      → Some request ≡ asked_by places number → result ≡ Err is → Failed held got_out got_err old new number request result
      → In setup began old places → In setup began new places
  failed setup began old new number request places result is asks was f stood =
      let one = asked-in places number request asks in
      actions.failed held got_out got_err setup began old new number request (serving_of one.interp.standing) (InPlaces places) result is one.asks was f stood

  -- ---- in turn ----

  turn-of : {machine : Machine} {ready : ℕ → Bool} (after : ℕ) (next : Option ℕ)
      → IsReadyAfter ready after next
      → ((number : ℕ) → IsFalse (ready number) → IsBarred machine number)
      → ((number : ℕ) → IsTrue (ready number) → CanStep machine number)
      → IsNextAfter after next machine
  turn-of after None is barred can = λ number. barred number (is number)
  turn-of after (Some next) (is, inl (above, between)) barred can =
      (can next is, inl (above, (λ number more less. barred number (between number more less))))
  turn-of after (Some next) (is, inr (below, higher, lower)) barred can =
      (can next is, inr (below, (λ number more. barred number (higher number more)), (λ number less. barred number (lower number less))))

  -- what holds of each number holds of the machine
  pub in-turn : (setup : Setup) (began : Began S K E) (desk : Ground S K E) (places : Places) (after : ℕ) (next : Option ℕ)
      → desk.kept ≡ None → IsReadyAfter (is_ready desk places) after next
      → In setup began desk places
      → Of held got_out got_err setup began desk (IsNextAfter after next)
  in-turn setup began desk places after next kept is stood =
      of-machine held got_out got_err setup began desk (InPlaces places) (IsNextAfter after next) kept stood (λ machine its are.
      turn-of after next is
      (λ number unready. barred-at desk number places machine (interp_of places number) its are kept refl unready)
      (λ number ready. ready-at desk number places machine its are ready))

  -- ---- what a fault is met at ----

  -- it asks for a line
  pub asked-line : (setup : Setup) (began : Began S K E) (desk : Ground S K E) (number : ℕ) (request : Request) (places : Places)
      → Some request ≡ asked_by places number → IsTrue (can_act desk number request) → reads_line request ≡ true
      → In setup began desk places
      → Of held got_out got_err setup began desk (AsksLine number)
  asked-line setup began desk number request places is can line stood =
      let one = asked-in places number request is in
      actions.asked-line held got_out got_err setup began desk number request (serving_of one.interp.standing) (InPlaces places) one.asks can line stood

  -- its step writes something
  pub wrote : (setup : Setup) (began : Began S K E) (old new : Ground S K E) (number : ℕ) (request : Request) (places : Places)
      → Some request ≡ asked_by places number → IsTrue (can_act old number request)
      → ((line : Line) × Happens held got_out got_err GrowsByPart old number request line new × Writes (act old.shared number request line).gives)
      → In setup began old places
      → Of held got_out got_err setup began old (StepWrites number)
  wrote setup began old new number request places is can cut stood =
      let one = asked-in places number request is in
      actions.wrote held got_out got_err setup began old new number request (serving_of one.interp.standing) (InPlaces places) one.asks can cut stood

  -- ---- when nobody can go on ----

  pub stuck : (setup : Setup) (began : Began S K E) (desk : Ground S K E) (places : Places)
      → AreIdle desk places → In setup began desk places
      → Of held got_out got_err setup began desk IsStuck
  stuck setup began desk places idle stood =
      of-machine held got_out got_err setup began desk (InPlaces places) IsStuck idle.unmet stood (λ machine its are.
      record {
        going = rw (← its.is_shared) idle.going;
        barred = λ number. barred-at desk number places machine (interp_of places number) its are idle.unmet refl (idle.unready number);
      })

  busy-goes : (desk : Ground S K E) (places : Places) (machine : Machine)
      → IsIts desk.shared (input_left held desk.devices) machine → InPlaces places machine → AreBusy desk places → IsStuck machine → ⊥
  busy-goes desk places machine its are (has_ended code over_is) stuck = some-none (sym over_is ∙ rw its.is_shared stuck.going)
  busy-goes desk places machine its are (can_be number is) stuck =
      not_barred machine number (ready-at desk number places machine its are is) (stuck.barred number)

  pub not-stuck : (setup : Setup) (began : Began S K E) (desk : Ground S K E) (places : Places)
      → desk.kept ≡ None → AreBusy desk places → In setup began desk places
      → Of held got_out got_err setup began desk (λ machine. ¬ (IsStuck machine))
  not-stuck setup began desk places kept busy stood =
      of-machine held got_out got_err setup began desk (InPlaces places) (λ machine. ¬ (IsStuck machine)) kept stood (λ machine its are.
      λ is. busy-goes desk places machine its are busy is)

  -- ---- what a step keeps to ----

  pub keeps-to : (setup : Setup) (began : Began S K E) (old new : Ground S K E) (number : ℕ) (request : Request) (did : Acted) (places : Places)
      → Some request ≡ asked_by places number → IsTrue (can_act old number request)
      → ((line : Line) × Happens held got_out got_err Grows old number request line new × IsAnswer did (act old.shared number request line).gives)
      → length old.schedule < most_steps
      → In setup began old places
      → Of held got_out got_err setup began old (StepsOrderly number)
  keeps-to setup began old new number request did places is can happens room stood =
      let one = asked-in places number request is in
      actions.keeps-to held got_out got_err setup began old new number request (serving_of one.interp.standing) happens.0 (InPlaces places)
      one.asks can happens.1 room stood
