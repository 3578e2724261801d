-- An action of a desk as a step of the machine, wherever its threads are said to be.
use Rattle.std.proofs.Common.{◌≡◌, ◌≢◌, ◌∙◌, ◌+◌, ◌<◌, arith, length, ℕ, Bool, true, false, IsTrue, IsFalse, List, [], ◌∷◌}
use Rattle.std.proofs.Common.{◌++◌, Option, Some, None, IfSome, IfErr, Result, Err, ◌⊎◌, inl, inr}
use Rattle.std.proofs.Common.{not, ap, append-nil, append_assoc, refl, sym, subst}
use Rattle.tt_calls.specs.declared.reply.Reply.{Reply}
use Rattle.tt_calls.specs.declared.request.Request.{Request}
use Rattle.tt_calls.specs.declared.start.Start.TheVariants as start
use Rattle.tt_run.specs.Acting.{Happens, ReadsNothing, Writes}
use Rattle.tt_run.specs.Desk.{Ground, can_act, input_left}
use Rattle.tt_run.specs.declared.fault.StepFault.{StepFault}
use Rattle.tt_run.specs.declared.fault.StepFault.TheVariants as fault
use Rattle.tt_devices.proofs.StreamLemmas.{Grows-append, Grows-same}
use Rattle.std.specs.Io.KnownBytes.{Consumes, Keeps, prepend_known}
use Rattle.tt_devices.specs.Streams.{Grows, GrowsByPart, LosesPart}
use Rattle.tt_kept.specs.declared.setup.Setup.{Setup}
use Rattle.tt_lines.specs.Lines.{reads_line}
use Rattle.std.proofs.lemmas.List.{append_cancel_left, length-append}
use Rattle.laws_shared.proofs.Drawn.{few_fit}
use Rattle.tt_machine.proofs.RunActionLemmas.{few_channels, steps_orderly}
use Rattle.tt_machine.proofs.Steps.{one_more}
use Rattle.tt_machine.specs.RunActions.{StepsOrderly}
use Rattle.tt_schedule.specs.ScheduleText.{most_steps}
use Rattle.tt_machine.specs.Machine.{CanStep, Machine, Runs, Steps, with_new_threads, none}
use Rattle.tt_machine.specs.Machine.{with_reply, start_machine}
use Rattle.tt_shared.specs.Acts.{act}
use Rattle.tt_shared.specs.State.{State, start_state}
use Rattle.tt_shared.specs.declared.applied.Line.{Line}
use Rattle.tt_threads.specs.declared.row.Row.{Row}
use Rattle.tt_core.specs.Faithful.{AsksLine, IsCutShort, IsFaithful, StepWrites, is_cut}
use Rattle.tt_core.specs.Parts.{HoldsLastPart}
use Rattle.tt_core.specs.Stage.{Began, OfMachine}
use Rattle.tt_core.specs.inside.Standing.{IsAt, IsIts, IsStanding, Stands}
use Rattle.tt_core.proofs.StepLemmas.{some-none, able, could-be, AsksIn, can-go, Goes, goes}

-- ---- what sinks got ----

same-grows : (old new : Option (List ℕ)) (before after : List ℕ) → after ≡ before → Grows old new before → Grows old new after
same-grows old new before after same grew = rw same grew

whole : (old mid new : Option (List ℕ)) (before piece after : List ℕ)
    → Grows old mid before → Grows mid new piece → after ≡ before ++ piece → Grows old new after
whole old mid new before piece after first more is = same-grows old new (before ++ piece) after is (Grows-append old mid new before piece first more)

part-of : (begun before next : Machine) (earlier : List ℕ) (number : ℕ) (old mid new : Option (List ℕ)) (written : Machine → List ℕ) (piece : List ℕ)
    → Runs begun earlier before → Grows old mid (written before) → GrowsByPart mid new piece
    → written next ≡ written before ++ piece
    → IsCutShort begun (earlier ++ number ∷ []) old new written next
part-of begun before next earlier number old mid new written piece ran grew more is = record {
  earlier = earlier;
  last = number;
  entries = refl;
  before = before;
  ran = ran;
  part = more.part;
  rest = more.rest;
  cut = is ∙ ap (λ (bytes : List ℕ). written before ++ bytes) more.cut ∙ sym (append_assoc (written before) more.part more.rest);
  grew = Grows-append old mid new (written before) more.part grew more.grew;
}

cut-at : (begun before next : Machine) (earlier schedule : List ℕ) (number : ℕ) (old mid new : Option (List ℕ)) (written : Machine → List ℕ) (piece : List ℕ)
    → Runs begun earlier before → Grows old mid (written before) → GrowsByPart mid new piece → written next ≡ written before ++ piece
    → schedule ≡ earlier ++ number ∷ []
    → IsCutShort begun schedule old new written next
cut-at begun before next earlier schedule number old mid new written piece ran grew more is entry =
    subst (λ (numbers : List ℕ). IsCutShort begun numbers old new written next) (sym entry)
    (part-of begun before next earlier number old mid new written piece ran grew more is)

ran-on : (begun machine next : Machine) (earlier schedule : List ℕ) (number : ℕ)
    → Runs begun earlier machine → Steps machine number next → schedule ≡ earlier ++ number ∷ [] → Runs begun schedule next
ran-on begun machine next earlier schedule number ran step is =
    subst (λ (numbers : List ℕ). Runs begun numbers next) (sym is) (one_more begun machine next earlier number ran step)

faithful-by : (kept : Option StepFault) (cut : Bool) (begun : Machine) (schedule : List ℕ)
    (old_out new_out old_err new_err : Option (List ℕ)) (machine : Machine)
    → is_cut kept ≡ cut → IsFaithful cut begun schedule old_out new_out old_err new_err machine
    → IsFaithful (is_cut kept) begun schedule old_out new_out old_err new_err machine
faithful-by kept cut begun schedule old_out new_out old_err new_err machine is faithful =
    subst (λ (b : Bool). IsFaithful b begun schedule old_out new_out old_err new_err machine) (sym is) faithful

-- ---- the state of a run ----

pub told-map : (found : Option (List ℕ)) (P Q : List ℕ → Type 0) → IfSome found P → ((input : List ℕ) → P input → Q input) → IfSome found Q
told-map None P Q is f = tt
told-map (Some input) P Q is f = f input is

-- it goes on
pub going : (kept : Option StepFault) (shared : State) (left : Option (List ℕ)) (Where : Machine → Type 0) (machine : Machine)
    → kept ≡ None → IsAt kept shared left Where machine → IsIts shared left machine × Where machine
going kept shared left Where machine unmet at = subst (λ (k : Option StepFault). IsAt k shared left Where machine) unmet at

-- a fault is met, and the run stands so
at-met : (kept met : Option StepFault) (shared : State) (left : Option (List ℕ)) (Where : Machine → Type 0) (machine : Machine)
    → kept ≡ met → IsAt met shared left Where machine → IsAt kept shared left Where machine
at-met kept met shared left Where machine is at = subst (λ (k : Option StepFault). IsAt k shared left Where machine) (sym is) at

-- the places of its threads are said anew, if anything is said of them
at-anew : (kept : Option StepFault) (shared : State) (left : Option (List ℕ)) (Old New : Machine → Type 0) (machine : Machine)
    → (IsIts shared left machine → Old machine → New machine)
    → IsAt kept shared left Old machine → IsAt kept shared left New machine
at-anew None shared left Old New machine anew at = (at.0, anew at.0 at.1)
at-anew (Some fault.ReadFault) shared left Old New machine anew at = (at.0, anew at.0 at.1)
at-anew (Some fault.WriteFault) shared left Old New machine anew at = tt
at-anew (Some fault.NoMemory) shared left Old New machine anew at = tt
at-anew (Some fault.NotEnabled) shared left Old New machine anew at = absurd at

keeps-some : (old new : Option (List ℕ)) (bytes : List ℕ) → old ≡ Some bytes → Keeps old new → new ≡ Some bytes
keeps-some None new bytes is keeps = absurd (some-none (sym is))
keeps-some (Some old) None bytes is keeps = absurd keeps
keeps-some (Some old) (Some new) bytes is keeps = ap Some keeps ∙ is

-- ---- what the source still holds ----

-- what it holds comes after what was read ahead of it
pub holds-rest : (ahead : List ℕ) (told : Option (List ℕ)) (bytes : List ℕ) → prepend_known ahead told ≡ Some bytes → HoldsLastPart told bytes
holds-rest ahead None bytes is = absurd (some-none (sym is))
holds-rest ahead (Some rest) bytes is =
    let cut : ahead ++ rest ≡ bytes = cc is in
    record { ahead = ahead; rest = rest; tells = refl; cut = sym cut }

-- it holds a last part still, when first bytes were taken
pub holds-less : (old new : Option (List ℕ)) (bytes : List ℕ) → LosesPart old new → HoldsLastPart old bytes → HoldsLastPart new bytes
holds-less old new bytes loses holds = by-left old new loses.lost holds.tells
  where
    by-left : (one other : Option (List ℕ)) → Consumes one other loses.part → one ≡ Some holds.rest → HoldsLastPart other bytes
    by-left None other lost is = absurd (some-none (sym is))
    by-left (Some rest) None lost is = absurd lost
    by-left (Some rest) (Some less) lost is =
        let same : rest ≡ holds.rest = cc is in
        record {
          ahead = holds.ahead ++ loses.part;
          rest = less;
          tells = refl;
          cut = holds.cut ∙ (ap (λ (one : List ℕ). holds.ahead ++ one) (sym same ∙ lost) ∙ sym (append_assoc holds.ahead loses.part less));
        }

pub at-none : (kept : Option StepFault) (shared : State) (left : Option (List ℕ)) (Where : Machine → Type 0) (machine : Machine)
    → kept ≡ None → IsIts shared left machine × Where machine → IsAt kept shared left Where machine
at-none kept shared left Where machine unmet its = subst (λ (k : Option StepFault). IsAt k shared left Where machine) (sym unmet) its

-- the places of its threads after a reply, and of those that were made with it
abbrev pub Becomes : Setup → (Old New : Machine → Type 0) → (number : ℕ) → Reply → List Row → Type 0
Becomes setup Old New number reply rows =
    (machine next : Machine)
    → machine.setup ≡ setup → next.setup ≡ setup → Old machine
    → next.threads ≡ with_new_threads (with_reply machine.threads number reply) rows
    → New next

module _ {S K E : Type 0} (held : S → Option (List ℕ)) (got_out : K → Option (List ℕ)) (got_err : E → Option (List ℕ)) where
  -- all is as the machine has it
  abbrev pub Stood : (setup : Setup) → (began : Began S K E) → (desk : Ground S K E) → (Where : Machine → Type 0) → Type 0
  Stood setup began desk Where = IsStanding held got_out got_err (record { setup = setup; began = began; desk = desk }) Where

  abbrev pub StandsAt : (setup : Setup) → (began : Began S K E) → (desk : Ground S K E) → (Where : Machine → Type 0) → (input : List ℕ) → Machine → Type 0
  StandsAt setup began desk Where input machine =
      Stands held got_out got_err (record { setup = setup; began = began; desk = desk }) Where (start_machine setup input) machine

  -- this holds of the machine after the schedule
  abbrev pub Of : (setup : Setup) → (began : Began S K E) → (desk : Ground S K E) → (Machine → Type 0) → Type 0
  Of setup began desk fact = OfMachine held (record { setup = setup; began = began; desk = desk }) fact

  -- it follows from the places of the threads
  pub of-machine : (setup : Setup) (began : Began S K E) (desk : Ground S K E) (Where fact : Machine → Type 0)
      → desk.kept ≡ None → Stood setup began desk Where
      → ((machine : Machine) → IsIts desk.shared (input_left held desk.devices) machine → Where machine → fact machine)
      → Of setup began desk fact
  of-machine setup began desk Where fact unmet stood follows =
      told-map (held began.input) _ _ stood (λ input standing.
      let machine = standing.0 in
      let its = going desk.kept desk.shared (input_left held desk.devices) Where machine unmet standing.1.at in
      (machine, standing.1.ran, follows machine its.0 its.1))

  -- what a machine that goes on is faithful to
  whole-so-far : (setup : Setup) (began : Began S K E) (desk : Ground S K E) (Where : Machine → Type 0) (input : List ℕ) (machine : Machine)
      → desk.kept ≡ None → StandsAt setup began desk Where input machine
      → IsFaithful false (start_machine setup input) desk.schedule (got_out began.output) (got_out desk.devices.output)
      (got_err began.errors) (got_err desk.devices.errors) machine
  whole-so-far setup began desk Where input machine unmet is =
      subst (λ (k : Option StepFault). IsFaithful (is_cut k) (start_machine setup input) desk.schedule (got_out began.output)
      (got_out desk.devices.output) (got_err began.errors) (got_err desk.devices.errors) machine) unmet is.faithful

  -- the places of its threads are said anew
  pub restood : (setup : Setup) (began : Began S K E) (desk : Ground S K E) (Old New : Machine → Type 0)
      → ((machine : Machine) → machine.setup ≡ setup → IsIts desk.shared (input_left held desk.devices) machine → Old machine → New machine)
      → Stood setup began desk Old → Stood setup began desk New
  restood setup began desk Old New anew stood =
      told-map (held began.input) _ _ stood (λ input standing.
      let machine = standing.0 in
      let is = standing.1 in (
        machine,
        record {
          setup = is.setup;
          ran = is.ran;
          at = at-anew desk.kept desk.shared (input_left held desk.devices) Old New machine (anew machine is.setup) is.at;
          input = is.input;
          faithful = is.faithful;
        },
      ))

  -- what the source holds of the machine's input
  pub held-part : (setup : Setup) (began : Began S K E) (desk : Ground S K E) (Where : Machine → Type 0) (input : S)
      → input ≡ desk.devices.input → Stood setup began desk Where
      → Of setup began desk (λ machine. HoldsLastPart (held input) machine.input)
  held-part setup began desk Where input is stood =
      told-map (held began.input) _ _ stood (λ bytes standing. (standing.0, standing.1.ran, rw is standing.1.input))

  -- the machine after the step, with what sinks got of it
  record After (setup : Setup) (began : Began S K E) (old new : Ground S K E) (number : ℕ) (request : Request) (line : Line) (cut : Bool)
      (input : List ℕ) (machine : Machine) : Type 0 where
    goes : Goes held old new number request line machine
    same : goes.next.setup ≡ setup
    ran : Runs (start_machine setup input) new.schedule goes.next
    faithful : IsFaithful cut (start_machine setup input) new.schedule (got_out began.output) (got_out new.devices.output)
        (got_err began.errors) (got_err new.devices.errors) goes.next

  after-whole : (setup : Setup) (began : Began S K E) (old new : Ground S K E) (number : ℕ) (request : Request) (serving : List ℕ)
      (line : Line) (Where : Machine → Type 0) (input : List ℕ) (machine : Machine)
      → StandsAt setup began old Where input machine
      → IsTrue (can_act old number request) → AsksIn Where number request serving
      → Happens held got_out got_err Grows old number request line new
      → After setup began old new number request line false input machine
  after-whole setup began old new number request serving line Where input machine is able_to asking did =
      let can = able old number request able_to in
      let its = going old.kept old.shared (input_left held old.devices) Where machine can.nothing_met is.at in
      let asks = asking machine its.1 (rw (← its.0.is_shared) can.lives) in
      let went = goes held old new number request serving line machine its.0 can asks did.read did.shared in
      let far = whole-so-far setup began old Where input machine can.nothing_met is in
      record {
        goes = went;
        same = went.setup ∙ is.setup;
        ran = ran-on (start_machine setup input) machine went.next old.schedule new.schedule number is.ran went.steps did.entry;
        faithful = record {
          out = whole (got_out began.output) (got_out old.devices.output) (got_out new.devices.output) machine.out
              (act old.shared number request line).gives.out went.next.out far.out did.out went.out;
          err = whole (got_err began.errors) (got_err old.devices.errors) (got_err new.devices.errors) machine.err
              (act old.shared number request line).gives.err went.next.err far.err did.err went.err;
        };
      }

  after-cut : (setup : Setup) (began : Began S K E) (old new : Ground S K E) (number : ℕ) (request : Request) (serving : List ℕ)
      (line : Line) (Where : Machine → Type 0) (input : List ℕ) (machine : Machine)
      → StandsAt setup began old Where input machine
      → IsTrue (can_act old number request) → AsksIn Where number request serving
      → Happens held got_out got_err GrowsByPart old number request line new
      → After setup began old new number request line true input machine
  after-cut setup began old new number request serving line Where input machine is able_to asking did =
      let can = able old number request able_to in
      let its = going old.kept old.shared (input_left held old.devices) Where machine can.nothing_met is.at in
      let asks = asking machine its.1 (rw (← its.0.is_shared) can.lives) in
      let went = goes held old new number request serving line machine its.0 can asks did.read did.shared in
      let far = whole-so-far setup began old Where input machine can.nothing_met is in
      record {
        goes = went;
        same = went.setup ∙ is.setup;
        ran = ran-on (start_machine setup input) machine went.next old.schedule new.schedule number is.ran went.steps did.entry;
        faithful = record {
          out = cut-at (start_machine setup input) machine went.next old.schedule new.schedule number (got_out began.output)
              (got_out old.devices.output) (got_out new.devices.output) (λ m. m.out) (act old.shared number request line).gives.out is.ran
              far.out did.out went.out did.entry;
          err = cut-at (start_machine setup input) machine went.next old.schedule new.schedule number (got_err began.errors)
              (got_err old.devices.errors) (got_err new.devices.errors) (λ m. m.err) (act old.shared number request line).gives.err is.ran
              far.err did.err went.err did.entry;
        };
      }

  -- a step was taken
  pub acted : (setup : Setup) (began : Began S K E) (old new : Ground S K E) (number : ℕ) (request : Request) (serving : List ℕ)
      (line : Line) (Old New : Machine → Type 0)
      → IsTrue (can_act old number request) → AsksIn Old number request serving
      → Happens held got_out got_err Grows old number request line new → new.kept ≡ None
      → Becomes setup Old New number (act old.shared number request line).gives.reply new.shared.rows
      → Stood setup began old Old → Stood setup began new New
  acted setup began old new number request serving line Old New can asking did goes_on becomes stood =
      told-map (held began.input) _ _ stood (λ input standing.
      let machine = standing.0 in
      let is = standing.1 in
      let went = after-whole setup began old new number request serving line Old input machine is can asking did in
      let its = going old.kept old.shared (input_left held old.devices) Old machine (able old number request can).nothing_met is.at in (
        went.goes.next,
        record {
          setup = went.same;
          ran = went.ran;
          at = at-none new.kept new.shared (input_left held new.devices) New went.goes.next goes_on (
            record { is_shared = went.goes.shared; is_left = went.goes.left },
            becomes machine went.goes.next is.setup went.same its.1 went.goes.threads,
          );
          input = holds-rest new.devices.ahead (held new.devices.input) went.goes.next.input went.goes.left;
          faithful = faithful-by new.kept false (start_machine setup input) new.schedule (got_out began.output) (got_out new.devices.output)
              (got_err began.errors) (got_err new.devices.errors) went.goes.next (ap is_cut goes_on) went.faithful;
        },
      ))

  -- a step was taken, and then there was no memory
  pub acted-without-memory : (setup : Setup) (began : Began S K E) (old new last : Ground S K E) (number : ℕ) (request : Request)
      (serving : List ℕ) (line : Line) (Old New : Machine → Type 0)
      → IsTrue (can_act old number request) → AsksIn Old number request serving
      → Happens held got_out got_err Grows old number request line new
      → last ≡ record new { kept = Some fault.NoMemory }
      → Stood setup began old Old → Stood setup began last New
  acted-without-memory setup began old new last number request serving line Old New can asking did is_last stood =
      subst (λ (desk : Ground S K E). Stood setup began desk New) (sym is_last)
      (told-map (held began.input) _ _ stood (λ input standing.
      let machine = standing.0 in
      let went = after-whole setup began old new number request serving line Old input machine standing.1 can asking did in (
        went.goes.next,
        record {
          setup = went.same;
          ran = went.ran;
          at = tt;
          input = holds-rest new.devices.ahead (held new.devices.input) went.goes.next.input went.goes.left;
          faithful = went.faithful;
        },
      )))

  -- a write failed
  failed-write : (setup : Setup) (began : Began S K E) (old new : Ground S K E) (number : ℕ) (request : Request) (serving : List ℕ)
      (line : Line) (Old New : Machine → Type 0)
      → IsTrue (can_act old number request) → AsksIn Old number request serving
      → Happens held got_out got_err GrowsByPart old number request line new → new.kept ≡ Some fault.WriteFault
      → Stood setup began old Old → Stood setup began new New
  failed-write setup began old new number request serving line Old New can asking did met stood =
      told-map (held began.input) _ _ stood (λ input standing.
      let machine = standing.0 in
      let went = after-cut setup began old new number request serving line Old input machine standing.1 can asking did in (
        went.goes.next,
        record {
          setup = went.same;
          ran = went.ran;
          at = at-met new.kept (Some fault.WriteFault) new.shared (input_left held new.devices) New went.goes.next met tt;
          input = holds-rest new.devices.ahead (held new.devices.input) went.goes.next.input went.goes.left;
          faithful = faithful-by new.kept true (start_machine setup input) new.schedule (got_out began.output) (got_out new.devices.output)
              (got_err began.errors) (got_err new.devices.errors) went.goes.next (ap is_cut met) went.faithful;
        },
      ))

  -- nothing was done, and the source may have lost first bytes
  stopped : (setup : Setup) (began : Began S K E) (old new : Ground S K E) (Old New : Machine → Type 0) (is : StepFault)
      → old.kept ≡ None → new.kept ≡ Some is → is_cut (Some is) ≡ false
      → new.schedule ≡ old.schedule → new.devices.output ≡ old.devices.output → new.devices.errors ≡ old.devices.errors
      → LosesPart (held old.devices.input) (held new.devices.input)
      → ((machine : Machine) → IsIts old.shared (input_left held old.devices) machine → Old machine
      → IsAt (Some is) new.shared (input_left held new.devices) New machine)
      → Stood setup began old Old → Stood setup began new New
  stopped setup began old new Old New is unmet met cut same out err loses at stood =
      told-map (held began.input) _ _ stood (λ input standing.
      let machine = standing.0 in
      let its = going old.kept old.shared (input_left held old.devices) Old machine unmet standing.1.at in
      let far = whole-so-far setup began old Old input machine unmet standing.1 in (
        machine,
        record {
          setup = standing.1.setup;
          ran = rw same standing.1.ran;
          at = at-met new.kept (Some is) new.shared (input_left held new.devices) New machine met (at machine its.0 its.1);
          input = holds-less (held old.devices.input) (held new.devices.input) machine.input loses standing.1.input;
          faithful = faithful-by new.kept false (start_machine setup input) new.schedule (got_out began.output) (got_out new.devices.output)
              (got_err began.errors) (got_err new.devices.errors) machine (ap is_cut met ∙ cut)
              (rw (same, out, err) (record { out = far.out; err = far.err }));
        },
      ))

  -- memory was refused
  pub without-memory : (setup : Setup) (began : Began S K E) (old new : Ground S K E) (Old New : Machine → Type 0)
      → old.kept ≡ None → new.kept ≡ Some fault.NoMemory
      → new.schedule ≡ old.schedule → new.devices.output ≡ old.devices.output → new.devices.errors ≡ old.devices.errors
      → LosesPart (held old.devices.input) (held new.devices.input)
      → Stood setup began old Old → Stood setup began new New
  without-memory setup began old new Old New unmet met same out err loses stood =
      stopped setup began old new Old New fault.NoMemory unmet met refl same out err loses (λ machine its there. tt) stood

  -- a read failed: all is as it was
  pub failed-read : (setup : Setup) (began : Began S K E) (old new : Ground S K E) (Where : Machine → Type 0)
      → old.kept ≡ None → new.kept ≡ Some fault.ReadFault → ReadsNothing held old new
      → LosesPart (held old.devices.input) (held new.devices.input)
      → Stood setup began old Where → Stood setup began new Where
  failed-read setup began old new Where unmet met nothing loses stood =
      stopped setup began old new Where Where fault.ReadFault unmet met refl nothing.schedule nothing.output nothing.errors loses
      (λ machine its there. (
        record {
          is_shared = nothing.shared ∙ its.is_shared;
          is_left = keeps-some (input_left held old.devices) (input_left held new.devices) machine.input its.is_left nothing.unread;
        },
        there,
      )) stood

  begins : (setup : Setup) (output : K) (errors : E) (Where : Machine → Type 0) (given : S) (bytes : List ℕ)
      → held given ≡ Some bytes
      → Where (start_machine setup bytes)
      → StandsAt setup (record { input = given; output = output; errors = errors })
      (record {
        shared = start_state (start.Script setup.script);
        schedule = [];
        devices = record { input = given; ahead = []; output = output; errors = errors };
        kept = None;
      }) Where bytes (start_machine setup bytes)
  begins setup output errors Where given bytes told there = record {
    setup = refl;
    ran = none;
    at = (record { is_shared = refl; is_left = rw told refl }, there);
    input = record { ahead = []; rest = bytes; tells = told; cut = refl };
    faithful = record { out = Grows-same (got_out output); err = Grows-same (got_err errors) };
  }

  at-start : (setup : Setup) (output : K) (errors : E) (Where : Machine → Type 0) (given : S) (told : Option (List ℕ))
      → held given ≡ told
      → ((bytes : List ℕ) → Where (start_machine setup bytes))
      → IfSome told
      (λ bytes. (machine : Machine) × StandsAt setup (record { input = given; output = output; errors = errors })
      (record {
        shared = start_state (start.Script setup.script);
        schedule = [];
        devices = record { input = given; ahead = []; output = output; errors = errors };
        kept = None;
      }) Where bytes machine)
  at-start setup output errors Where given None is there = tt
  at-start setup output errors Where given (Some bytes) is there =
      (start_machine setup bytes, begins setup output errors Where given bytes is (there bytes))

  -- it began
  pub begun : (setup : Setup) (input : S) (output : K) (errors : E) (Where : Machine → Type 0) (desk : Ground S K E)
      → desk ≡ record {
        shared = start_state (start.Script setup.script);
        schedule = [];
        devices = record { input = input; ahead = []; output = output; errors = errors };
        kept = None;
      }
      → ((bytes : List ℕ) → Where (start_machine setup bytes))
      → Stood setup (record { input = input; output = output; errors = errors }) desk Where
  begun setup input output errors Where desk is there =
      subst (λ (one : Ground S K E). Stood setup (record { input = input; output = output; errors = errors }) one Where) (sym is)
      (at-start setup output errors Where input (held input) refl there)

  -- the machine after the schedule can take the step
  pub could : (setup : Setup) (began : Began S K E) (desk : Ground S K E) (number : ℕ) (request : Request) (serving : List ℕ) (Where : Machine → Type 0)
      → IsTrue (can_act desk number request) → AsksIn Where number request serving
      → Stood setup began desk Where
      → Of setup began desk (λ machine. CanStep machine number)
  could setup began desk number request serving Where can asking stood =
      let has = able desk number request can in
      of-machine setup began desk Where (λ machine. CanStep machine number) has.nothing_met stood (λ machine its there.
      can-go held desk number request serving machine its has (asking machine there (rw (← its.is_shared) has.lives)))

  -- ---- what was met ----

  -- what was met is kept, or nothing was done
  pub record Failed {T : Type 0} (old new : Ground S K E) (number : ℕ) (request : Request) (result : Result T StepFault) : Type 0 where
    pub nothing_met : old.kept ≡ None
    pub refused : old.kept ≡ None → IsFalse (can_act old number request) → result ≡ Err fault.NotEnabled
    pub unchanged : result ≡ Err fault.NotEnabled → new ≡ old
    pub kept : IfErr result (λ is. (is ≡ fault.NotEnabled) ⊎ (new.kept ≡ Some is))
    pub read_nothing : result ≡ Err fault.ReadFault → ReadsNothing held old new
    pub cut : result ≡ Err fault.WriteFault → old.kept ≡ None →
        (line : Line) × Happens held got_out got_err GrowsByPart old number request line new × Writes (act old.shared number request line).gives
    pub taken : LosesPart (held old.devices.input) (held new.devices.input)
    pub no_entry : result ≡ Err fault.NoMemory → new.schedule ≡ old.schedule
    pub no_piece : result ≡ Err fault.NoMemory → (new.devices.output ≡ old.devices.output) × (new.devices.errors ≡ old.devices.errors)

  pub met : {T : Type 0} (new : Ground S K E) (result : Result T StepFault) (is : StepFault)
      → IfErr result (λ one. (one ≡ fault.NotEnabled) ⊎ (new.kept ≡ Some one)) → result ≡ Err is → is ≢ fault.NotEnabled → new.kept ≡ Some is
  met {T = T} new result is kept failed other =
      go (subst (λ (r : Result T StepFault). IfErr r (λ one. (one ≡ fault.NotEnabled) ⊎ (new.kept ≡ Some one))) failed kept)
    where
      go : (is ≡ fault.NotEnabled) ⊎ (new.kept ≡ Some is) → new.kept ≡ Some is
      go (inl not) = absurd (other not)
      go (inr known) = known

  pub failed : {T : Type 0} (setup : Setup) (began : Began S K E) (old new : Ground S K E) (number : ℕ) (request : Request)
      (serving : List ℕ) (Where : Machine → Type 0) (result : Result T StepFault) (is : StepFault)
      → AsksIn Where number request serving → result ≡ Err is → Failed old new number request result
      → Stood setup began old Where → Stood setup began new Where
  failed setup began old new number request serving Where result fault.NotEnabled asks was f stood =
      subst (λ (desk : Ground S K E). Stood setup began desk Where) (sym (f.unchanged was)) stood
  failed setup began old new number request serving Where result fault.ReadFault asks was f stood =
      failed-read setup began old new Where f.nothing_met (met new result fault.ReadFault f.kept was (λ same. cc)) (f.read_nothing was) f.taken stood
  failed setup began old new number request serving Where result fault.WriteFault asks was f stood =
      let cut = f.cut was f.nothing_met in
      let can = could-be old number request result fault.WriteFault f.nothing_met f.refused was (λ same. cc) in
      failed-write setup began old new number request serving cut.0 Where Where can asks cut.1 (met new result fault.WriteFault f.kept was (λ same. cc)) stood
  failed setup began old new number request serving Where result fault.NoMemory asks was f stood =
      let pieces = f.no_piece was in
      without-memory setup began old new Where Where f.nothing_met (met new result fault.NoMemory f.kept was (λ same. cc)) (f.no_entry was)
      pieces.0 pieces.1 f.taken stood

  -- ---- what a fault is met at ----

  -- it asks for a line
  pub asked-line : (setup : Setup) (began : Began S K E) (desk : Ground S K E) (number : ℕ) (request : Request) (serving : List ℕ) (Where : Machine → Type 0)
      → AsksIn Where number request serving → IsTrue (can_act desk number request) → reads_line request ≡ true
      → Stood setup began desk Where
      → Of setup began desk (AsksLine number)
  asked-line setup began desk number request serving Where asking can line stood =
      let has = able desk number request can in
      of-machine setup began desk Where (AsksLine number) has.nothing_met stood (λ machine its there.
      record {
        can = record {
          request = request;
          serving = serving;
          going = rw (← its.is_shared) has.going;
          asks = asking machine there (rw (← its.is_shared) has.lives);
          enabled = rw (← its.is_shared) has.enabled;
        };
        line = line;
      })

  longer : (before piece after : List ℕ) → after ≡ before ++ piece → piece ≢ [] → after ≢ before
  longer before piece after is some = λ same. some (append_cancel_left before piece [] (sym is ∙ (same ∙ sym (append-nil before))))

  -- its step writes something
  pub wrote : (setup : Setup) (began : Began S K E) (old new : Ground S K E) (number : ℕ) (request : Request) (serving : List ℕ) (Where : Machine → Type 0)
      → AsksIn Where number request serving → IsTrue (can_act old number request)
      → ((line : Line) × Happens held got_out got_err GrowsByPart old number request line new × Writes (act old.shared number request line).gives)
      → Stood setup began old Where
      → Of setup began old (StepWrites number)
  wrote setup began old new number request serving Where asking can cut stood =
      let has = able old number request can in
      of-machine setup began old Where (StepWrites number) has.nothing_met stood (λ machine its there.
      let asks = asking machine there (rw (← its.is_shared) has.lives) in
      let went = goes held old new number request serving cut.0 machine its has asks cut.1.read cut.1.shared in
      record { next = went.next; steps = went.steps; writes = grown cut.0 machine went cut.2 })
    where
      grown : (line : Line) (machine : Machine) → (went : Goes held old new number request line machine) → Writes (act old.shared number request line).gives
          → (went.next.out ≢ machine.out) ⊎ (went.next.err ≢ machine.err)
      grown line machine went (inl some) = inl (longer machine.out (act old.shared number request line).gives.out went.next.out went.out some)
      grown line machine went (inr some) = inr (longer machine.err (act old.shared number request line).gives.err went.next.err went.err some)

  -- ---- what a step keeps to ----

  pub keeps-to : (setup : Setup) (began : Began S K E) (old new : Ground S K E) (number : ℕ) (request : Request) (serving : List ℕ)
      (line : Line) (Where : Machine → Type 0)
      → AsksIn Where number request serving → IsTrue (can_act old number request)
      → Happens held got_out got_err Grows old number request line new
      → length old.schedule < most_steps
      → Stood setup began old Where
      → Of setup began old (StepsOrderly number)
  keeps-to setup began old new number request serving line Where asking can did room stood =
      told-map (held began.input) _ _ stood (λ input standing.
      let machine = standing.0 in
      let has = able old number request can in
      let its = going old.kept old.shared (input_left held old.devices) Where machine has.nothing_met standing.1.at in
      let asks = asking machine its.1 (rw (← its.0.is_shared) has.lives) in
      let went = goes held old new number request serving line machine its.0 has asks did.read did.shared in
      let longer = old.schedule ++ number ∷ [] in
      let few = few_channels setup input went.next longer
      (one_more (start_machine setup input) machine went.next old.schedule number standing.1.ran went.steps) in
      let count : length longer ≡ length old.schedule + 1 = length-append old.schedule (number ∷ []) in
      let fits = few_fit went.next.shared.channels.next (length longer) few (omega (arith, count, room)) in
      (machine, standing.1.ran, steps_orderly setup input machine went.next old.schedule number standing.1.ran went.steps fits))
