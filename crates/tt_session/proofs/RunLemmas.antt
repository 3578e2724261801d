-- From what a system leaves to what a run does.
use Rattle.std.proofs.Common.{◌≡◌, ◌≢◌, ◌∙◌, ◌⊎◌, ℕ, List, [], Option, None, Some, IfSome, refl, sym, ap, subst, arith}
use Rattle.laws_runs.proofs.Lawful.{lawful_law}
use Rattle.tt_core.specs.Faithful.{AreFaithful, IsFaithful, is_cut}
use Rattle.tt_core.specs.Parts.{HoldsLastPart}
use Rattle.tt_core.specs.Stage.{Began, OfMachine, SameBeginning, Stage}
use Rattle.tt_machine.proofs.Steps.{same_run}
use Rattle.tt_devices.proofs.StreamLemmas.{Grows-same}
use Rattle.tt_devices.specs.Faults.{Rises}
use Rattle.tt_devices.specs.declared.sink.Sink.{Ghosts as OfSink}
use Rattle.tt_devices.specs.declared.source.Source.{Ghosts as OfSource}
use Rattle.tt_kept.specs.declared.setup.Setup.{Setup}
use Rattle.tt_machine.specs.Machine.{Machine, Runs, start_machine}
use Rattle.tt_machine.specs.Machine as run
use Rattle.tt_run.specs.Desk.{Devices}
use Rattle.tt_session.specs.Choosing.{Allows, Chooses, Freely, InTurn, Mode, Replaying}
use Rattle.tt_session.specs.Choosing as turn
use Rattle.tt_session.specs.Ending.{EndsAs, cause_of}
use Rattle.tt_session.specs.Running.{HasMachine, RunLeaves}
use Rattle.tt_session.specs.declared.ended.Finish.{Finish}
use Rattle.tt_session.specs.declared.status.End.TheVariants.{NoMemory, ReadFault, WriteFault}
use Rattle.tt_session.specs.inside.Following.{AtRun}

-- no step is allowed always
none-allowed : (mode : Mode) (schedule : List ℕ) → schedule ≡ [] → Allows mode schedule
none-allowed (Replaying given) schedule is = record { rest = given; cut = rw is refl }
none-allowed (InTurn steps) schedule is = rw is (omega arith)
none-allowed (Freely steps) schedule is = rw is (omega arith)

none-chosen : (mode : Mode) (begun : Machine) (schedule : List ℕ) → schedule ≡ [] → Chooses mode begun schedule
none-chosen (Replaying given) begun schedule is = tt
none-chosen (InTurn steps) begun schedule is = rw is turn.none
none-chosen (Freely steps) begun schedule is = tt

module _ {S K E : Type 0} (source : OfSource S) (output : OfSink K) (errors : OfSink E) where
  -- memory for a machine was refused
  pub idle-leaves : (setup : Setup) (mode : Mode) (began : Began S K E) (finish : Finish S K E)
      → finish.end ≡ NoMemory → finish.schedule.threads ≡ []
      → finish.input ≡ began.input → finish.output ≡ began.output → finish.errors ≡ began.errors
      → RunLeaves source output errors setup mode began finish
  idle-leaves setup mode began finish end none input out err = record {
    allowed = none-allowed mode finish.schedule.threads none;
    no_output = λ empty. out;
    no_errors = λ empty. err;
    read_fault = λ is. absurd (cc (sym end ∙ is));
    reads_steady = λ other. ap source.fault_count input;
    write_fault = λ is. absurd (cc (sym end ∙ is));
    writes_steady = λ other. (ap output.fault_count out, ap errors.fault_count err);
    has_machine = go (source.held began.input) refl;
    lawful = lawful_law setup finish.schedule.threads;
  }
    where
      go : (told : Option (List ℕ)) → source.held began.input ≡ told → IfSome told (λ bytes. HasMachine source output errors setup mode began finish bytes)
      go None is = tt
      go (Some bytes) is = record {
        machine = start_machine setup bytes;
        ran = rw none run.none;
        chosen = none-chosen mode (start_machine setup bytes) finish.schedule.threads none;
        faithful = rw (end, none, out, err) (record { out = Grows-same _; err = Grows-same _ });
        unread = record { ahead = []; rest = bytes; tells = rw input is; cut = refl };
        ends = rw end tt;
      }

  -- a system took steps
  module _ (setup : Setup) (mode : Mode) (began : Began S K E) (before stage : Stage S K E) (finish : Finish S K E)
      (setup_is : before.setup ≡ setup) (began_is : before.began ≡ began)
      (devices_are : before.desk.devices ≡ record { input = began.input; ahead = []; output = began.output; errors = began.errors })
      (same : SameBeginning before stage) where
    same_setup : stage.setup ≡ setup
    same_setup = same.setup ∙ setup_is

    same_began : stage.began ≡ began
    same_began = same.began ∙ began_is

    old_input : before.desk.devices.input ≡ began.input
    old_input = ap (λ (d : Devices S K E). d.input) devices_are

    old_output : before.desk.devices.output ≡ began.output
    old_output = ap (λ (d : Devices S K E). d.output) devices_are

    old_errors : before.desk.devices.errors ≡ began.errors
    old_errors = ap (λ (d : Devices S K E). d.errors) devices_are

    pub machine-of : finish.schedule.threads ≡ stage.desk.schedule → is_cut stage.desk.kept ≡ is_cut (cause_of finish.end)
        → finish.output ≡ stage.desk.devices.output → finish.errors ≡ stage.desk.devices.errors
        → AreFaithful source.held output.got errors.got stage
        → OfMachine source.held stage (λ machine. HoldsLastPart (source.held finish.input) machine.input)
        → AtRun source.held stage (λ begun machine. Chooses mode begun stage.desk.schedule × EndsAs finish.end mode machine stage.desk.schedule)
        → IfSome (source.held began.input) (λ bytes. HasMachine source output errors setup mode began finish bytes)
    machine-of steps kept out err faithful left ends =
        subst (λ (b : Began S K E). IfSome (source.held b.input) (λ bytes. HasMachine source output errors setup mode began finish bytes)) same_began
        (go (source.held stage.began.input) faithful left ends)
      where
        go : (told : Option (List ℕ))
            → IfSome told (λ bytes. (machine : Machine) × Runs (start_machine stage.setup bytes) stage.desk.schedule machine
            × IsFaithful (is_cut stage.desk.kept) (start_machine stage.setup bytes) stage.desk.schedule (output.got stage.began.output)
            (output.got stage.desk.devices.output)
            (errors.got stage.began.errors) (errors.got stage.desk.devices.errors) machine)
            → IfSome told
            (λ bytes. (machine : Machine) × Runs (start_machine stage.setup bytes) stage.desk.schedule machine × HoldsLastPart
            (source.held finish.input) machine.input)
            → IfSome told (λ bytes. (machine : Machine) → Runs (start_machine stage.setup bytes) stage.desk.schedule machine
            → Chooses mode (start_machine stage.setup bytes) stage.desk.schedule × EndsAs finish.end mode machine stage.desk.schedule)
            → IfSome told (λ bytes. HasMachine source output errors setup mode began finish bytes)
        go None found left ends = tt
        go (Some bytes) found left ends = let is = ends found.0 found.1 in record {
          machine = found.0;
          ran = rw (steps, ← same_setup) found.1;
          chosen = rw (steps, ← same_setup) is.0;
          faithful = rw (steps, out, err, ← kept, ← same_setup, ← same_began) found.2;
          unread =
              let one : left.0 ≡ found.0 = same_run (start_machine stage.setup bytes) left.0 found.0 stage.desk.schedule left.1 found.1 in
              subst (λ (m : Machine). HoldsLastPart (source.held finish.input) m.input) one left.2;
          ends = rw steps is.1;
        }

    pub taken-leaves : finish.schedule.threads ≡ stage.desk.schedule
        → finish.input ≡ stage.desk.devices.input → finish.output ≡ stage.desk.devices.output → finish.errors ≡ stage.desk.devices.errors
        → Allows mode stage.desk.schedule
        → (stage.desk.schedule ≡ [] → stage.desk.devices.output ≡ before.desk.devices.output)
        → (stage.desk.schedule ≡ [] → stage.desk.devices.errors ≡ before.desk.devices.errors)
        → (finish.end ≡ ReadFault → Rises (source.fault_count before.desk.devices.input) (source.fault_count stage.desk.devices.input))
        → (finish.end ≢ ReadFault → source.fault_count stage.desk.devices.input ≡ source.fault_count before.desk.devices.input)
        → (finish.end ≡ WriteFault → Rises (output.fault_count before.desk.devices.output) (output.fault_count stage.desk.devices.output)
        ⊎ Rises (errors.fault_count before.desk.devices.errors) (errors.fault_count stage.desk.devices.errors))
        → (finish.end ≢ WriteFault → (output.fault_count stage.desk.devices.output ≡ output.fault_count before.desk.devices.output)
        × (errors.fault_count stage.desk.devices.errors ≡ errors.fault_count before.desk.devices.errors))
        → IfSome (source.held began.input) (λ bytes. HasMachine source output errors setup mode began finish bytes)
        → RunLeaves source output errors setup mode began finish
    taken-leaves steps input out err allowed no_output no_errors read_fault reads_steady write_fault writes_steady machine = record {
      allowed = rw steps allowed;
      no_output = λ empty. out ∙ (no_output (sym steps ∙ empty) ∙ old_output);
      no_errors = λ empty. err ∙ (no_errors (sym steps ∙ empty) ∙ old_errors);
      read_fault = λ is. rw (input, ← old_input) (read_fault is);
      reads_steady = λ other. rw (input, ← old_input) (reads_steady other);
      write_fault = λ is. rw (out, err, ← old_output, ← old_errors) (write_fault is);
      writes_steady = λ other. rw (out, err, ← old_output, ← old_errors) (writes_steady other);
      has_machine = machine;
      lawful = lawful_law setup finish.schedule.threads;
    }
