-- What a run leaves, and the machine that explains it.
use Rattle.std.specs.Prelude.{◌≡◌, ◌≢◌, ◌⊎◌, ℕ, List, [], IfSome}
use Rattle.laws_runs.specs.Lawful.{Lawful}
use Rattle.tt_core.specs.Faithful.{IsFaithful, is_cut}
use Rattle.tt_core.specs.Parts.{HoldsLastPart}
use Rattle.tt_core.specs.Stage.{Began}
use Rattle.tt_devices.specs.Faults.{Rises}
use Rattle.tt_devices.specs.declared.sink.Sink.{Ghosts as OfSink}
use Rattle.tt_devices.specs.declared.source.Source.{Ghosts as OfSource}
use Rattle.tt_kept.specs.declared.setup.Setup.{Setup}
use Rattle.tt_machine.specs.Machine.{Machine, Runs, start_machine}
use Rattle.tt_session.specs.Choosing.{Allows, Chooses, Mode}
use Rattle.tt_session.specs.Ending.{EndsAs, cause_of}
use Rattle.tt_session.specs.declared.ended.Finish.{Finish}
use Rattle.tt_session.specs.declared.status.End.TheVariants.{ReadFault, WriteFault}

module _ {S K E : Type 0} (source : OfSource S) (output : OfSink K) (errors : OfSink E) where
  -- The machine after the steps: they are a run to it, chosen as the mode says; the sinks got what it wrote, less at
  -- most a part of the last entry's piece if a write failed; standard input holds a last part of its input; and it is
  -- at this end.
  pub record HasMachine (setup : Setup) (mode : Mode) (began : Began S K E) (finish : Finish S K E)
      (input : List ℕ) : Type 0 where
    pub machine : Machine
    pub ran : Runs (start_machine setup input) finish.schedule.threads machine
    pub chosen : Chooses mode (start_machine setup input) finish.schedule.threads
    pub faithful :
        IsFaithful (is_cut (cause_of finish.end)) (start_machine setup input) finish.schedule.threads
        (output.got began.output) (output.got finish.output) (errors.got began.errors) (errors.got finish.errors)
        machine
    pub unread : HoldsLastPart (source.held finish.input) machine.input
    pub ends : EndsAs finish.end mode machine finish.schedule.threads

  -- What a run leaves: the steps are some that the mode allows; without a step nothing was written; a fault ends the
  -- run, and comes of its own stream alone; if the bytes of standard input are known, there is that machine; and
  -- whatever they are, the run is lawful.
  pub record RunLeaves (setup : Setup) (mode : Mode) (began : Began S K E) (finish : Finish S K E) : Type 0 where
    pub allowed : Allows mode finish.schedule.threads
    pub no_output : finish.schedule.threads ≡ [] → finish.output ≡ began.output
    pub no_errors : finish.schedule.threads ≡ [] → finish.errors ≡ began.errors
    pub read_fault : finish.end ≡ ReadFault → Rises (source.fault_count began.input) (source.fault_count finish.input)
    pub reads_steady : finish.end ≢ ReadFault → source.fault_count finish.input ≡ source.fault_count began.input
    pub write_fault : finish.end ≡ WriteFault →
        Rises (output.fault_count began.output) (output.fault_count finish.output)
        ⊎ Rises (errors.fault_count began.errors) (errors.fault_count finish.errors)
    pub writes_steady : finish.end ≢ WriteFault →
        (output.fault_count finish.output ≡ output.fault_count began.output)
        × (errors.fault_count finish.errors ≡ errors.fault_count began.errors)
    pub has_machine : IfSome (source.held began.input) (λ input. HasMachine setup mode began finish input)
    pub lawful : Lawful setup finish.schedule.threads
