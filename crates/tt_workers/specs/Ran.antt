-- What a run on workers leaves.
use Rattle.std.specs.Prelude.{◌≡◌, ◌≤◌, ℕ, List, [], length, Option, Some, None, IfSome}
use Rattle.laws_runs.specs.Lawful.{Lawful}
use Rattle.tt_core.specs.Faithful.{IsFaithful, is_cut}
use Rattle.tt_core.specs.Parts.{HoldsLastPart}
use Rattle.tt_core.specs.Stage.{Began}
use Rattle.tt_devices.specs.declared.sink.Sink.{Ghosts as OfSink}
use Rattle.tt_devices.specs.declared.source.Source.{Ghosts as OfSource}
use Rattle.tt_kept.specs.declared.setup.Setup.{Setup}
use Rattle.tt_machine.specs.Machine.{Machine, Runs, start_machine}
use Rattle.tt_workers.specs.Ends.{IsEnd, ReadsCount, WritesCount, end_fault}
use Rattle.tt_workers.specs.declared.next.RunEnd.{RunEnd}
use Rattle.tt_workers.specs.declared.next.RunEnd.TheVariants.{Memory}
use Rattle.tt_workers.specs.declared.ran.Ran.{Ran}

-- how a run began: its setup, the most steps that it may take, and its devices as they were given
pub record Beginning (S K E : Type 0) : Type 0 where
  pub setup : Setup
  pub steps : ℕ
  pub devices : Began S K E

-- the end that is reported: out of memory, if there is none
abbrev pub end_or_memory : Option RunEnd → RunEnd
end_or_memory None = Memory
end_or_memory (Some end) = end

module _ {S K E : Type 0} (source : OfSource S) (output : OfSink K) (errors : OfSink E) where
  -- The steps have a run, and the machine after them is at this end. The source still holds a last part of that
  -- machine's input. The sinks got what it wrote, less at most a part of the last entry's piece if a write failed.
  pub record EndsInMachine (begun : Beginning S K E) (bytes : List ℕ) (ran : Ran S K E) : Type 0 where
    pub machine : Machine
    pub runs : Runs (start_machine begun.setup bytes) ran.schedule.threads machine
    pub faithful :
        IsFaithful (is_cut (end_fault ran.end)) (start_machine begun.setup bytes) ran.schedule.threads
        (output.got begun.devices.output) (output.got ran.output)
        (errors.got begun.devices.errors) (errors.got ran.errors) machine
    pub ends : IsEnd begun.steps ran.schedule.threads ran.end machine
    pub left : HoldsLastPart (source.held ran.input) machine.input

  -- The steps are as many as there may be at most, and nothing was written without a step. A device's count of faults
  -- rose exactly if the end says so. If the bytes of standard input are known, there is that machine. Whatever they
  -- are, the run is lawful.
  pub record IsRan (begun : Beginning S K E) (ran : Ran S K E) : Type 0 where
    pub within : length ran.schedule.threads ≤ begun.steps
    pub no_output : ran.schedule.threads ≡ [] → ran.output ≡ begun.devices.output
    pub no_errors : ran.schedule.threads ≡ [] → ran.errors ≡ begun.devices.errors
    pub reads :
        ReadsCount (Some ran.end) (source.fault_count begun.devices.input) (source.fault_count ran.input)
    pub writes :
        WritesCount (Some ran.end) (output.fault_count begun.devices.output) (output.fault_count ran.output)
        (errors.fault_count begun.devices.errors) (errors.fault_count ran.errors)
    pub in_machine : IfSome (source.held begun.devices.input) (λ bytes. EndsInMachine begun bytes ran)
    pub lawful : Lawful begun.setup ran.schedule.threads
