-- A run on workers as contracts see it, and what ties it to the notes of the workers' passes.
use Rattle.std.specs.Prelude.{◌≡◌, ◌≤◌, ℕ, List, [], length, Option, Some, None, slice_get}
use Rattle.tt_core.specs.Stage.{Stage}
use Rattle.tt_core.specs.inside.Standing.{IsStanding}
use Rattle.tt_run.specs.Desk.{Ground}
use Rattle.tt_devices.specs.declared.sink.Sink.{Ghosts as OfSink}
use Rattle.tt_devices.specs.declared.source.Source.{Ghosts as OfSource}
use Rattle.tt_machine.specs.Machine.{Machine}
use Rattle.tt_workers.specs.Ends.{IsEnd, ReadsCount, WritesCount, fault_so_far}
use Rattle.tt_workers.specs.Ran.{Beginning}
use Rattle.tt_workers.specs.inside.Places.{AreWhere, Note}
use Rattle.tt_workers.specs.declared.next.RunEnd.{RunEnd}
use Rattle.tt_workers.specs.declared.place.Place.{Place}

-- how the run began, what it stands on, the places of its threads by number from 1, and its end if there is one
pub record Realm (S K E : Type 0) : Type 0 where
  pub begun : Beginning S K E
  pub desk : Ground S K E
  pub places : List Place
  pub end : Option RunEnd

abbrev pub stage_of : {S K E : Type 0} → Beginning S K E → Ground S K E → Stage S K E
stage_of begun desk = record { setup = begun.setup; began = begun.devices; desk = desk }

-- until the run has its end each thread is in its place, and then that end is true
abbrev pub StandsAs : {S K E : Type 0} →
    Option RunEnd → (steps : ℕ) → (schedule : List ℕ) → List (Note S K E) → List Place → Machine → Type 0
StandsAs None steps schedule notes places machine = AreWhere notes places machine
StandsAs (Some end) steps schedule notes places machine = IsEnd steps schedule end machine

module _ {S K E : Type 0} (source : OfSource S) (output : OfSink K) (errors : OfSink E) where
  -- what holds of the steps, the devices and the end, whatever the machine is
  pub record IsCounted (begun : Beginning S K E) (desk : Ground S K E) (end : Option RunEnd) : Type 0 where
    pub kept : desk.kept ≡ fault_so_far end
    pub within : length desk.schedule ≤ begun.steps
    pub no_output : desk.schedule ≡ [] → desk.devices.output ≡ begun.devices.output
    pub no_errors : desk.schedule ≡ [] → desk.devices.errors ≡ begun.devices.errors
    pub reads : ReadsCount end (source.fault_count begun.devices.input) (source.fault_count desk.devices.input)
    pub writes :
        WritesCount end (output.fault_count begun.devices.output) (output.fault_count desk.devices.output)
        (errors.fault_count begun.devices.errors) (errors.fault_count desk.devices.errors)

  -- The notes are of this run. If the bytes of standard input are known, there is the machine after the schedule. What
  -- the threads share and what the sinks got is that machine's, the threads are where places and notes say, and the
  -- end is true.
  pub record IsTied (world : Realm S K E) (notes : List (Note S K E)) : Type 0 where
    pub same_run : (index : ℕ) (note : Note S K E) →
        slice_get notes index ≡ Some note →
        note.begun ≡ world.begun
    pub counted : IsCounted world.begun world.desk world.end
    pub standing :
        IsStanding source.held output.got errors.got (stage_of world.begun world.desk)
        (StandsAs world.end world.begun.steps world.desk.schedule notes world.places)
