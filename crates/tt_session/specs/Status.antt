-- How a call of the program ends, and its exit codes.
use Rattle.std.specs.Prelude.{ℕ}
use Rattle.tt_session.specs.declared.status.End.{End}
use Rattle.tt_session.specs.declared.status.End.TheVariants as ends
use Rattle.tt_session.specs.declared.status.Place.TheVariants.{Byte, Entry}
use Rattle.tt_session.specs.declared.status.Refusal.{Refusal}
use Rattle.tt_session.specs.declared.status.Refusal.TheVariants as refusal
use Rattle.tt_session.specs.declared.status.Status.{Status}
use Rattle.tt_session.specs.declared.status.Status.TheVariants.{Done, Usage, NoFile, BadSchedule, TooLong}
use Rattle.tt_session.specs.declared.status.Status.TheVariants.{ScheduleEnded, Stalled, StepLimit}
use Rattle.tt_session.specs.declared.status.Status.TheVariants.{ReadFault, WriteFault, NoMemory}

-- the exit code of each status
abbrev pub exit_of : Status → ℕ
exit_of (Done code) = code
exit_of Usage = 106
exit_of (NoFile name) = 107
exit_of (BadSchedule place) = 108
exit_of (TooLong entries) = 111
exit_of ScheduleEnded = 109
exit_of Stalled = 101
exit_of (StepLimit steps) = 102
exit_of ReadFault = 104
exit_of WriteFault = 105
exit_of NoMemory = 103

-- the status of a call whose run ended so
abbrev pub ended_status : End → Status
ended_status (ends.Done code) = Done code
ended_status ends.ScheduleEnded = ScheduleEnded
ended_status (ends.Barred entry) = BadSchedule (Entry entry)
ended_status ends.Stalled = Stalled
ended_status (ends.StepLimit steps) = StepLimit steps
ended_status ends.ReadFault = ReadFault
ended_status ends.WriteFault = WriteFault
ended_status ends.NoMemory = NoMemory

-- the status of a call without a run, by what was wrong
abbrev pub refused_status : Refusal → Status
refused_status refusal.Usage = Usage
refused_status (refusal.NoFile name) = NoFile name
refused_status (refusal.BadText offset) = BadSchedule (Byte offset)
refused_status (refusal.TooLong entries) = TooLong entries
refused_status refusal.ReadFault = ReadFault
refused_status refusal.NoMemory = NoMemory
