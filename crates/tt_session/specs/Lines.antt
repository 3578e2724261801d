-- What a call puts last on standard error: its status line, and the bytes of its report.
use Rattle.std.specs.Prelude.{◌≡◌, ◌⊎◌, ℕ, List, [], ◌∷◌, ◌++◌, codes}
use Rattle.std.specs.Fmt.{decimal}
use Rattle.tt_devices.specs.Faults.{Rises}
use Rattle.tt_devices.specs.Streams.{Grows, GrowsByPart}
use Rattle.tt_devices.specs.declared.sink.Sink.{Ghosts as OfSink}
use Rattle.tt_session.specs.declared.status.Place.TheVariants.{Byte, Entry}
use Rattle.tt_session.specs.declared.status.Status.{Status}
use Rattle.tt_session.specs.declared.status.Status.TheVariants.{Done, Usage, NoFile, BadSchedule, TooLong}
use Rattle.tt_session.specs.declared.status.Status.TheVariants.{ScheduleEnded, Stalled, StepLimit}
use Rattle.tt_session.specs.declared.status.Status.TheVariants.{ReadFault, WriteFault, NoMemory}

-- a line: the program's name, what is reported, and a newline
abbrev pub program_line : (message : List ℕ) → List ℕ
program_line message = codes "tclthread: " ++ (message ++ (10 ∷ []))

-- the line of each status; a run that is over has none
abbrev pub line_of : Status → List ℕ
line_of (Done code) = []
line_of Usage =
    program_line (codes "usage: tclthread [--workers N] [--steps N] [--limit N] [--record FILE]" ++
    codes " [--replay FILE] [--generate NUMBER] [--waits] [--races] [--debug FILE] SCRIPT [ARG ...]")
line_of (NoFile name) = program_line (codes "no file " ++ name)
line_of (BadSchedule (Byte offset)) = program_line (codes "bad schedule at byte " ++ decimal offset)
line_of (BadSchedule (Entry number)) = program_line (codes "bad schedule at entry " ++ decimal number)
line_of (TooLong entries) = program_line (codes "schedule longer than 10000")
line_of ScheduleEnded = program_line (codes "schedule ended")
line_of Stalled = program_line (codes "stalled")
line_of (StepLimit steps) = program_line (codes "step limit " ++ decimal steps)
line_of ReadFault = program_line (codes "read fault")
line_of WriteFault = program_line (codes "write fault")
line_of NoMemory = program_line (codes "no memory")

module _ {E : Type 0} (errors : OfSink E) where
  -- there is nothing to put, or standard error failed before: its count of faults was this when the call began
  abbrev pub IsSilent : (before : ℕ) → (bytes : List ℕ) → E → Type 0
  IsSilent before bytes sink = (bytes ≡ []) ⊎ Rises before (errors.fault_count sink)

  -- the line of a call, and then these bytes, are put last on standard error, as far as that takes them
  pub data PutsLine (before : ℕ) (status : Status) (more : List ℕ) (old new : E) : Type 0 where
    silent : IsSilent before (line_of status ++ more) old → new ≡ old → PutsLine before status more old new
    whole : ¬ IsSilent before (line_of status ++ more) old →
        Grows (errors.got old) (errors.got new) (line_of status ++ more) →
        errors.fault_count new ≡ errors.fault_count old → PutsLine before status more old new
    -- a first part of them, if standard error fails then
    part : ¬ IsSilent before (line_of status ++ more) old →
        GrowsByPart (errors.got old) (errors.got new) (line_of status ++ more) →
        Rises (errors.fault_count old) (errors.fault_count new) → PutsLine before status more old new
