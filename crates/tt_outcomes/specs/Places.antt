-- What commands, procedures and scripts make of an ending that goes out of them (proc(n), return(n), break(n)).
use Rattle.std.specs.Prelude.{ℕ, ◌-◌, List, codes, drop, take}
use Rattle.tt_calls.specs.declared.outcome.Code.{Code}
use Rattle.tt_calls.specs.declared.outcome.Code.TheVariants as code
use Rattle.tt_trace.specs.Lines.{line_at, new_trace, with_command, with_procedure}
use Rattle.tt_outcomes.specs.Endings.{error_ending, failure}
use Rattle.tt_outcomes.specs.declared.ending.Ending.{Ending}
use Rattle.tt_outcomes.specs.declared.ending.Ending.TheVariants.{Fine, Failed, Raised, Returned, Broke, Continued}
use Rattle.tt_outcomes.specs.declared.ending.Failure.{Failure}

-- ---- a command ----

-- the text of a command, from its first word to its last
abbrev pub command_text : (text : List ℕ) → (start end : ℕ) → List ℕ
command_text text start end = take (end - start) (drop start text)

-- an error that a command ended with: the command has its line in the trace
abbrev pub within : Failure → (text : List ℕ) → (start end : ℕ) → Failure
within fault text start end =
    failure fault.message (with_command fault.trace (command_text text start end)) (line_at text start)

-- how a command ended, seen from its script
abbrev pub in_command : (text : List ℕ) → (start end : ℕ) → Ending → Ending
in_command text start end (Fine value) = Fine value
in_command text start end (Failed fault) = Failed (within fault text start end)
in_command text start end (Raised fault) = Failed (failure fault.message fault.trace (line_at text start))
in_command text start end (Returned value kept) = Returned value kept
in_command text start end (Broke value line) = Broke value (line_at text start)
in_command text start end (Continued value line) = Continued value (line_at text start)

-- ---- a procedure ----

-- a break or continue that no loop takes
abbrev pub outside_message : Code → List ℕ
outside_message code.Continued = codes "invoked \"continue\" outside of a loop"
outside_message code = codes "invoked \"break\" outside of a loop"

abbrev pub outside : Code → Failure
outside code = failure (outside_message code) (new_trace (outside_message code)) 0

-- an error in the body of a procedure, at a line of it
abbrev pub outside_in : Failure → (name : List ℕ) → (line : ℕ) → Ending
outside_in fault name line = Failed (failure fault.message (with_procedure fault.trace name line) 0)

-- a return, by the code that it kept
abbrev pub of_returned : (value : List ℕ) → (kept : Code) → Ending
of_returned value code.Fine = Fine value
of_returned value code.Failed = error_ending value
of_returned value code.Returned = Returned value code.Fine
of_returned value code.Broke = Broke value 0
of_returned value code.Continued = Continued value 0

-- how a procedure ends, by how its body ended
abbrev pub of_procedure : (name : List ℕ) → Ending → Ending
of_procedure name (Fine value) = Fine value
of_procedure name (Failed fault) = outside_in fault name fault.line
of_procedure name (Raised fault) = outside_in fault name fault.line
of_procedure name (Returned value kept) = of_returned value kept
of_procedure name (Broke value line) = outside_in (outside code.Broke) name line
of_procedure name (Continued value line) = outside_in (outside code.Continued) name line

-- ---- a script ----

-- how a script ends that a thread begins with, or that an event brings
abbrev pub of_script : Ending → Ending
of_script (Fine value) = Fine value
of_script (Failed fault) = Failed fault
of_script (Raised fault) = Failed fault
of_script (Returned value kept) = Fine value
of_script (Broke value line) = Failed (outside code.Broke)
of_script (Continued value line) = Failed (outside code.Continued)
