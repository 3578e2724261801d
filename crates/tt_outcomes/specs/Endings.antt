-- How evaluations end (return(n), catch(n), error(n)).
use Rattle.std.specs.Prelude.{ℕ, List, [], codes}
use Rattle.tt_calls.specs.declared.outcome.Code.{Code}
use Rattle.tt_calls.specs.declared.outcome.Code.TheVariants as code
use Rattle.tt_calls.specs.declared.outcome.Outcome.{Outcome}
use Rattle.tt_trace.specs.Lines.{TraceText, new_trace, trace_after}
use Rattle.tt_outcomes.specs.declared.ending.Ending.{Ending}
use Rattle.tt_outcomes.specs.declared.ending.Ending.TheVariants.{Fine, Failed, Raised, Returned, Broke, Continued}
use Rattle.tt_outcomes.specs.declared.ending.Failure.{Failure}

-- it ran to its end
abbrev pub fine : (value : List ℕ) → Ending
fine value = Fine value

-- an error, with a trace, at a line
abbrev pub failure : (message : List ℕ) → (trace : TraceText) → (line : ℕ) → Failure
failure message trace line = record { message = message; trace = trace; line = line }

-- a new error
abbrev pub error_ending : (message : List ℕ) → Ending
error_ending message = Failed (failure message (new_trace message) 0)

-- what a command does that hands on how something else ended: an error goes on with its trace
abbrev pub with_code : Code → (value trace : List ℕ) → (kept : Code) → Ending
with_code code.Fine value trace kept = Fine value
with_code code.Failed value trace kept = Failed (failure value (trace_after trace) 0)
with_code code.Returned value trace kept = Returned value kept
with_code code.Broke value trace kept = Broke value 0
with_code code.Continued value trace kept = Continued value 0

abbrev pub of_outcome : Outcome → Ending
of_outcome outcome = with_code outcome.code outcome.value outcome.trace outcome.kept

-- the code of an ending (catch(n))
abbrev pub code_of : Ending → Code
code_of (Fine value) = code.Fine
code_of (Failed failure) = code.Failed
code_of (Raised failure) = code.Failed
code_of (Returned value kept) = code.Returned
code_of (Broke value line) = code.Broke
code_of (Continued value line) = code.Continued

-- the result, or the message of the error
abbrev pub text_of : Ending → List ℕ
text_of (Fine value) = value
text_of (Failed failure) = failure.message
text_of (Raised failure) = failure.message
text_of (Returned value kept) = value
text_of (Broke value line) = value
text_of (Continued value line) = value

-- the trace of an error
abbrev pub trace_of : Ending → List ℕ
trace_of (Failed failure) = failure.trace.text
trace_of (Raised failure) = failure.trace.text
trace_of ending = []

-- the code that a return keeps
abbrev pub code_of_return : Ending → Code
code_of_return (Returned value kept) = kept
code_of_return ending = code.Fine

-- the outcome that other threads see
abbrev pub outcome_of : Ending → Outcome
outcome_of ending =
    record { code = code_of ending; value = text_of ending; trace = trace_of ending; kept = code_of_return ending }

-- the numbers of the codes (catch(n))
abbrev pub number_of : Code → List ℕ
number_of code.Fine = codes "0"
number_of code.Failed = codes "1"
number_of code.Returned = codes "2"
number_of code.Broke = codes "3"
number_of code.Continued = codes "4"

-- the answer of a command that has no trace of its own: an error is a new one
abbrev pub with_answer : Code → (value : List ℕ) → Ending
with_answer code.Fine value = Fine value
with_answer code value = error_ending value

abbrev pub of_value : Outcome → Ending
of_value outcome = with_answer outcome.code outcome.value
