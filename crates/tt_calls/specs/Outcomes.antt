-- Outcomes that are made (return(n), catch(n)).
use Rattle.std.specs.Prelude.{ℕ, List, []}
use Rattle.tt_calls.specs.declared.outcome.Code.TheVariants.{Fine, Failed}
use Rattle.tt_calls.specs.declared.outcome.Outcome.{Outcome}

-- an evaluation that ran to its end, with this result
abbrev pub fine : List ℕ → Outcome
fine value = record { code = Fine; value = value; trace = []; kept = Fine }

-- an evaluation that ended with this error, whose trace begins with its message
abbrev pub error_outcome : List ℕ → Outcome
error_outcome message = record { code = Failed; value = message; trace = message; kept = Fine }
