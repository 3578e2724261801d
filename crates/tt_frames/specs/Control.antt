-- Commands that the evaluation does itself (if(n), switch(n), catch(n), error(n), return(n), expr(n) and loops), and
-- those that ask.
use Rattle.std.specs.Prelude.{ℕ, Bool, true, false, List, [], ◌∷◌, codes, Option, Some, None}
use Rattle.tt_commands.specs.Calls.{call_of}
use Rattle.tt_control.specs.Table.{control_of}
use Rattle.tt_control.specs.declared.control.Control.{Control}
use Rattle.tt_control.specs.declared.control.Control.TheVariants as control
use Rattle.tt_outcomes.specs.Endings.{code_of, error_ending, failure, fine, number_of, text_of}
use Rattle.tt_outcomes.specs.declared.ending.Ending.{Ending}
use Rattle.tt_outcomes.specs.declared.ending.Ending.TheVariants.{Failed, Raised, Returned, Broke, Continued}
use Rattle.tt_evaluation.specs.Plans.{Calls, Goes}
use Rattle.tt_trace.specs.Lines.{trace_after}
use Rattle.tt_frames.specs.Asking.{call_then}
use Rattle.tt_frames.specs.Vocabulary.{OnEnding, Then, on_fine, on_truth, same_ending, variable_result, with_error_info}
use Rattle.tt_frames.specs.declared.job.Job.TheVariants as job
use Rattle.tt_frames.specs.declared.job.Loop.TheVariants as loop
use Rattle.tt_frames.specs.declared.job.Purpose.TheVariants.{Condition, Value}

-- the tests and bodies of if(n), and last its else: the first body whose test is true
abbrev pub clauses : List (List ℕ) → Then
clauses [] = same_ending (fine [])
clauses (otherwise ∷ []) = Goes (job.Script otherwise)
clauses (test ∷ body ∷ rest) = λ state.
    Calls None (job.Expression Condition test) state (on_truth (Goes (job.Script body)) (clauses rest))

-- catch(n)
abbrev pub caught : Option (List ℕ) → OnEnding
caught variable (Failed fault) = with_error_info fault.trace.text (variable_result variable fault.message (codes "1"))
caught variable (Raised fault) = with_error_info fault.trace.text (variable_result variable fault.message (codes "1"))
caught variable ending = variable_result variable (text_of ending) (number_of (code_of ending))

-- error(n)
abbrev pub new_error : (message : List ℕ) → Option (List ℕ) → Ending
new_error message None = error_ending message
new_error message (Some info) = Raised (failure message (trace_after info) 0)

-- the name is that of another command
abbrev pub is_other : Control → Bool
is_other control.Other = true
is_other command = false

-- what the words of a command do
abbrev pub control_then : (words : List (List ℕ)) → Control → Then
control_then words control.Other state = call_then (call_of words state.me) words state
control_then words (control.Bad message) state = same_ending (error_ending message) state
control_then words control.Break state = same_ending (Broke [] 0) state
control_then words control.Continue state = same_ending (Continued [] 0) state
control_then words (control.Return kept value) state = same_ending (Returned value kept) state
control_then words (control.Error message info) state = same_ending (new_error message info) state
control_then words (control.Catch script variable) state = Calls None (job.Script script) state (caught variable)
control_then words (control.Expr text) state = Goes (job.Expression Value text) state
control_then words (control.If rest) state = clauses rest state
control_then words (control.While test body) state = Goes (job.Loop (loop.While test body)) state
control_then words (control.For start test next body) state =
    Calls None (job.Script start) state (on_fine (λ value. Goes (job.Loop (loop.For test next body))) same_ending)
control_then words (control.Foreach names values body) state = Goes (job.Loop (loop.Foreach names values body)) state
control_then words (control.Script text) state = Goes (job.Script text) state

abbrev pub own : (words : List (List ℕ)) → Then
own words state = control_then words (control_of words) state
