-- Nested evaluations: bodies of procedures, eval(n) and uplevel(n), and scripts at global level (thread(n)).
use Rattle.std.specs.Prelude.{ℕ, ◌+◌, ◌-◌, nat_lt, if◌then◌else◌, List, codes, None}
use Rattle.tt_outcomes.specs.Endings.{error_ending}
use Rattle.tt_outcomes.specs.Places.{of_procedure}
use Rattle.tt_outcomes.specs.declared.ending.Ending.{Ending}
use Rattle.tt_evaluation.specs.Plans.{Asks, Calls, Goes}
use Rattle.tt_outcomes.specs.declared.want.Body.{Body}
use Rattle.tt_outcomes.specs.declared.want.Body.TheVariants as body
use Rattle.tt_outcomes.specs.declared.want.Want.TheVariants.{Enter, Leave}
use Rattle.tt_frames.specs.Vocabulary.{OnEnding, Then, same_ending}
use Rattle.tt_frames.specs.declared.job.Job.TheVariants as job
use Rattle.tt_frames.specs.declared.state.Counts.{Counts}
use Rattle.tt_frames.specs.declared.state.TheConstants.{DEEPEST}

abbrev pub deeper : Counts → Counts
deeper state = record state { nested = state.nested + 1 }

abbrev pub shallower : Counts → Counts
shallower state = record state { nested = state.nested - 1 }

-- the error past the limit
abbrev pub too_deep : List ℕ
too_deep = codes "too many nested evaluations (infinite loop?)"

-- how a body's evaluation ends, by how the body did: a procedure takes a return
abbrev pub of_body : Body → Ending → Ending
of_body (body.Procedure name) ending = of_procedure name ending
of_body body ending = ending

-- a body is left, and then that is the ending
abbrev pub leaving : Body → Ending → Then
leaving body ending state = Asks (Leave body) state (λ got. same_ending ending)

abbrev pub left : Body → OnEnding
left body ending state = leaving body (of_body body ending) (shallower state)

-- a body in a nested evaluation; past the limit it is left at once
abbrev pub body_then : Body → (text : List ℕ) → Then
body_then body text state =
    if nat_lt state.nested DEEPEST
    then Calls None (job.Script text) (deeper state) (left body)
    else leaving body (error_ending too_deep) state

-- a script at global level
abbrev pub global : (text : List ℕ) → Then
global text state = Asks Enter state (λ got. Goes (job.Nested body.Global text))
