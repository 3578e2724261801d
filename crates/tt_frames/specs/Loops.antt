-- Loops (while(n), for(n), foreach(n), break(n), continue(n)).
use Rattle.std.specs.Prelude.{ℕ, Bool, false, if◌then◌else◌, List, [], ◌∷◌, None}
use Rattle.tt_outcomes.specs.Endings.{error_ending, fine}
use Rattle.tt_outcomes.specs.declared.ending.Ending.TheVariants.{Fine, Broke, Continued}
use Rattle.tt_evaluation.specs.Plans.{Asks, Calls, Goes}
use Rattle.tt_frames.specs.Rests.{is_empty}
use Rattle.tt_frames.specs.Units.{past_limit, spending}
use Rattle.tt_frames.specs.Vocabulary.{OnEnding, Then, ending_of, on_fine, on_truth, same_ending, setting}
use Rattle.tt_frames.specs.declared.job.Job.TheVariants as job
use Rattle.tt_frames.specs.declared.job.Purpose.TheVariants.{Condition}
use Rattle.tt_frames.specs.declared.job.Loop.{Loop}
use Rattle.tt_frames.specs.declared.job.Loop.TheVariants.{While, For, Foreach}

-- the result of a loop
abbrev pub done : Then
done = same_ending (fine [])

-- a unit, and then a turn
abbrev pub next_turn : Loop → Then
next_turn loop = spending (Goes (job.Turn loop)) (same_ending (error_ending past_limit))

-- no turn is left
abbrev pub is_over : Loop → Bool
is_over (While test body) = false
is_over (For test next body) = false
is_over (Foreach names values body) = is_empty values

-- a loop: the next turn, for which a unit is spent; there is none if foreach has no values left
abbrev pub looping : Loop → Then
looping loop = if is_over loop then done else next_turn loop

-- how a body ended: on with the loop, or out of it
abbrev pub after_body : (again : Then) → OnEnding
after_body again (Fine value) state = again state
after_body again (Continued value line) state = again state
after_body again (Broke value line) state = done state
after_body again ending state = same_ending ending state

-- how the script after a body ended: a break ends the loop
abbrev pub after_next : (again : Then) → OnEnding
after_next again (Fine value) state = again state
after_next again (Broke value line) state = done state
after_next again ending state = same_ending ending state

-- what follows a body: in for(n) a script, and then the next turn
abbrev pub following : Loop → Then
following (While test body) state = Goes (job.Loop (While test body)) state
following (Foreach names values body) state = Goes (job.Loop (Foreach names values body)) state
following (For test next body) state =
    Calls None (job.Script next) state (after_next (Goes (job.Loop (For test next body))))

-- the body of a loop, and what follows it
abbrev pub body_of : Loop → List ℕ
body_of (While test body) = body
body_of (For test next body) = body
body_of (Foreach names values body) = body

abbrev pub bodily : Loop → Then
bodily loop state = Calls None (job.Script (body_of loop)) state (after_body (following loop))

-- the values of a turn, one for each name, and then its body with the values that are left
abbrev pub assigning : (names : List (List ℕ)) → List (List ℕ) → List (List ℕ) → (body : List ℕ) → Then
assigning names [] values body state = bodily (Foreach names values body) state
assigning names (name ∷ left) [] body state = bodily (Foreach names [] body) state
assigning names (name ∷ left) (value ∷ values) body state =
    Asks (setting name value) state
    (λ got. on_fine (λ old. assigning names left values body) same_ending (ending_of got))

-- a turn
abbrev pub turning : Loop → Then
turning (While test body) state =
    Calls None (job.Expression Condition test) state (on_truth (bodily (While test body)) done)
turning (For test next body) state =
    Calls None (job.Expression Condition test) state (on_truth (bodily (For test next body)) done)
turning (Foreach names values body) state = assigning names names values body state
