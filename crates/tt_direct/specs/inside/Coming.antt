-- What comes of an evaluation in place (Tcl(n)).
use Rattle.std.specs.Prelude.{Bool, true, false, IsTrue, []}
use Rattle.tt_evaluation.specs.Frames.{plan_of}
use Rattle.tt_evaluation.specs.Plans.{Ends}
use Rattle.tt_frames.specs.Frames.{after, on_got}
use Rattle.tt_frames.specs.Vocabulary.{TclPlan, Then, same_ending}
use Rattle.tt_frames.specs.declared.job.Frame.{Frame}
use Rattle.tt_kept.specs.declared.kept.Kept.{Kept}
use Rattle.tt_outcomes.specs.declared.ending.Ending.{Ending}
use Rattle.tt_outcomes.specs.declared.ending.Ending.TheVariants.{Fine}
use Rattle.tt_direct.specs.Leading.{Leaves, Owes, Stays, TclStack}
use Rattle.tt_direct.specs.declared.came.Came.{Came}
use Rattle.tt_direct.specs.declared.came.Came.TheVariants as came
use Rattle.tt_direct.specs.declared.moves.Moved.{Moved}
use Rattle.tt_direct.specs.declared.moves.Moved.TheVariants as moved

-- what follows it
abbrev pub then_came : Came → Then
then_came (came.Fine value) = same_ending (Fine value)
then_came (came.Ends ending) = same_ending ending
then_came (came.Moves next) = plan_of after on_got next

-- an ending is not a result
abbrev pub is_out : Ending → Bool
is_out (Fine value) = false
is_out ending = true

-- what came has its result apart from its other endings
abbrev pub is_plain : Came → Bool
is_plain (came.Ends ending) = is_out ending
is_plain came = true

-- what comes of a plan on a stack: an ending, or a move within the calls that are left for it
abbrev pub CameOn : Came → TclStack → Kept → (whole : TclPlan) → (before : TclStack) → Kept → Type 0
CameOn (came.Fine value) stack kept whole before held =
    Stays (Ends (Fine value) stack.state) stack kept whole before held
CameOn (came.Ends ending) stack kept whole before held =
    IsTrue (is_out ending) × Stays (Ends ending stack.state) stack kept whole before held
CameOn (came.Moves next) stack kept whole before held =
    Leaves [] (plan_of after on_got next stack.state) stack kept whole before held

-- what comes of a job that was called: its frame goes on, or is owed
abbrev pub CalledOn : Frame → Came → TclStack → Kept → (whole : TclPlan) → (before : TclStack) → Kept → Type 0
CalledOn frame (came.Fine value) stack kept whole before held =
    Stays (after frame (Fine value) stack.state) stack kept whole before held
CalledOn frame (came.Ends ending) stack kept whole before held =
    IsTrue (is_out ending) × Stays (after frame ending stack.state) stack kept whole before held
CalledOn frame (came.Moves next) stack kept whole before held =
    Owes frame (plan_of after on_got next stack.state) stack kept whole before held

-- what comes of a move: another one, or what came of it all
abbrev pub MovedOn : Moved → TclStack → Kept → (whole : TclPlan) → (before : TclStack) → Kept → Type 0
MovedOn (moved.On next) stack kept whole before held =
    Stays (plan_of after on_got next stack.state) stack kept whole before held
MovedOn (moved.Over came) stack kept whole before held = CameOn came stack kept whole before held
