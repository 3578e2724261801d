-- How turns of loops go.
use Rattle.std.proofs.Common.{◌≡◌, ℕ, ◌+◌, IsTrue, List, Option, None, Some, refl, sym, subst, ◌∙◌}
use Rattle.tt_calls.specs.declared.request.Request.TheVariants.{Pause}
use Rattle.tt_evaluation.specs.Plans.{Asks, Calls, Goes}
use Rattle.tt_frames.specs.Frames.{after}
use Rattle.tt_frames.specs.Loops.{bodily, following, looping, next_turn, turning}
use Rattle.tt_frames.specs.Tcl.{plan}
use Rattle.tt_frames.specs.Units.{past_limit, counts_after_unit, unit_of}
use Rattle.tt_frames.specs.Vocabulary.{TclPlan, Then, same_ending}
use Rattle.tt_frames.specs.declared.job.Frame.{Frame}
use Rattle.tt_frames.specs.declared.job.Frame.TheVariants as frames
use Rattle.tt_frames.specs.declared.job.Job.{Job}
use Rattle.tt_frames.specs.declared.job.Job.TheVariants as job
use Rattle.tt_frames.specs.declared.job.Loop.{Loop}
use Rattle.tt_frames.specs.declared.job.Purpose.TheVariants.{Condition}
use Rattle.tt_frames.specs.declared.state.Counts.{Counts}
use Rattle.tt_frames.specs.declared.state.Unit.TheVariants.{Past, Pauses, Spent}
use Rattle.tt_kept.specs.declared.kept.Kept.{Kept}
use Rattle.tt_outcomes.specs.Endings.{error_ending}
use Rattle.tt_outcomes.specs.declared.want.Want.TheVariants.{Ask}
use Rattle.tt_direct.proofs.Spending.{unit_past, unit_pauses, unit_spent}
use Rattle.tt_direct.proofs.Staying.{called_on, came_from, came_then, comes, over, same_plan, stays_then}
use Rattle.tt_direct.specs.Leading.{Stays, TclStack}
use Rattle.tt_direct.specs.inside.Coming.{CalledOn, CameOn, is_plain, then_came}
use Rattle.tt_direct.specs.inside.Loops.{TurnedOn, loop_with}
use Rattle.tt_direct.specs.declared.came.Came.{Came}
use Rattle.tt_direct.specs.declared.loops.Turned.{Turned}
use Rattle.tt_direct.specs.declared.loops.Turned.TheVariants as turned

-- a loop that is no foreach is never over before its test
pub next_is : (test body : List ℕ) (next : Option (List ℕ)) (state : Counts)
    → looping (loop_with test body next) state ≡ next_turn (loop_with test body next) state
next_is test body None state = refl
next_is test body (Some next) state = refl

-- ---- a turn begins ----

-- a unit and a step are spent
pub turn_begins : (kept : Kept) (whole : Loop) (stack before : TclStack) → looping whole before.state ≡ next_turn whole before.state
    → unit_of before.state ≡ Spent → stack.state ≡ counts_after_unit before.state → before.steps ≡ stack.steps + 1 → stack.calls.items ≡ before.calls.items
    → Stays (turning whole stack.state) stack kept (looping whole before.state) before kept
turn_begins kept whole stack before next unit is spends same =
    let middle : TclStack = record before { state = stack.state } in
    stays_then
    (same_plan kept (Goes (job.Turn whole) stack.state) (looping whole before.state) middle before
    (next ∙ unit_spent (Goes (job.Turn whole)) (same_ending (error_ending past_limit)) before.state stack.state unit is) refl refl)
    (over kept (job.Turn whole) stack middle refl spends same)

-- ---- the parts of a turn ----

-- the plans of the parts
pub turning_is : (test body : List ℕ) (next : Option (List ℕ)) (state : Counts)
    → turning (loop_with test body next) state
    ≡ Calls None (job.Expression Condition test) state (after (frames.Test (loop_with test body next)))
turning_is test body None state = refl
turning_is test body (Some next) state = refl

pub bodily_is : (test body : List ℕ) (next : Option (List ℕ)) (state : Counts)
    → bodily (loop_with test body next) state ≡ Calls None (job.Script body) state (after (frames.LoopBody (loop_with test body next)))
bodily_is test body None state = refl
bodily_is test body (Some next) state = refl

pub nothing_follows : (test body : List ℕ) (next : Option (List ℕ)) (state : Counts) → next ≡ None
    → following (loop_with test body next) state ≡ Goes (job.Loop (loop_with test body next)) state
nothing_follows test body next state is = subst
    (λ (n : Option (List ℕ)). following (loop_with test body n) state ≡ Goes (job.Loop (loop_with test body n)) state) (sym is) refl

pub script_follows : (test body next : List ℕ) (some : Option (List ℕ)) (state : Counts) → some ≡ Some next
    → following (loop_with test body some) state ≡ Calls None (job.Script next) state (after (frames.LoopNext (loop_with test body some)))
script_follows test body next some state is = subst
    (λ (n : Option (List ℕ)). following (loop_with test body n) state ≡ Calls None (job.Script next) state (after (frames.LoopNext (loop_with test body n))))
    (sym is) refl

-- what comes of a part that is evaluated for a step
pub part_called : (kept held : Kept) (came : Came) (frame : Frame) (part : Job) (whole middle : TclPlan) (stack mid before : TclStack)
    → CameOn came stack kept middle mid held → middle ≡ plan part mid.state → whole ≡ Calls None part mid.state (after frame)
    → before.steps ≡ mid.steps + 1 → mid.calls.items ≡ before.calls.items
    → CalledOn frame came stack kept whole before held
part_called kept held came frame part whole middle stack mid before on is calls spent same =
    subst (λ (p : TclPlan). CalledOn frame came stack kept p before held) (sym calls)
    (called_on kept held came frame part mid.state stack before
    (came_from kept held came (Goes part mid.state) (Goes part mid.state) stack (record before { state = mid.state }) before refl refl refl
    (came_then kept stack came (over held part mid (record before { state = mid.state }) refl spent same)
    (subst (λ (p : TclPlan). CameOn came stack kept p mid held) is on))))

-- the loop goes on to its next turn
pub turned_over : {kept held : Kept} {all : TclPlan} {before : TclStack} (whole : Loop) (stack middle : TclStack)
    → stack.state ≡ middle.state → middle.steps ≡ stack.steps + 1 → stack.calls.items ≡ middle.calls.items
    → Stays (Goes (job.Loop whole) middle.state) middle kept all before held
    → Stays (looping whole stack.state) stack kept all before held
turned_over {kept} whole stack middle is spends same on = stays_then on (over kept (job.Loop whole) stack middle (sym is) spends same)

-- ---- by cases ----

pub turned_goes : (kept held : Kept) (all : TclPlan) (stack before : TclStack) (what : Turned) (go : Then)
    → what ≡ turned.Goes → TurnedOn what go stack kept all before held → Stays (go stack.state) stack kept all before held
turned_goes kept held all stack before what go is on = subst (λ (t : Turned). TurnedOn t go stack kept all before held) is on

pub turned_stops : (kept held : Kept) (all : TclPlan) (stack before : TclStack) (what : Turned) (came : Came) (go : Then)
    → what ≡ turned.Stops came → TurnedOn what go stack kept all before held → CameOn came stack kept all before held
turned_stops kept held all stack before what came go is on = subst (λ (t : Turned). TurnedOn t go stack kept all before held) is on

-- ---- a turn that doesn't begin ----

pub turn_past : (kept : Kept) (came : Came) (whole : Loop) (stack before : TclStack) → looping whole before.state ≡ next_turn whole before.state
    → unit_of before.state ≡ Past → stack.state ≡ counts_after_unit before.state → stack.steps ≡ before.steps → stack.calls.items ≡ before.calls.items
    → IsTrue (is_plain came) → same_ending (error_ending past_limit) stack.state ≡ then_came came stack.state
    → CameOn came stack kept (looping whole before.state) before kept
turn_past kept came whole stack before next unit is steps same plain ends =
    comes came stack plain
    (same_plan kept (then_came came stack.state) (looping whole before.state) stack before
    (next ∙ unit_past (Goes (job.Turn whole)) (same_ending (error_ending past_limit)) before.state stack.state unit is ∙ ends) same steps)

pub turn_pauses : (kept : Kept) (came : Came) (whole : Loop) (stack before : TclStack) → looping whole before.state ≡ next_turn whole before.state
    → unit_of before.state ≡ Pauses → stack.state ≡ counts_after_unit before.state → stack.steps ≡ before.steps → stack.calls.items ≡ before.calls.items
    → IsTrue (is_plain came) → Asks (Ask Pause) stack.state (λ got. Goes (job.Turn whole)) ≡ then_came came stack.state
    → CameOn came stack kept (looping whole before.state) before kept
turn_pauses kept came whole stack before next unit is steps same plain asks =
    comes came stack plain
    (same_plan kept (then_came came stack.state) (looping whole before.state) stack before
    (next ∙ unit_pauses (Goes (job.Turn whole)) (same_ending (error_ending past_limit)) before.state stack.state unit is ∙ asks) same steps)
