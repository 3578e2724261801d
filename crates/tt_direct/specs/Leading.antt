-- Where direct evaluation leads: what is asked from where it has come to, is asked from where it began (Tcl(n)).
use Rattle.std.specs.Prelude.{ℕ, ◌≡◌, List, [], ◌∷◌, ◌++◌, None}
use Rattle.tt_evaluation.specs.Evaluation.{eval}
use Rattle.tt_evaluation.specs.Frames.{finish}
use Rattle.tt_evaluation.specs.Plans.{follow}
use Rattle.tt_evaluation.specs.declared.language.Move.{Move}
use Rattle.tt_evaluation.specs.declared.stack.Pending.{Pending}
use Rattle.tt_evaluation.specs.declared.stack.Stack.{Stack}
use Rattle.tt_frames.specs.Frames.{after}
use Rattle.tt_frames.specs.Tcl.{plan}
use Rattle.tt_frames.specs.Vocabulary.{TclPlan, Then}
use Rattle.tt_frames.specs.declared.job.Asking.{Asking}
use Rattle.tt_frames.specs.declared.job.Frame.{Frame}
use Rattle.tt_frames.specs.declared.job.Job.{Job}
use Rattle.tt_frames.specs.declared.state.Counts.{Counts}
use Rattle.tt_kept.specs.Asking.{Coming}
use Rattle.tt_kept.specs.Leading.{LeadsTo}
use Rattle.tt_kept.specs.declared.kept.Kept.{Kept}
use Rattle.tt_outcomes.specs.declared.ending.Ending.{Ending}
use Rattle.tt_outcomes.specs.declared.want.Want.{Want}

-- the stacks and the moves of an evaluation of Tcl
abbrev pub TclStack : Type 0
TclStack = Stack Counts Frame Asking

abbrev pub TclMove : Type 0
TclMove = Move Job Want Ending Frame Asking

-- what a plan comes to within these calls, the newest of which is the last, with so many steps left
abbrev pub within_calls : TclPlan → List (Pending Frame) → (steps : ℕ) → Coming
within_calls whole calls steps gots = finish (eval plan) after calls (follow (eval plan) whole steps gots)

-- a plan is what remains of a whole one, within whatever calls they lie: it asks what the whole one would ask
abbrev pub GoesOn : (rest : TclPlan) → Kept → (whole : TclPlan) → Kept → Type 0
GoesOn rest kept whole held =
    (calls : List (Pending Frame)) (steps : ℕ)
    → LeadsTo (within_calls rest calls steps) kept (within_calls whole calls steps) held

-- what is done next on a stack, within its calls
abbrev pub on_stack : Then → TclStack → Coming
on_stack go stack = within_calls (go stack.state) stack.calls.items stack.steps

-- what is done next on a stack is what remains of what was to be done on the stack before
abbrev pub LeadsOn : (rest : Then) → TclStack → Kept → (whole : Then) → (before : TclStack) → Kept → Type 0
LeadsOn rest stack kept whole before held = LeadsTo (on_stack rest stack) kept (on_stack whole before) held

-- a call that serves no post
abbrev pub plain_call : Frame → Pending Frame
plain_call frame = record { frame = frame; serves = None }

-- What comes next after an evaluation in place that has no call on the stack any more: within whatever calls it lies,
-- it is what remains of the whole.
pub record Stays
    (rest : TclPlan) (stack : TclStack) (kept : Kept)
    (whole : TclPlan) (before : TclStack) (held : Kept) : Type 0 where
  pub same : stack.calls.items ≡ before.calls.items
  pub leads :
      (calls : List (Pending Frame))
      → LeadsTo (within_calls rest calls stack.steps) kept (within_calls whole calls before.steps) held

-- What comes next after an evaluation in place that goes no further: it left calls on the stack. Within them, and
-- within the calls that it owes below them, whatever lies below those, it is what remains of the whole.
pub record Leaves
    (owed : List (Pending Frame)) (rest : TclPlan) (stack : TclStack) (kept : Kept)
    (whole : TclPlan) (before : TclStack) (held : Kept) : Type 0 where
  pub left : List (Pending Frame)
  pub calls : stack.calls.items ≡ before.calls.items ++ left
  pub leads :
      (calls : List (Pending Frame))
      → LeadsTo (within_calls rest (calls ++ (owed ++ left)) stack.steps) kept
      (within_calls whole calls before.steps) held

-- likewise, if a job was called and the frame of the call is owed
abbrev pub Owes : Frame → TclPlan → TclStack → Kept → (whole : TclPlan) → (before : TclStack) → Kept → Type 0
Owes frame = Leaves (plain_call frame ∷ [])
