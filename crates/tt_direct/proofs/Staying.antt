-- What comes next on stacks: after what has ended, and within the calls that are left.
use Rattle.std.proofs.Common.{◌≡◌, ℕ, zero, suc, ◌+◌, arith, true, false, IsTrue, List, [], ◌∷◌, ◌++◌, length, insert, append-nil}
use Rattle.std.proofs.Common.{None, refl, sym, ap, subst, ◌∙◌}
use Rattle.tt_evaluation.specs.Evaluation.{eval}
use Rattle.tt_evaluation.specs.Frames.{finish, plan_of, within}
use Rattle.tt_evaluation.specs.Plans.{Calls, Course, Ends, Goes, follow, spend, then_do, course_with_post}
use Rattle.tt_evaluation.specs.declared.stack.Pending.{Pending}
use Rattle.tt_evaluation.proofs.Evaluations.{eval_is}
use Rattle.tt_evaluation.proofs.Stacks.{came_back}
use Rattle.tt_frames.specs.Frames.{after, on_got}
use Rattle.tt_frames.specs.Tcl.{plan}
use Rattle.tt_frames.specs.Vocabulary.{OnEnding, OnValue, TclPlan, Then, on_fine}
use Rattle.tt_frames.specs.declared.job.CommandFrame.{CommandFrame}
use Rattle.tt_frames.specs.declared.job.Frame.{Frame}
use Rattle.tt_frames.specs.declared.job.Job.{Job}
use Rattle.tt_frames.specs.declared.state.Counts.{Counts}
use Rattle.tt_kept.specs.Leading.{LeadsTo}
use Rattle.tt_kept.specs.declared.kept.Kept.{Kept}
use Rattle.tt_kept.proofs.Following.{same_asked}
use Rattle.tt_outcomes.specs.declared.ending.Ending.{Ending}
use Rattle.tt_outcomes.specs.declared.ending.Ending.TheVariants.{Fine, Failed, Raised, Returned, Broke, Continued}
use Rattle.tt_outcomes.specs.declared.got.Got.{Got}
use Rattle.tt_outcomes.specs.declared.want.Want.{Want}
use Rattle.tt_direct.proofs.Remains.{leads}
use Rattle.tt_direct.specs.Leading.{GoesOn, LeadsOn, Leaves, Owes, Stays, TclMove, TclStack, on_stack, plain_call, within_calls}
use Rattle.tt_direct.specs.inside.Coming.{CalledOn, CameOn, MovedOn, is_out, is_plain, then_came}
use Rattle.tt_direct.specs.inside.Commands.{DoneOn, leaves_none, then_done}
use Rattle.tt_direct.specs.inside.Loops.{TurnedOn}
use Rattle.tt_direct.specs.declared.came.Came.{Came}
use Rattle.tt_direct.specs.declared.came.Came.TheVariants as came
use Rattle.tt_direct.specs.declared.commands.Done.{Done}
use Rattle.tt_direct.specs.declared.commands.Done.TheVariants as done
use Rattle.tt_direct.specs.declared.commands.Stop.TheVariants as stop
use Rattle.tt_direct.specs.declared.loops.Turned.{Turned}
use Rattle.tt_direct.specs.declared.loops.Turned.TheVariants as turned
use Rattle.tt_direct.specs.declared.moves.Moved.{Moved}
use Rattle.tt_direct.specs.declared.moves.Moved.TheVariants as moved

-- ---- nothing is left ----

-- a plan that remains within any calls remains on the stack
pub settled : {kept held : Kept} (rest whole : TclPlan) (stack before : TclStack)
    → GoesOn rest kept whole held → stack.calls.items ≡ before.calls.items → stack.steps ≡ before.steps
    → Stays rest stack kept whole before held
settled rest whole stack before goes same steps =
    record {
      same = same;
      leads = λ calls replies request serving asked.
          goes calls before.steps replies request serving
          (same_asked (λ gots. ap (λ (n : ℕ). within_calls rest calls n gots) steps) asked);
    }

-- the same plan
pub same_plan : (kept : Kept) (rest whole : TclPlan) (stack before : TclStack)
    → whole ≡ rest → stack.calls.items ≡ before.calls.items → stack.steps ≡ before.steps → Stays rest stack kept whole before kept
same_plan kept rest whole stack before is same steps =
    record {
      same = same;
      leads = λ calls replies request serving asked.
          same_asked (λ gots. ap (λ (p : TclPlan). within_calls p calls stack.steps gots) (sym is)
          ∙ ap (λ (n : ℕ). within_calls whole calls n gots) steps) asked;
    }

-- one after the other
pub stays_then : {kept between held : Kept} {rest middle whole : TclPlan} {stack mid before : TclStack}
    → Stays middle mid between whole before held → Stays rest stack kept middle mid between → Stays rest stack kept whole before held
stays_then first then =
    record { same = then.same ∙ first.same; leads = λ calls. leads (then.leads calls) (first.leads calls) }

pub leaves_then : {kept between held : Kept} {owed : List (Pending Frame)} {rest middle whole : TclPlan} {stack mid before : TclStack}
    → Stays middle mid between whole before held → Leaves owed rest stack kept middle mid between → Leaves owed rest stack kept whole before held
leaves_then first then =
    record {
      left = then.left;
      calls = then.calls ∙ ap (λ (c : List (Pending Frame)). c ++ then.left) first.same;
      leads = λ calls. leads (then.leads calls) (first.leads calls);
    }

pub came_then : {between held : Kept} {middle whole : TclPlan} {mid before : TclStack} (kept : Kept) (stack : TclStack) (came : Came)
    → Stays middle mid between whole before held → CameOn came stack kept middle mid between → CameOn came stack kept whole before held
came_then kept stack (came.Fine value) first then = stays_then first then
came_then kept stack (came.Ends ending) first then = (then.0, stays_then first then.1)
came_then kept stack (came.Moves next) first then = leaves_then first then

pub done_then : {between held : Kept} {middle whole : TclPlan} {mid before : TclStack} (kept : Kept) (stack : TclStack) (done : Done) (frame : CommandFrame)
    → Stays middle mid between whole before held → DoneOn done frame stack kept middle mid between → DoneOn done frame stack kept whole before held
done_then kept stack (done.Fine value) frame first then = stays_then first then
done_then kept stack (done.Stops (stop.Ended ending)) frame first then = stays_then first then
done_then kept stack (done.Stops stop.Pauses) frame first then = stays_then first then
done_then kept stack (done.Stops (stop.Needs next)) frame first then = leaves_then first then
done_then kept stack (done.Stops (stop.Calls next)) frame first then = leaves_then first then

pub turned_then : {between held : Kept} {middle whole : TclPlan} {mid before : TclStack} (kept : Kept) (stack : TclStack) (turned : Turned) (go : Then)
    → Stays middle mid between whole before held → TurnedOn turned go stack kept middle mid between → TurnedOn turned go stack kept whole before held
turned_then kept stack turned.Goes go first then = stays_then first then
turned_then kept stack (turned.Stops came) go first then = came_then kept stack came first then

pub moved_then : {between held : Kept} {middle whole : TclPlan} {mid before : TclStack} (kept : Kept) (stack : TclStack) (moved : Moved)
    → Stays middle mid between whole before held → MovedOn moved stack kept middle mid between → MovedOn moved stack kept whole before held
moved_then kept stack (moved.On next) first then = stays_then first then
moved_then kept stack (moved.Over came) first then = came_then kept stack came first then

pub called_then : {between held : Kept} {middle whole : TclPlan} {mid before : TclStack} (kept : Kept) (stack : TclStack) (came : Came) (frame : Frame)
    → Stays middle mid between whole before held → CalledOn frame came stack kept middle mid between → CalledOn frame came stack kept whole before held
called_then kept stack (came.Fine value) frame first then = stays_then first then
called_then kept stack (came.Ends ending) frame first then = (then.0, stays_then first then.1)
called_then kept stack (came.Moves next) frame first then = leaves_then first then

-- nothing was left by what came to this
pub comes : {kept held : Kept} {whole : TclPlan} {before : TclStack} (came : Came) (stack : TclStack)
    → IsTrue (is_plain came) → Stays (then_came came stack.state) stack kept whole before held → CameOn came stack kept whole before held
comes (came.Fine value) stack plain is = is
comes (came.Ends ending) stack plain is = (plain, is)
comes {kept} {held} {whole} {before} (came.Moves next) stack plain is =
    record {
      left = [];
      calls = is.same ∙ sym (append-nil before.calls.items);
      leads = λ calls. subst
          (λ (c : List (Pending Frame)). LeadsTo (within_calls (plan_of after on_got next stack.state) c stack.steps) kept
          (within_calls whole calls before.steps) held)
          (sym (append-nil calls)) (is.leads calls);
    }

pub done_on : {kept held : Kept} {whole : TclPlan} {before : TclStack} (done : Done) (frame : CommandFrame) (stack : TclStack)
    → IsTrue (leaves_none done) → Stays (then_done done frame stack.state) stack kept whole before held
    → DoneOn done frame stack kept whole before held
done_on (done.Fine value) frame stack none is = is
done_on (done.Stops (stop.Ended ending)) frame stack none is = is
done_on (done.Stops stop.Pauses) frame stack none is = is
done_on (done.Stops (stop.Needs next)) frame stack none is = let no : false ≡ true = none in absurd (cc no)
done_on (done.Stops (stop.Calls next)) frame stack none is = let no : false ≡ true = none in absurd (cc no)

-- a move that comes next on the stack
pub lands : (kept held : Kept) (came : Came) (whole : Then) (stack before : TclStack)
    → CameOn came stack kept (whole before.state) before held → LeadsOn (then_came came) stack kept whole before held
lands kept held (came.Fine value) whole stack before on =
    subst (λ (c : List (Pending Frame)). LeadsTo (within_calls (Ends (Fine value) stack.state) c stack.steps) kept (on_stack whole before) held)
    (sym on.same) (on.leads before.calls.items)
lands kept held (came.Ends ending) whole stack before on =
    subst (λ (c : List (Pending Frame)). LeadsTo (within_calls (Ends ending stack.state) c stack.steps) kept (on_stack whole before) held)
    (sym on.1.same) (on.1.leads before.calls.items)
lands kept held (came.Moves next) whole stack before on =
    subst (λ (c : List (Pending Frame)). LeadsTo (within_calls (plan_of after on_got next stack.state) c stack.steps) kept (on_stack whole before) held)
    (sym on.calls) (on.leads before.calls.items)

pub lands_as : (kept held : Kept) (came : Came) (next : TclMove) (whole : Then) (stack before : TclStack)
    → ((state : Counts) → then_came came state ≡ plan_of after on_got next state)
    → CameOn came stack kept (whole before.state) before held → LeadsOn (plan_of after on_got next) stack kept whole before held
lands_as kept held came next whole stack before is on =
    subst (λ (p : TclPlan). LeadsTo (within_calls p stack.calls.items stack.steps) kept (on_stack whole before) held) (is stack.state)
    (lands kept held came whole stack before on)

-- ---- jobs that are gone over into, and calls ----

-- a step is there, and is spent
spend_is : (n m : ℕ) (go : ℕ → Course Want Got Ending Counts) → n ≡ m + 1 → spend n go ≡ go m
spend_is n m go e = let next : n ≡ suc m = omega arith in rw next refl

-- a job that is gone over into is evaluated
pub over : (kept : Kept) (job : Job) (stack before : TclStack)
    → before.state ≡ stack.state → before.steps ≡ stack.steps + 1 → stack.calls.items ≡ before.calls.items
    → Stays (plan job stack.state) stack kept (Goes job before.state) before kept
over kept job stack before is spent same =
    record {
      same = same;
      leads = λ calls replies request serving asked.
          same_asked (λ gots. ap (finish (eval plan) after calls)
          (sym (eval_is plan job stack.state stack.steps gots)
          ∙ ap (λ (s : Counts). eval plan job s stack.steps gots) (sym is)
          ∙ sym (spend_is before.steps stack.steps (λ k. eval plan job before.state k gots) spent))) asked;
    }

-- a call that is pushed is the newest
pushed : (calls : List (Pending Frame)) (call : Pending Frame) (course : Course Want Got Ending Counts)
    → finish (eval plan) after (calls ++ call ∷ []) course ≡ finish (eval plan) after calls (within (eval plan) after call course)
pushed [] call course = refl
pushed (first ∷ calls) call course = ap (within (eval plan) after first) (pushed calls call course)

-- a step is spent within a call as without
spent_within : (frame : Frame) (job : Job) (state : Counts) (steps : ℕ) (gots : List Got)
    → within (eval plan) after (plain_call frame) (spend steps (λ m. eval plan job state m gots))
    ≡ spend steps (λ m. then_do (course_with_post None (eval plan job state m gots)) (λ o st k rest. follow (eval plan) (after frame o st) k rest))
spent_within frame job state zero gots = refl
spent_within frame job state (suc steps) gots = refl

-- a job that is called is gone over into, within its call
called_is : (frame : Frame) (job : Job) (state : Counts) (calls : List (Pending Frame)) (steps : ℕ) (gots : List Got)
    → within_calls (Goes job state) (calls ++ plain_call frame ∷ []) steps gots
    ≡ within_calls (Calls None job state (after frame)) calls steps gots
called_is frame job state calls steps gots =
    pushed calls (plain_call frame) (spend steps (λ m. eval plan job state m gots))
    ∙ ap (finish (eval plan) after calls) (spent_within frame job state steps gots)

-- what comes of it has ended, and its frame goes on
ended_in : {kept held : Kept} (ending : Ending) (frame : Frame) (job : Job) (state : Counts) (stack before : TclStack)
    → Stays (Ends ending stack.state) stack kept (Goes job state) before held
    → Stays (after frame ending stack.state) stack kept (Calls None job state (after frame)) before held
ended_in ending frame job state stack before on =
    record {
      same = on.same;
      leads = λ calls replies request serving asked.
          same_asked (λ gots. called_is frame job state calls before.steps gots)
          (on.leads (calls ++ plain_call frame ∷ []) replies request serving
          (same_asked (λ gots. came_back (eval plan) after (calls ++ plain_call frame ∷ []) calls (plain_call frame) ending stack.state
          stack.steps gots (after frame ending stack.state) refl refl) asked));
    }

appended : (calls : List (Pending Frame)) (call : Pending Frame) (left : List (Pending Frame)) → (calls ++ call ∷ []) ++ left ≡ calls ++ call ∷ left
appended [] call left = refl
appended (first ∷ calls) call left = ap (λ (c : List (Pending Frame)). first ∷ c) (appended calls call left)

pub called_on : (kept held : Kept) (came : Came) (frame : Frame) (job : Job) (state : Counts) (stack before : TclStack)
    → CameOn came stack kept (Goes job state) before held
    → CalledOn frame came stack kept (Calls None job state (after frame)) before held
called_on kept held (came.Fine value) frame job state stack before on = ended_in (Fine value) frame job state stack before on
called_on kept held (came.Ends ending) frame job state stack before on = (on.0, ended_in ending frame job state stack before on.1)
called_on kept held (came.Moves next) frame job state stack before on =
    record {
      left = on.left;
      calls = on.calls;
      leads = λ calls replies request serving asked.
          same_asked (λ gots. called_is frame job state calls before.steps gots)
          (on.leads (calls ++ plain_call frame ∷ []) replies request serving
          (same_asked (λ gots. ap (λ (c : List (Pending Frame)). within_calls (plan_of after on_got next stack.state) c stack.steps gots)
          (sym (appended calls (plain_call frame) on.left))) asked));
    }

-- ---- frames that are put down ----

put_at : (calls left : List (Pending Frame)) (call : Pending Frame) → insert (calls ++ left) (length calls) call ≡ calls ++ call ∷ left
put_at [] left call = refl
put_at (first ∷ calls) left call = ap (λ (c : List (Pending Frame)). first ∷ c) (put_at calls left call)

pub put_below : {kept held : Kept} (next : TclMove) (frame : Frame) (place : ℕ) (whole : TclPlan) (stack more before : TclStack)
    → length before.calls.items ≡ place → Owes frame (plan_of after on_got next stack.state) stack kept whole before held
    → more.calls.items ≡ insert stack.calls.items place (plain_call frame) → more.state ≡ stack.state → more.steps ≡ stack.steps
    → CameOn (came.Moves next) more kept whole before held
put_below {kept} {held} next frame place whole stack more before here on put state steps =
    record {
      left = plain_call frame ∷ on.left;
      calls = put ∙ ap (λ (n : ℕ). insert stack.calls.items n (plain_call frame)) (sym here)
          ∙ ap (λ (c : List (Pending Frame)). insert c (length before.calls.items) (plain_call frame)) on.calls
          ∙ put_at before.calls.items on.left (plain_call frame);
      leads = λ calls replies request serving asked.
          on.leads calls replies request serving
          (same_asked (λ gots. ap (λ (s : Counts). within_calls (plan_of after on_got next s) (calls ++ plain_call frame ∷ on.left) more.steps gots) state
          ∙ ap (λ (n : ℕ). within_calls (plan_of after on_got next stack.state) (calls ++ plain_call frame ∷ on.left) n gots) steps) asked);
    }

-- ---- by cases ----

pub called_fine : (kept held : Kept) (whole : TclPlan) (stack before : TclStack) (what : Came) (frame : Frame) (value : List ℕ)
    → what ≡ came.Fine value → CalledOn frame what stack kept whole before held
    → Stays (after frame (Fine value) stack.state) stack kept whole before held
called_fine kept held whole stack before what frame value is on =
    subst (λ (c : Came). CalledOn frame c stack kept whole before held) is on

pub called_ends : (kept held : Kept) (whole : TclPlan) (stack before : TclStack) (what : Came) (frame : Frame) (ending : Ending)
    → what ≡ came.Ends ending → CalledOn frame what stack kept whole before held
    → IsTrue (is_out ending) × Stays (after frame ending stack.state) stack kept whole before held
called_ends kept held whole stack before what frame ending is on =
    subst (λ (c : Came). CalledOn frame c stack kept whole before held) is on

pub called_moves : (kept held : Kept) (whole : TclPlan) (stack before : TclStack) (what : Came) (frame : Frame) (next : TclMove)
    → what ≡ came.Moves next → CalledOn frame what stack kept whole before held
    → Owes frame (plan_of after on_got next stack.state) stack kept whole before held
called_moves kept held whole stack before what frame next is on =
    subst (λ (c : Came). CalledOn frame c stack kept whole before held) is on

-- likewise, if its frame is written otherwise
pub called_moves_as : (kept held : Kept) (whole : TclPlan) (stack before : TclStack) (what : Came) (frame other : Frame) (next : TclMove)
    → frame ≡ other → what ≡ came.Moves next → CalledOn frame what stack kept whole before held
    → Owes other (plan_of after on_got next stack.state) stack kept whole before held
called_moves_as kept held whole stack before what frame other next same is on =
    subst (λ (f : Frame). Owes f (plan_of after on_got next stack.state) stack kept whole before held) same
    (called_moves kept held whole stack before what frame next is on)

-- what stays, if its plan is written otherwise
pub stays_as : {kept held : Kept} {whole : TclPlan} {before : TclStack} (rest other : TclPlan) (stack : TclStack)
    → rest ≡ other → Stays rest stack kept whole before held → Stays other stack kept whole before held
stays_as {kept} {held} {whole} {before} rest other stack is on = subst (λ (p : TclPlan). Stays p stack kept whole before held) is on

-- an ending that is no result goes out
pub goes_out : (ending : Ending) (go : OnValue) (quit : OnEnding) (state : Counts) → IsTrue (is_out ending) → on_fine go quit ending state ≡ quit ending state
goes_out (Fine value) go quit state out = let no : false ≡ true = out in absurd (cc no)
goes_out (Failed fault) go quit state out = refl
goes_out (Raised fault) go quit state out = refl
goes_out (Returned value kept) go quit state out = refl
goes_out (Broke value line) go quit state out = refl
goes_out (Continued value line) go quit state out = refl

pub done_as : (kept held : Kept) (whole : TclPlan) (stack before : TclStack) (what other : Done) (frame : CommandFrame)
    → what ≡ other → DoneOn what frame stack kept whole before held → DoneOn other frame stack kept whole before held
done_as kept held whole stack before what other frame is on = subst (λ (d : Done). DoneOn d frame stack kept whole before held) is on

-- ---- what comes, from a stack that has changed as little ----

pub came_from : (kept held : Kept) (came : Came) (middle whole : TclPlan) (stack mid before : TclStack)
    → whole ≡ middle → mid.calls.items ≡ before.calls.items → mid.steps ≡ before.steps
    → CameOn came stack kept middle mid held → CameOn came stack kept whole before held
came_from kept held came middle whole stack mid before is same steps on =
    came_then kept stack came (same_plan held middle whole mid before is same steps) on

pub done_from : (kept held : Kept) (done : Done) (frame : CommandFrame) (middle whole : TclPlan) (stack mid before : TclStack)
    → whole ≡ middle → mid.calls.items ≡ before.calls.items → mid.steps ≡ before.steps
    → DoneOn done frame stack kept middle mid held → DoneOn done frame stack kept whole before held
done_from kept held done frame middle whole stack mid before is same steps on =
    done_then kept stack done frame (same_plan held middle whole mid before is same steps) on

-- an ending or a move that is come to at once
pub comes_now : {kept held : Kept} {whole : TclPlan} {before : TclStack} (came : Came) (rest : TclPlan) (stack : TclStack)
    → IsTrue (is_plain came) → rest ≡ then_came came stack.state → Stays rest stack kept whole before held
    → CameOn came stack kept whole before held
comes_now came rest stack plain is on = comes came stack plain (stays_as rest (then_came came stack.state) stack is on)

pub done_now : {kept held : Kept} {whole : TclPlan} {before : TclStack} (done : Done) (frame : CommandFrame) (rest : TclPlan) (stack : TclStack)
    → IsTrue (leaves_none done) → rest ≡ then_done done frame stack.state → Stays rest stack kept whole before held
    → DoneOn done frame stack kept whole before held
done_now done frame rest stack none is on = done_on done frame stack none (stays_as rest (then_done done frame stack.state) stack is on)

pub moved_as : (kept held : Kept) (whole : TclPlan) (stack before : TclStack) (what other : Moved)
    → what ≡ other → MovedOn what stack kept whole before held → MovedOn other stack kept whole before held
moved_as kept held whole stack before what other is on = subst (λ (m : Moved). MovedOn m stack kept whole before held) is on

-- what stays, on a stack that differs by its state
pub stays_at : {kept held : Kept} {whole : TclPlan} {before : TclStack} (rest other : TclPlan) (stack more : TclStack)
    → rest ≡ other → more.calls.items ≡ stack.calls.items → more.steps ≡ stack.steps
    → Stays rest stack kept whole before held → Stays other more kept whole before held
stays_at {kept} rest other stack more is same steps on = stays_then on (same_plan kept other rest more stack is same steps)

-- ---- on the stack ----

pub lands_at : (kept held : Kept) (came : Came) (next : TclMove) (whole : Then) (middle : TclPlan) (stack before : TclStack)
    → ((state : Counts) → then_came came state ≡ plan_of after on_got next state) → whole before.state ≡ middle
    → CameOn came stack kept middle before held → LeadsOn (plan_of after on_got next) stack kept whole before held
lands_at kept held came next whole middle stack before is of on =
    lands_as kept held came next whole stack before is (came_from kept held came middle (whole before.state) stack before before of refl refl on)

-- the same is done next
pub same_next : (kept : Kept) (rest whole : Then) (stack before : TclStack) → whole before.state ≡ rest stack.state
    → stack.calls.items ≡ before.calls.items → stack.steps ≡ before.steps → LeadsOn rest stack kept whole before kept
same_next kept rest whole stack before is same steps =
    let on = same_plan kept (rest stack.state) (whole before.state) stack before is same steps in
    subst (λ (c : List (Pending Frame)). LeadsTo (within_calls (rest stack.state) c stack.steps) kept (on_stack whole before) kept)
    (sym on.same) (on.leads before.calls.items)

-- what was to be done is written otherwise
pub leads_of : (kept held : Kept) (rest whole other : Then) (stack before : TclStack) → whole before.state ≡ other before.state
    → LeadsOn rest stack kept whole before held → LeadsOn rest stack kept other before held
leads_of kept held rest whole other stack before is on =
    subst (λ (p : TclPlan). LeadsTo (on_stack rest stack) kept (within_calls p before.calls.items before.steps) held) is on
