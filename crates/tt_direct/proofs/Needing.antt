-- How code goes on with what it needs.
use Rattle.std.proofs.Common.{◌≡◌, ℕ, List, [], ◌∷◌, Option, None, refl, sym, ap, subst, ◌∙◌}
use Rattle.tt_code.specs.Needs.{Needs, Refused, Script, Values, Variable}
use Rattle.tt_code.specs.Running.{needs, with_value}
use Rattle.tt_code.specs.declared.running.Running.{Running}
use Rattle.tt_evaluation.specs.Plans.{Calls, Goes}
use Rattle.tt_frames.specs.Frames.{after}
use Rattle.tt_frames.specs.Scripts.{OnValues, needing}
use Rattle.tt_frames.specs.Vocabulary.{OnEnding, TclPlan, ending_of}
use Rattle.tt_frames.specs.declared.job.Frame.{Frame}
use Rattle.tt_frames.specs.declared.job.Job.TheVariants as job
use Rattle.tt_frames.specs.declared.state.Counts.{Counts}
use Rattle.tt_kept.specs.Answering.{Answers}
use Rattle.tt_kept.specs.declared.kept.Kept.{Kept}
use Rattle.tt_outcomes.specs.Endings.{error_ending}
use Rattle.tt_outcomes.specs.declared.ending.Ending.{Ending}
use Rattle.tt_outcomes.specs.declared.got.Got.{Got}
use Rattle.tt_outcomes.specs.declared.want.Want.TheVariants.{ReadVar}
use Rattle.tt_direct.proofs.Remains.{given, goes_on, stays}
use Rattle.tt_direct.proofs.Staying.{called_on, called_then, settled, stays_as, stays_then}
use Rattle.tt_direct.specs.Leading.{GoesOn, Stays, TclStack}
use Rattle.tt_direct.specs.inside.Coming.{CalledOn, CameOn}
use Rattle.tt_direct.specs.inside.Needing.{after_ending, then_met, then_needed}
use Rattle.tt_direct.specs.declared.came.Came.{Came}
use Rattle.tt_direct.specs.declared.needs.Met.{Met}
use Rattle.tt_direct.specs.declared.needs.Met.TheVariants as met
use Rattle.tt_direct.specs.declared.needs.Needed.{Needed}
use Rattle.tt_direct.specs.declared.needs.Needed.TheVariants as needed

-- what code needs goes on so, whatever it is part of
abbrev pub NeedsMore : (now : Running) → Kept → (began : Running) → Kept → Type 0
NeedsMore now kept began held =
    (finish : OnValues) (quit : OnEnding) (state : Counts)
    → GoesOn (needing finish quit (needs now) state) kept (needing finish quit (needs began) state) held

-- likewise what follows one thing that it needs
abbrev pub NeedsOne : Needed → (now : Running) → Kept → (began : Running) → Kept → Type 0
NeedsOne what now kept began held =
    (finish : OnValues) (quit : OnEnding) (state : Counts)
    → GoesOn (then_needed what now finish quit state) kept (needing finish quit (needs began) state) held

-- and what follows all of it
abbrev pub Meets : Met → (now : Running) → Kept → (began : Running) → Kept → Type 0
Meets what now kept began held =
    (finish : OnValues) (quit : OnEnding) (state : Counts)
    → GoesOn (then_met what now finish quit state) kept (needing finish quit (needs began) state) held

pub needs_first : (running : Running) (kept : Kept) → NeedsMore running kept running kept
needs_first running kept finish quit state =
    stays (needing finish quit (needs running) state) (needing finish quit (needs running) state) kept refl

pub needs_next : {kept between held : Kept} (now middle began : Running)
    → NeedsOne needed.Given now kept middle between → NeedsMore middle between began held → NeedsMore now kept began held
needs_next now middle began one more finish quit state =
    goes_on (needing finish quit (needs now) state) (needing finish quit (needs middle) state) (needing finish quit (needs began) state)
    (one finish quit state) (more finish quit state)

pub met_after : {kept between held : Kept} (what : Met) (now middle began : Running)
    → NeedsOne (needed.Met what) now kept middle between → NeedsMore middle between began held → Meets what now kept began held
met_after what now middle began one more finish quit state =
    goes_on (then_met what now finish quit state) (needing finish quit (needs middle) state) (needing finish quit (needs began) state)
    (one finish quit state) (more finish quit state)

-- a variable is read
pub read_on : (what : Needed) (began middle now : Running) (name : List ℕ) (index : Option (List ℕ)) (got : Got) (ending : Ending) (kept held : Kept)
    → needs began ≡ Variable name index (with_value middle) → Answers (ReadVar name index) held got kept → ending ≡ ending_of got
    → ((finish : OnValues) (quit : OnEnding) (state : Counts) → after_ending middle finish quit ending state ≡ then_needed what now finish quit state)
    → NeedsOne what now kept began held
read_on what began middle now name index got ending kept held is gives same gave finish quit state =
    subst (λ (p : TclPlan). GoesOn p kept (needing finish quit (needs began) state) held) (gave finish quit state)
    (subst (λ (e : Ending). GoesOn (after_ending middle finish quit e state) kept (needing finish quit (needs began) state) held) (sym same)
    (subst (λ (n : Needs). GoesOn (after_ending middle finish quit (ending_of got) state) kept (needing finish quit n state) held) (sym is)
    (given (ReadVar name index) state (λ g. after_ending middle finish quit (ending_of g)) got kept held gives)))

-- it needs a script, has an error, or its values
pub script_on : (began now : Running) (text : List ℕ) (kept : Kept) → needs began ≡ Script text (with_value now)
    → NeedsOne (needed.Met (met.Script text)) now kept began kept
script_on began now text kept is finish quit state =
    stays (then_met (met.Script text) now finish quit state) (needing finish quit (needs began) state) kept
    (ap (λ (n : Needs). needing finish quit n state) is)

pub refused_on : (began now : Running) (message : List ℕ) (ending : Ending) (kept : Kept) → needs began ≡ Refused message → ending ≡ error_ending message
    → NeedsOne (needed.Met (met.Quit ending)) now kept began kept
refused_on began now message ending kept is same finish quit state =
    stays (quit ending state) (needing finish quit (needs began) state) kept
    (ap (λ (n : Needs). needing finish quit n state) is ∙ ap (λ (e : Ending). quit e state) (sym same))

pub value_on : (began now : Running) (value : List ℕ) (kept : Kept) → needs began ≡ Values (value ∷ [])
    → NeedsOne (needed.Met (met.Value value)) now kept began kept
value_on began now value kept is finish quit state =
    stays (finish (value ∷ []) state) (needing finish quit (needs began) state) kept (ap (λ (n : Needs). needing finish quit n state) is)

-- ---- on stacks ----

-- what is met follows, on the stack
pub met_as : {kept held first : Kept} {whole : TclPlan} {before : TclStack} (what : Met) (now began : Running) (finish : OnValues) (quit : OnEnding)
    (plan : TclPlan) (stack : TclStack)
    → Meets what now kept began held → then_met what now finish quit stack.state ≡ plan
    → Stays (needing finish quit (needs began) stack.state) stack held whole before first
    → Stays plan stack kept whole before first
met_as {kept} {held} what now began finish quit plan stack meets is on =
    stays_as (then_met what now finish quit stack.state) plan stack is
    (stays_then on (settled (then_met what now finish quit stack.state) (needing finish quit (needs began) stack.state) stack stack
    (meets finish quit stack.state) refl refl))

-- the script that is needed is called
pub script_called : {held first : Kept} {whole : TclPlan} {before : TclStack} (new kept : Kept) (what : Met) (now began : Running)
    (finish : OnValues) (quit : OnEnding) (frame : Frame) (text : List ℕ) (came : Came) (stack middle : TclStack)
    → Meets what now kept began held → what ≡ met.Script text → after_ending now finish quit ≡ after frame
    → Stays (needing finish quit (needs began) middle.state) middle held whole before first
    → CameOn came stack new (Goes (job.Script text) middle.state) middle kept
    → CalledOn frame came stack new whole before first
script_called new kept what now began finish quit frame text came stack middle meets is same on goes =
    called_then new stack came frame
    (met_as what now began finish quit (Calls None (job.Script text) middle.state (after frame)) middle meets
    (ap (λ (m : Met). then_met m now finish quit middle.state) is
    ∙ ap (λ (go : OnEnding). Calls None (job.Script text) middle.state go) same) on)
    (called_on new kept came frame (job.Script text) middle.state stack middle goes)
