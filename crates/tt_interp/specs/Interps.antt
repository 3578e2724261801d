-- What an interpreter stands for: what its thread asks after further replies (thread(n)).
use Rattle.std.specs.Prelude.{ℕ, pos, ◌≡◌, Bool, true, false, IsTrue, ⊤, List, [], ◌∷◌, Option, Some, None}
use Rattle.tt_calls.specs.declared.reply.Reply.{Reply}
use Rattle.tt_calls.specs.declared.request.Request.{Request}
use Rattle.tt_calls.specs.declared.request.Request.TheVariants as ask
use Rattle.tt_calls.specs.declared.start.Start.{Start}
use Rattle.tt_outcomes.specs.declared.ending.Ending.{Ending}
use Rattle.tt_frames.specs.Frames.{after, on_got}
use Rattle.tt_frames.specs.Tcl.{plan}
use Rattle.tt_frames.specs.Units.{fresh}
use Rattle.tt_frames.specs.declared.job.Asking.{Asking}
use Rattle.tt_frames.specs.declared.job.Frame.{Frame}
use Rattle.tt_frames.specs.declared.job.Job.TheVariants as job
use Rattle.tt_frames.specs.declared.state.Counts.{Counts}
use Rattle.tt_evaluation.specs.Evaluation.{eval}
use Rattle.tt_evaluation.specs.Frames as frames
use Rattle.tt_evaluation.specs.Frames.{after_answer, from_halt, is_waiting}
use Rattle.tt_evaluation.specs.declared.stack.Halt.{Halt}
use Rattle.tt_evaluation.specs.declared.stack.Halt.TheVariants.{Wants, Ended}
use Rattle.tt_evaluation.specs.declared.stack.Stack.{Stack}
use Rattle.tt_evaluation.specs.declared.stack.TheConstants.{STEPS}
use Rattle.tt_outcomes.specs.declared.got.Got.{Got}
use Rattle.tt_outcomes.specs.declared.want.Want.{Want}
use Rattle.tt_outcomes.specs.declared.want.Want.TheVariants.{Ask}
use Rattle.tt_kept.specs.Asking.{AsksNext, Coming, end_of, goes_on}
use Rattle.tt_kept.specs.Beginning.{IsNext}
use Rattle.tt_interp.specs.declared.interp.Standing.{Standing}
use Rattle.tt_interp.specs.declared.interp.Standing.TheVariants as standing
use Rattle.tt_kept.specs.declared.kept.Kept.{Kept}
use Rattle.tt_hosting.specs.Hosting as hosting
use Rattle.tt_hosting.specs.declared.driving.Reached.{Reached}
use Rattle.tt_hosting.specs.declared.driving.Reached.TheVariants as reached
use Rattle.tt_kept.specs.declared.setup.Setup.{Setup}

-- an interpreter: what it keeps, and where its evaluation stands
pub record Interpreter : Type 0 where
  pub kept : Kept
  pub standing : Standing

-- what a stack comes to from where it halted
abbrev pub coming_of : Halt Want Ending → Stack Counts Frame Asking → Coming
coming_of halt stack gots = from_halt plan after on_got halt stack gots

-- what an evaluation comes to from where it stands
abbrev pub coming : Standing → Coming
coming (standing.Fresh start me limit) gots = eval plan (job.Start start) (fresh me limit) STEPS gots
coming (standing.Asks stack request) gots = coming_of (Wants (Ask request)) stack gots
coming (standing.Over stack ending) gots = coming_of (Ended ending) stack gots

-- an interpreter asks this after further replies, while it serves these posts
abbrev pub InterpAsks : Interpreter → List Reply → Request → (serving : List ℕ) → Type 0
InterpAsks interpreter replies request serving =
    AsksNext (coming interpreter.standing) interpreter.kept replies request serving

-- it stands for a thread that has got no reply
abbrev pub StandsFor : Interpreter → Setup → (me : ℕ) → Start → Type 0
StandsFor interpreter setup me start =
    (replies : List Reply) (request : Request) (serving : List ℕ) →
    InterpAsks interpreter replies request serving →
    IsNext setup me start replies request serving

-- nothing is evaluated
abbrev pub is_fresh : Standing → Bool
is_fresh (standing.Fresh start me limit) = true
is_fresh other = false

-- it stands at a request, with what waits for the reply, or at its end
abbrev pub is_halted : Standing → Bool
is_halted (standing.Fresh start me limit) = false
is_halted (standing.Asks stack request) = is_waiting stack
is_halted (standing.Over stack ending) = true

-- what is given when it is resumed: nothing at first, and then the reply to a request, if one can come
abbrev pub fits : Standing → Option Reply → Bool
fits (standing.Fresh start me limit) None = true
fits (standing.Asks stack request) (Some reply) = goes_on request
fits standing reply = false

-- the replies with the one that is given
abbrev pub with_given : Option Reply → List Reply → List Reply
with_given None replies = replies
with_given (Some reply) replies = reply ∷ replies

-- what is asked from one place on, is asked from the other one on after what is given
abbrev pub GoesOnFrom : Coming → Kept → Coming → Kept → Option Reply → Type 0
GoesOnFrom later kept before held given =
    (replies : List Reply) (request : Request) (serving : List ℕ) →
    AsksNext later kept replies request serving →
    AsksNext before held (with_given given replies) request serving

-- an interpreter stands where the other one stands after what is given
abbrev pub GoesOn : (new old : Interpreter) → Option Reply → Type 0
GoesOn new old given = GoesOnFrom (coming new.standing) new.kept (coming old.standing) old.kept given

-- the posts that are being served
abbrev pub serving_of : Standing → List ℕ
serving_of (standing.Asks stack request) = frames.serving stack
serving_of other = []

-- the units that are spent
abbrev pub units_of : Standing → ℕ
units_of (standing.Fresh start me limit) = 0
units_of (standing.Asks stack request) = stack.state.units
units_of (standing.Over stack ending) = stack.state.units

-- what is asked where it halts: a request, or at its end the last one
abbrev pub request_of : Standing → Request
request_of (standing.Fresh start me limit) = ask.End (pos 0)
request_of (standing.Asks stack request) = request
request_of (standing.Over stack ending) = end_of ending

-- ---- inside ----

-- it waits where it asks
abbrev pub Waits : Standing → Type 0
Waits (standing.Asks stack request) = IsTrue (is_waiting stack)
Waits other = ⊤

-- the last request is that of its ending
abbrev pub IsLast : Standing → Request → Type 0
IsLast (standing.Over stack ending) last = last ≡ end_of ending
IsLast other last = ⊤

pub record IsStanding (standing : Standing) (last : Request) : Type 0 where
  pub waits : Waits standing
  pub ends : IsLast standing last

-- what a stack that waits comes to after what it gets
abbrev pub after_got : Stack Counts Frame Asking → Got → Coming
after_got stack got gots = after_answer plan after on_got stack got gots

-- what a stack comes to from where it was reached, and where the evaluation stands with it
abbrev pub from_reached : Reached Request Ending → Stack Counts Frame Asking → Coming
from_reached reached stack = hosting.from_reached plan after on_got Ask reached stack

abbrev pub standing_of : Reached Request Ending → Stack Counts Frame Asking → Standing
standing_of (reached.Asks request) stack = standing.Asks stack request
standing_of (reached.Over ending) stack = standing.Over stack ending
