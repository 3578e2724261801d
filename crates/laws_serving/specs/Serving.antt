-- What a thread serves, reply by reply (thread(n): thread::wait, thread::send).
use Rattle.std.specs.Prelude.{◌≡◌, ℕ, List, [], ◌∷◌, ◌++◌, Option, None, if◌then◌else◌}
use Rattle.laws_serving.specs.Duties.{Duties, KeepsDuties, served_by}
use Rattle.laws_serving.specs.Requests.{delivered, takes_events}
use Rattle.tt_calls.specs.declared.outcome.Outcome.{Outcome}
use Rattle.tt_calls.specs.declared.reply.Reply.{Reply}
use Rattle.tt_calls.specs.declared.reply.Reply.TheVariants as reply
use Rattle.tt_calls.specs.declared.request.Request.{Request}
use Rattle.tt_calls.specs.declared.request.Request.TheVariants as ask
use Rattle.tt_calls.specs.declared.start.Start.{Start}
use Rattle.tt_frames.specs.Events.{post_of}
use Rattle.tt_frames.specs.Tcl.{plan}
use Rattle.tt_frames.specs.declared.job.Job.{Job}
use Rattle.tt_frames.specs.declared.job.Job.TheVariants as job
use Rattle.tt_kept.specs.Beginning.{IsNext}
use Rattle.tt_kept.specs.declared.setup.Setup.{Setup}
use Rattle.tt_outcomes.specs.declared.got.Got.{Got}
use Rattle.tt_outcomes.specs.declared.got.Got.TheVariants as got
use Rattle.tt_outcomes.specs.declared.want.Want.{Want}
use Rattle.tt_outcomes.specs.declared.want.Want.TheVariants as want

-- the post that a reply brings: that of a script whose sender gets an answer, if an event was asked for
abbrev pub post_taken : Request → Reply → Option ℕ
post_taken request (reply.Event event) = if takes_events request then post_of event else None
post_taken request other = None

-- what is served after a reply, innermost first
abbrev pub served_after : (serving : List ℕ) → Request → Reply → List ℕ
served_after serving request answered = served_by (delivered request) (post_taken request answered) serving

-- the same of what an evaluation wants and gets; an event that is served owes its post
abbrev pub owes : Job → Option ℕ
owes (job.Event event) = post_of event
owes other = None

abbrev pub taken : Want → Got → Option ℕ
taken (want.Ask request) (got.Reply answered) = post_taken request answered
taken wanted other = None

abbrev pub handed : Want → Option ℕ
handed (want.Ask request) = delivered request
handed other = None

abbrev pub duties : Duties Job Want Got
duties = record { owes = owes; taken = taken; handed = handed }

-- ---- the laws ----

-- a thread's evaluation keeps to it, whatever its script is
abbrev pub DutyLaw : Type 0
DutyLaw = KeepsDuties duties plan

-- at first nothing is served
abbrev pub FirstLaw : Type 0
FirstLaw =
    (setup : Setup) (me : ℕ) (start : Start) (request : Request) (serving : List ℕ) →
    IsNext setup me start [] request serving →
    serving ≡ []

-- what is served changes by replies alone: a script that was taken is served next, and what is handed over was
abbrev pub ServingLaw : Type 0
ServingLaw =
    (setup : Setup) (me : ℕ) (start : Start) (replies : List Reply) (answered : Reply)
    (request next : Request) (before now : List ℕ) →
    IsNext setup me start replies request before →
    IsNext setup me start (replies ++ answered ∷ []) next now →
    now ≡ served_after before request answered

-- what a thread hands over is what it serves innermost
abbrev pub DeliverLaw : Type 0
DeliverLaw =
    (setup : Setup) (me : ℕ) (start : Start) (replies : List Reply) (n : ℕ) (outcome : Outcome) (serving : List ℕ) →
    IsNext setup me start replies (ask.Deliver n outcome) serving →
    (rest : List ℕ) × (serving ≡ n ∷ rest)
