-- Whatever a thread does comes to one thing, from its single commands up to what it asks next.
use Rattle.std.specs.Prelude.{ℕ, ◌≡◌, List}
use Rattle.tt_calls.specs.declared.outcome.Outcome.{Outcome}
use Rattle.tt_calls.specs.declared.reply.Reply.{Reply}
use Rattle.tt_calls.specs.declared.request.Request.{Request}
use Rattle.tt_calls.specs.declared.start.Start.{Start}
use Rattle.tt_kept.specs.Answering.{Answers}
use Rattle.tt_kept.specs.Beginning.{BeginsThread, IsNext}
use Rattle.tt_kept.specs.Commands.{Runs}
use Rattle.tt_kept.specs.declared.kept.Kept.{Kept}
use Rattle.tt_kept.specs.declared.setup.Setup.{Setup}
use Rattle.tt_pure.specs.Table.{IsOutcome, command_of}
use Rattle.tt_store.specs.declared.answers.Answer.{Answer}
use Rattle.tt_outcomes.specs.declared.got.Got.{Got}
use Rattle.tt_outcomes.specs.declared.want.Want.{Want}

-- a command that answers by its words alone has one outcome
abbrev pub PureOnceLaw : Type 0
PureOnceLaw =
    (name : List ℕ) (words : List (List ℕ)) (one other : Outcome) →
    IsOutcome (command_of name) words one →
    IsOutcome (command_of name) words other →
    one ≡ other

-- words come to one answer, and one thing is kept then
abbrev pub RunsOnceLaw : Type 0
RunsOnceLaw =
    (words : List (List ℕ)) (old : Kept) (one other : Answer) (kept others : Kept) →
    Runs words old one kept →
    Runs words old other others →
    (one ≡ other) × (kept ≡ others)

-- an evaluation gets one thing for what it wants, and one thing is kept then
abbrev pub AnswersOnceLaw : Type 0
AnswersOnceLaw =
    (want : Want) (old : Kept) (one other : Got) (kept others : Kept) →
    Answers want old one kept →
    Answers want old other others →
    (one ≡ other) × (kept ≡ others)

-- a thread keeps one thing at its start
abbrev pub BeginsOnceLaw : Type 0
BeginsOnceLaw =
    (setup : Setup) (me : ℕ) (one other : Kept) →
    BeginsThread setup me one →
    BeginsThread setup me other →
    one ≡ other

-- a thread asks one request next, and serves the same posts then
abbrev pub OneRequestLaw : Type 0
OneRequestLaw =
    (setup : Setup) (me : ℕ) (start : Start) (replies : List Reply)
    (one other : Request) (serving during : List ℕ) →
    IsNext setup me start replies one serving →
    IsNext setup me start replies other during →
    (one ≡ other) × (serving ≡ during)
