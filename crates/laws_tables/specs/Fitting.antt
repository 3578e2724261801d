-- What is answered fits the request (puts(n), gets(n), eof(n), thread(n), tsv(n), tpool(n), chan(n)).
use Rattle.std.specs.Prelude.{ℕ, IsTrue, Contains}
use Rattle.tt_calls.specs.Fitting.{shape_of, shapes_for}
use Rattle.tt_calls.specs.declared.reply.Reply.{Reply}
use Rattle.tt_calls.specs.declared.request.Request.{Request}
use Rattle.tt_shared.specs.Acts.{act}
use Rattle.tt_shared.specs.Enabled.{enabled}
use Rattle.tt_shared.specs.State.{State}
use Rattle.tt_shared.specs.declared.applied.Line.{Line}

-- the reply is of a kind that the request is answered with
abbrev pub Fits : Request → Reply → Type 0
Fits request answered = Contains (shapes_for request) (shape_of answered)

-- so is what any thread is answered that need not wait, in any state, whether a run comes to it or not
abbrev pub FittingLaw : Type 0
FittingLaw =
    (state : State) (t : ℕ) (request : Request) (line : Line) →
    IsTrue (enabled state t request) →
    Fits request (act state t request line).gives.reply
