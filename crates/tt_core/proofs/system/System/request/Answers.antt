use Rattle.std.proofs.Common.{◌≡◌, ◌∙◌, IsTrue, None, false, is_some, sym}
use Rattle.tt_core.proofs.TellLemmas.{asking, unasked-silent, unmet}
use Rattle.tt_core.proofs.system.System.request.Goals as goal
use Rattle.tt_threads.specs.Rows.{is_living}

pub returns-in_err-request-clause-silent : goal.returns-in_err-request-clause-silent
returns-in_err-request-clause-silent g c is kept =
    let value = c.is_some.ensures in
    let test = c.if-is_some.false in
    let nothing : is_some c.kept_fault.result ≡ false = cc in
    let going : c.self.inside.desk.kept ≡ None = sym c.kept_fault.ensures.kept ∙ unmet c.kept_fault.result nothing in
    let asks = c.in_err-request.ensures.asks in
    rw (← c.self.view_is)
    (unasked-silent g.S.Source.held g.K.Sink.got g.E.Sink.got c.self.inside.setup c.self.inside.began c.self.inside.desk c.args.thread
    c.self.inside.crew going asks c.self.invariant)

pub returns-clause-asks : goal.returns-clause-asks
returns-clause-asks g c =
    let value = c.is_some.ensures in
    let test = c.if-is_some.false in
    let nothing : is_some c.kept_fault.result ≡ false = cc in
    let going : c.self.inside.desk.kept ≡ None = sym c.kept_fault.ensures.kept ∙ unmet c.kept_fault.result nothing in
    let told = c.lives.ensures.lives in
    let tested = c.if-not-lives.false in
    let also = c.if-not-lives.ensures.lives in
    let lives : IsTrue (is_living c.self.inside.desk.shared.rows c.args.thread) = cc in
    rw (← c.self.view_is)
    (asking g.S.Source.held g.K.Sink.got g.E.Sink.got c.self.inside.setup c.self.inside.began c.self.inside.desk c.args.thread
    c.in_ok-request.request.now c.self.inside.crew c.in_ok-request.ensures.asks going lives c.self.invariant)
