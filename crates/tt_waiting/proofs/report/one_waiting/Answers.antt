use Rattle.std.proofs.Common.{refl}
use Rattle.tt_machine.proofs.WaitingLists.{waiting_at}
use Rattle.tt_waiting.proofs.WaitingLemmas.{able, asks-nothing, unable}
use Rattle.tt_waiting.proofs.report.one_waiting.Goals as goal

pub returns-in_default : goal.returns-in_default
returns-in_default g c = record {
  is = λ going. asks-nothing g.S.Source.held c.args.system.now c.args.number (c.in_default.ensures.silent refl going);
}

pub returns-then-enabled : goal.returns-then-enabled
returns-then-enabled g c = record {
  is = λ going. able g.S.Source.held c.args.system.now c.args.number (c.enabled.ensures.can c.if-enabled.true);
}

pub returns : goal.returns
returns g c = record {
  is = λ going. unable g.S.Source.held c.args.system.now c.args.number c.in-Some.request.now c.shared-2.result.now
      (waiting_at c.args.number c.in_ok-others.others.items) refl c.in_ok-others.ensures.blockers
      (c.requires.not_over going) (c.shared-2.ensures.shared going) c.in-Some.ensures.asks
      (c.enabled.ensures.barred c.if-enabled.false going);
}
