use Rattle.std.proofs.Common.{◌≡◌, None}
use Rattle.tt_core.specs.Stage.{OfMachine}
use Rattle.tt_machine.specs.Waiting.{AreWaitingUpTo}
use Rattle.tt_waiting.proofs.report.all_waiting.Given as goal

abbrev pub invariant-loop-before : goal.invariant-loop-before
invariant-loop-before g l =
    l.system.desk.kept ≡ None →
    OfMachine g.S.Source.held l.system (λ machine. AreWaitingUpTo machine l.before l.waiting.items)
