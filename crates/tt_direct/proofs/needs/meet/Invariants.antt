use Rattle.tt_direct.proofs.Needing.{NeedsMore}
use Rattle.tt_direct.proofs.needs.meet.Given as goal

abbrev pub invariant-needs : goal.invariant-needs
invariant-needs l = NeedsMore l.running l.kept l.fn.running l.fn.kept
