use Rattle.tt_core.specs.Stage.{OfMachine}
use Rattle.tt_debug.specs.Shown.{AreLines}
use Rattle.tt_debug.proofs.threads.living_threads.Given as goal

abbrev pub invariant-loop-before : goal.invariant-loop-before
invariant-loop-before g l = OfMachine g.S.Source.held l.system (λ machine. AreLines machine l.before l.text)
