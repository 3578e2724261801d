use Rattle.std.proofs.Common.{◌-◌, length}
use Rattle.tt_workers.specs.inside.Rounds.{Turning}
use Rattle.tt_workers.proofs.world.World.turn.Given as goal

abbrev pub invariant-rounds : goal.invariant-rounds
invariant-rounds g l = Turning g.S.Source g.K.Sink g.E.Sink l.fn.pass l.fn.done l.fn.self l.self

abbrev pub decreases-rounds : goal.decreases-rounds
decreases-rounds g l = l.self.begun.steps - length l.self.desk.schedule
