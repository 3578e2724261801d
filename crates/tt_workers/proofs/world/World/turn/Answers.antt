use Rattle.tt_workers.proofs.TurnLemmas.{turned-last, turning-round}
use Rattle.tt_workers.proofs.world.World.turn.Goals as goal

pub returns-in-Some-clause-keeps : goal.returns-in-Some-clause-keeps
returns-in-Some-clause-keeps g c =
    turned-last g.S.Source g.K.Sink g.E.Sink c.args.pass c.args.done c.args.self.now c.rounds.self c.go_on.new.self c.in-Some.next
    c.rounds.invariant c.in-Some.ensures.keeps

pub rounds-preserved : goal.rounds-preserved
rounds-preserved g c =
    turning-round g.S.Source g.K.Sink g.E.Sink c.args.pass c.args.done c.args.self.now c.rounds.self c.go_on.new.self c.rounds.invariant
    c.in_default.ensures.keeps c.in_default.ensures.goes
