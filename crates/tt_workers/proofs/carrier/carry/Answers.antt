use Rattle.std.proofs.Common.{refl, ◌∙◌}
use Rattle.tt_workers.proofs.WorkerLemmas.{carries-begin, carries-enter, carries-over, carries-round}
use Rattle.tt_workers.proofs.carrier.carry.Goals as goal

pub loop-init : goal.loop-init
loop-init g c = ((c.requires.own, refl), c.requires.no_turn, carries-begin _ c.requires.vacant)

pub one_round-requires-clause-may : goal.one_round-requires-clause-may
one_round-requires-clause-may g c κs within = carries-enter _ _ _ c.loop.invariant.2

pub loop-preserved : goal.loop-preserved
loop-preserved g c = (
  (c.in-Goes.ensures.own.0, c.in-Goes.ensures.own.1 ∙ c.loop.invariant.0.1),
  c.in-Goes.ensures.no_turn,
  carries-round _ _ _ _ _ c.loop.invariant.2 c.in-Goes.ensures.noted,
)

pub returns-in-Over-clause-own : goal.returns-in-Over-clause-own
returns-in-Over-clause-own g c = (c.in-Over.ensures.own.0, c.in-Over.ensures.own.1 ∙ c.loop.invariant.0.1)

pub returns-in-Over-clause-noted : goal.returns-in-Over-clause-noted
returns-in-Over-clause-noted g c = carries-over _ _ _ _ c.loop.invariant.2 c.in-Over.ensures.noted
