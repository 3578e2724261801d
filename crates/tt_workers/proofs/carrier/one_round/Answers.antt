use denote.Param.{param}
use Rattle.std.proofs.Common.{None, subst, sym}
use Rattle.tt_noted.specs.Passes.{note_of}
use Rattle.tt_workers.proofs.Crossing.{state-send}
use Rattle.tt_workers.proofs.WorkerLemmas.{round-next, round-over}
use Rattle.tt_workers.specs.inside.Workers.{IsRound}
use Rattle.tt_workers.specs.declared.carrier.Round.TheVariants as round
use Rattle.tt_workers.specs.declared.next.Next.TheVariants as next
use Rattle.tt_workers.proofs.carrier.one_round.Goals as goal

pub number-requires-send-T-State : goal.number-requires-send-T-State
number-requires-send-T-State g c κs within =
    state-send (param 1 g.row.S) (param 2 g.row.K) (param 3 g.row.E) g.S.Source g.K.Sink g.E.Sink _ c.type_bounds.send-S
    c.type_bounds.send-K c.type_bounds.send-E

pub rest-requires-send-T-State : goal.rest-requires-send-T-State
rest-requires-send-T-State g c κs within =
    state-send (param 1 g.row.S) (param 2 g.row.K) (param 3 g.row.E) g.S.Source g.K.Sink g.E.Sink _ c.type_bounds.send-S
    c.type_bounds.send-K c.type_bounds.send-E

pub returns-in-Run-clause-noted : goal.returns-in-Run-clause-noted
returns-in-Run-clause-noted g c = round-next _ _ (next.Run c.in-Run.task) _ c.in-Run.ensures.noted c.resumed.ensures.back

pub returns-in-Rest-clause-noted : goal.returns-in-Rest-clause-noted
returns-in-Rest-clause-noted g c =
    subst (λ pass. IsRound (note_of c.args.pass.now) (note_of pass) (round.Goes None)) (sym c.rest.ensures)
    (round-next _ _ next.Rest None c.in-Rest.ensures.noted tt)

pub returns-in-Over-clause-noted : goal.returns-in-Over-clause-noted
returns-in-Over-clause-noted g c = round-over _ _ c.in-Over.ensures.noted
