use Rattle.std.proofs.Common.{refl}
use Rattle.std.specs.Prelude.{Some}
use Rattle.tt_evaluation.specs.inside.Moves.{from_move}
use Rattle.tt_evaluation.specs.declared.stack.Stack.{Stack}
use Rattle.tt_evaluation.proofs.Stacks.{halts}
use Rattle.tt_evaluation.proofs.stack.run.Goals as goal

pub returns-in-Asks-clause-same : goal.returns-in-Asks-clause-same
returns-in-Asks-clause-same g c =
    let language = g.L.Language in
    let before = c.args.stack.now in
    let stack : Stack _ _ _ = record { state = c.stand.new.state; steps = c.stand.new.steps; calls = c.stand.new.calls; asking = Some c.in-Asks.asking } in
    λ answers. halts language.plan language.after language.on_got c.in_ok-standing.standing stack c.in-Asks.want c.in-Asks.asking answers
    (from_move language.plan language.after language.on_got c.args.first before.calls.items before.state before.steps answers)
    c.in-Asks.is refl (c.in_ok-standing.ensures answers)
