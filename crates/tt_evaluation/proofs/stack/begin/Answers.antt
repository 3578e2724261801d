use Rattle.tt_evaluation.specs.Frames.{from_halt}
use Rattle.tt_evaluation.specs.declared.stack.TheConstants.{STEPS}
use Rattle.tt_evaluation.proofs.Stacks.{started}
use Rattle.tt_evaluation.proofs.stack.begin.Goals as goal

pub returns-clause-begun : goal.returns-clause-begun
returns-clause-begun g c =
    let language = g.L.Language in
    λ answers. started language.plan language.after language.on_got c.in_ok-first.first c.new.result.items c.args.job c.args.state c.begin.new.state STEPS answers
    (from_halt language.plan language.after language.on_got c.in_ok-halt.halt c.run.new.stack answers)
    c.new.ensures.items c.in_ok-first.ensures.begun (c.in_ok-halt.ensures.same answers)
