use Rattle.tt_evaluation.specs.Frames.{plan_of}
use Rattle.tt_evaluation.proofs.Stacks.{begun}
use Rattle.tt_evaluation.proofs.stack.go_over.Goals as goal

pub returns-clause-same : goal.returns-clause-same
returns-clause-same g c =
    let language = g.L.Language in
    λ answers. begun language.plan c.args.job c.args.state.now c.begin.new.state
    (plan_of language.after language.on_got c.in_ok-next.next) c.in_ok-steps.field-0 answers c.in_ok-next.ensures.begun
