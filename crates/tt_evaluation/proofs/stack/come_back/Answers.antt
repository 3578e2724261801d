use Rattle.std.proofs.Common.{◌≡◌, [], ◌∷◌, ◌++◌, rules}
use Rattle.tt_evaluation.specs.Evaluation.{eval}
use Rattle.tt_evaluation.specs.Frames.{plan_of}
use Rattle.tt_evaluation.proofs.Stacks.{came_back}
use Rattle.tt_evaluation.proofs.stack.come_back.Goals as goal

pub returns-in_ok-next-in-Some-clause-same : goal.returns-in_ok-next-in-Some-clause-same
returns-in_ok-next-in-Some-clause-same g c =
    let language = g.L.Language in
    let call = c.in-Some.field-0 in
    let next = plan_of language.after language.on_got c.in_ok-next-in-Some.next c.go_on.new.state in
    let popped : c.args.calls.now.items ≡ c.pop.new.self.items ++ call ∷ [] = search rules in
    let goes_on : language.after call.frame c.args.outcome c.args.state.now ≡ next = search rules in
    λ answers. came_back
    (eval language.plan) language.after c.args.calls.now.items c.pop.new.self.items call c.args.outcome c.args.state.now c.args.steps.now answers next popped goes_on
