use Rattle.std.proofs.Common.{◌≡◌, ◌+◌, [], ◌∷◌, ◌++◌, rules}
use Rattle.tt_evaluation.specs.Evaluation.{eval}
use Rattle.tt_evaluation.specs.Frames.{plan_of}
use Rattle.tt_evaluation.specs.Plans.{follow}
use Rattle.tt_evaluation.specs.declared.language.Move.TheVariants.{Call}
use Rattle.tt_evaluation.specs.declared.stack.Pending.{Pending}
use Rattle.tt_evaluation.proofs.Stacks.{called}
use Rattle.tt_evaluation.proofs.stack.advance.Goals as goal

pub returns-in_ok-push-in-Call-clause-same : goal.returns-in_ok-push-in-Call-clause-same
returns-in_ok-push-in-Call-clause-same g c =
    let language = g.L.Language in
    let call : Pending _ = record { frame = c.in-Call.frame; serves = c.in-Call.serves } in
    let pushed : c.push.new.self.items ≡ c.args.calls.now.items ++ call ∷ [] = search rules in
    let spent : c.args.steps.now ≡ c.go_over.new.steps + 1 = search rules in
    let is : c.args.step ≡ Call call.serves c.in-Call.job call.frame = search rules in
    λ answers. called language.plan language.after language.on_got c.args.step c.args.calls.now.items c.push.new.self.items call c.in-Call.job c.args.state.now c.args.steps.now c.go_over.new.steps answers
    (follow (eval language.plan) (plan_of language.after language.on_got c.in_ok-next-in-Call.next c.go_over.new.state) c.go_over.new.steps answers)
    is pushed spent (c.in_ok-next-in-Call.ensures.same answers)
