use Rattle.std.proofs.Common.{◌≡◌, ◌++◌, ◌∷◌, [], refl, rules}
use Rattle.tt_evaluation.specs.Frames.{plan_of}
use Rattle.tt_evaluation.specs.Plans.{Ends}
use Rattle.tt_evaluation.specs.declared.stack.Stack.{Stack}
use Rattle.tt_hosting.specs.Hosting.{on_stack}
use Rattle.tt_hosting.proofs.Courses.{back_on, led_from}
use Rattle.tt_hosting.proofs.driving.come_back.Goals as goal

pub returns-in_ok-next-in-Some : goal.returns-in_ok-next-in-Some
returns-in_ok-next-in-Some g c =
    let language = g.L.Language in
    let old = c.args.stack.now in
    let stack : Stack _ _ _ = record old { calls = c.pop.new.self } in
    let call = c.in-Some.field-0 in
    let more : old.calls.items ≡ stack.calls.items ++ call ∷ [] = search rules in
    led_from g.H.Hosted.leads g.met.H.Hosted.same g.met.H.Hosted.further
    (on_stack language.plan language.after (plan_of language.after language.on_got c.in_ok-next-in-Some.next) c.end_call.new.stack)
    (on_stack language.plan language.after (language.after call.frame c.args.outcome) stack)
    (on_stack language.plan language.after (λ state. Ends c.args.outcome state) old)
    c.end_call.new.host c.args.host.now (search rules)
    (back_on language.plan language.after stack old call c.args.outcome more refl refl)
