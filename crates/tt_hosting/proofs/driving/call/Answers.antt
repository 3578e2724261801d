use Rattle.std.proofs.Common.{◌≡◌, ◌+◌, ◌++◌, ◌∷◌, [], refl, rules}
use Rattle.tt_evaluation.specs.Frames.{plan_of}
use Rattle.tt_evaluation.specs.declared.language.Move.TheVariants.{Call}
use Rattle.tt_evaluation.specs.declared.stack.Stack.{Stack}
use Rattle.tt_hosting.specs.Hosting.{on_stack}
use Rattle.tt_hosting.proofs.Courses.{called_on, led_from}
use Rattle.tt_hosting.proofs.driving.call.Goals as goal

pub returns : goal.returns
returns g c =
    let language = g.L.Language in
    let hosted = g.H.Hosted in
    let old = c.args.stack.now in
    let stack : Stack _ _ _ = record old { steps = c.in_ok-stack.field-0; calls = c.push.new.self } in
    let more : stack.calls.items ≡ old.calls.items ++ c.args.call ∷ [] = search rules in
    let spent : old.steps ≡ stack.steps + 1 = search rules in
    led_from hosted.leads g.met.H.Hosted.same g.met.H.Hosted.further
    (on_stack language.plan language.after (plan_of language.after language.on_got c.in_ok-next.next) c.begin_job.new.stack)
    (on_stack language.plan language.after (language.plan c.args.job) stack)
    (on_stack language.plan language.after (plan_of language.after language.on_got (Call c.args.call.serves c.args.job c.args.call.frame)) old)
    c.begin_job.new.host c.args.host.now c.in_ok-next.ensures.begun
    (called_on language.plan language.after language.on_got stack old c.args.call c.args.job more spent refl)
