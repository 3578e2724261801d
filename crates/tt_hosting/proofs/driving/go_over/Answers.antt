use Rattle.std.proofs.Common.{◌≡◌, ◌+◌, rules}
use Rattle.tt_evaluation.specs.Frames.{plan_of}
use Rattle.tt_evaluation.specs.declared.language.Move.TheVariants.{Goto}
use Rattle.tt_hosting.specs.Hosting.{on_stack}
use Rattle.tt_hosting.proofs.Courses.{gone_over, led_from}
use Rattle.tt_hosting.proofs.driving.go_over.Goals as goal

pub returns : goal.returns
returns g c =
    let language = g.L.Language in
    let hosted = g.H.Hosted in
    let old = c.args.stack.now in
    let steps = c.in_ok-stack.field-0 in
    let spent : old.steps ≡ steps + 1 = search rules in
    led_from hosted.leads g.met.H.Hosted.same g.met.H.Hosted.further
    (on_stack language.plan language.after (plan_of language.after language.on_got c.in_ok-next.next) c.begin_job.new.stack)
    (on_stack language.plan language.after (language.plan c.args.job) (record old { steps = steps }))
    (on_stack language.plan language.after (plan_of language.after language.on_got (Goto c.args.job)) old)
    c.begin_job.new.host c.args.host.now c.in_ok-next.ensures.begun
    (gone_over language.plan language.after language.on_got old c.args.job steps spent)
