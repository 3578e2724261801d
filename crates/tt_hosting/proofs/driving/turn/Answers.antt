use Rattle.std.proofs.Common.{◌≡◌, Some, None, refl, rules}
use Rattle.tt_evaluation.specs.Frames.{after_answer, plan_of}
use Rattle.tt_evaluation.specs.declared.stack.Stack.{Stack}
use Rattle.tt_hosting.specs.Hosting.{from_reached, on_stack}
use Rattle.tt_hosting.proofs.Courses.{given_to, led_from}
use Rattle.tt_hosting.proofs.driving.turn.Goals as goal

pub returns-clause-leads : goal.returns-clause-leads
returns-clause-leads g c =
    let language = g.L.Language in
    let hosted = g.H.Hosted in
    let before = c.args.stack.now in
    let stack : Stack _ _ _ = record before { asking = None } in
    let is : before.asking ≡ Some c.in-Some.asking = search rules in
    g.met.H.Hosted.further
    (from_reached language.plan language.after language.on_got hosted.wanted c.in_ok-reached.reached c.run.new.stack)
    (on_stack language.plan language.after (plan_of language.after language.on_got c.in_ok-next.next) c.give.new.stack)
    (after_answer language.plan language.after language.on_got before c.args.got)
    c.run.new.host c.give.new.host c.args.host.now c.in_ok-reached.ensures.leads
    (led_from hosted.leads g.met.H.Hosted.same g.met.H.Hosted.further
    (on_stack language.plan language.after (plan_of language.after language.on_got c.in_ok-next.next) c.give.new.stack)
    (on_stack language.plan language.after (language.on_got c.in-Some.asking c.args.got) stack)
    (after_answer language.plan language.after language.on_got before c.args.got)
    c.give.new.host c.args.host.now c.in_ok-next.ensures.taken
    (given_to language.plan language.after language.on_got stack before c.in-Some.asking c.args.got is refl refl refl))
