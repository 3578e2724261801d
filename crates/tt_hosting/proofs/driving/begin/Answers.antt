use Rattle.tt_evaluation.specs.Frames.{plan_of}
use Rattle.tt_hosting.specs.Hosting.{from_reached, on_stack}
use Rattle.tt_hosting.proofs.driving.begin.Goals as goal

pub returns-clause-leads : goal.returns-clause-leads
returns-clause-leads g c =
    let language = g.L.Language in
    let hosted = g.H.Hosted in
    g.met.H.Hosted.further
    (from_reached language.plan language.after language.on_got hosted.wanted c.in_ok-reached.reached c.run.new.stack)
    (on_stack language.plan language.after (plan_of language.after language.on_got c.in_ok-first.first) c.begin_job.new.stack)
    (on_stack language.plan language.after (language.plan c.args.job) c.args.stack.now)
    c.run.new.host c.begin_job.new.host c.args.host.now c.in_ok-reached.ensures.leads c.in_ok-first.ensures.begun
