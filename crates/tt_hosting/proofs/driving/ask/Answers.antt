use Rattle.tt_evaluation.specs.Frames.{plan_of}
use Rattle.tt_evaluation.specs.Plans.{Asks}
use Rattle.tt_hosting.specs.Hosting.{on_stack}
use Rattle.tt_hosting.proofs.Courses.{answered_on, outside_at}
use Rattle.tt_hosting.proofs.driving.ask.Goals as goal

pub returns-in_ok-next-in-Got : goal.returns-in_ok-next-in-Got
returns-in_ok-next-in-Got g c =
    let language = g.L.Language in
    let hosted = g.H.Hosted in
    let old = c.args.stack.now in
    g.met.H.Hosted.further
    (on_stack language.plan language.after (plan_of language.after language.on_got c.in_ok-next-in-Got.next) c.give.new.stack)
    (on_stack language.plan language.after (language.on_got c.args.asking c.in-Got.got) old)
    (on_stack language.plan language.after (λ state. Asks c.args.want state (language.on_got c.args.asking)) old)
    c.give.new.host c.answer.new.host c.args.host.now c.in_ok-next-in-Got.ensures.taken
    (answered_on language.plan language.after language.on_got hosted.wanted hosted.leads old c.in_ok-got.field-0
    c.args.want c.args.asking c.in-Got.got c.answer.new.host c.args.host.now
    c.in-Got.is c.in_ok-got.ensures.answered)

pub returns-in-Outside : goal.returns-in-Outside
returns-in-Outside g c =
    let language = g.L.Language in
    let hosted = g.H.Hosted in
    outside_at language.plan language.after language.on_got hosted.wanted hosted.leads g.met.H.Hosted.same c.wait.new.stack c.args.stack.now
    c.in_ok-got.field-0 c.args.want c.in-Outside.request c.args.asking c.answer.new.host c.args.host.now
    c.wait.ensures c.in-Outside.is c.in_ok-got.ensures.answered
