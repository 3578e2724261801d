use Rattle.tt_evaluation.specs.Frames.{plan_of}
use Rattle.tt_hosting.specs.Hosting.{from_reached, on_stack}
use Rattle.tt_hosting.proofs.Courses.{moves_so, reaches_so}
use Rattle.tt_hosting.proofs.driving.run.Goals as goal

pub moves-preserved : goal.moves-preserved
moves-preserved g c =
    let language = g.L.Language in
    let hosted = g.H.Hosted in
    let middle = on_stack language.plan language.after (plan_of language.after language.on_got c.moves.step) c.moves.stack in
    let first = on_stack language.plan language.after (plan_of language.after language.on_got c.args.first) c.args.stack.now in
    g.met.H.Hosted.further
    (on_stack language.plan language.after (plan_of language.after language.on_got c.in-Moves.next) c.advance.new.stack) middle first
    c.advance.new.host c.moves.host c.args.host.now
    (moves_so language.plan language.after language.on_got hosted.wanted hosted.leads c.in_ok-next.field-0
    c.in-Moves.next c.advance.new.stack c.advance.new.host middle c.moves.host
    c.in-Moves.is c.in_ok-next.ensures)
    c.moves.invariant

pub returns-in-Reaches-clause-leads : goal.returns-in-Reaches-clause-leads
returns-in-Reaches-clause-leads g c =
    let language = g.L.Language in
    let hosted = g.H.Hosted in
    let middle = on_stack language.plan language.after (plan_of language.after language.on_got c.moves.step) c.moves.stack in
    let first = on_stack language.plan language.after (plan_of language.after language.on_got c.args.first) c.args.stack.now in
    g.met.H.Hosted.further
    (from_reached language.plan language.after language.on_got hosted.wanted c.in-Reaches.reached c.advance.new.stack) middle first
    c.advance.new.host c.moves.host c.args.host.now
    (reaches_so language.plan language.after language.on_got hosted.wanted hosted.leads c.in_ok-next.field-0
    c.in-Reaches.reached c.advance.new.stack c.advance.new.host middle c.moves.host
    c.in-Reaches.is c.in_ok-next.ensures)
    c.moves.invariant
