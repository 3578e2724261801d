use Rattle.tt_evaluation.specs.Frames.{plan_of}
use Rattle.tt_hosting.specs.Hosting.{on_stack}
use Rattle.tt_hosting.proofs.driving.run.Given as goal

abbrev pub invariant-moves : goal.invariant-moves
invariant-moves g l =
    let language = g.L.Language in
    g.H.Hosted.leads (on_stack language.plan language.after (plan_of language.after language.on_got l.step) l.stack) l.host
    (on_stack language.plan language.after (plan_of language.after language.on_got l.fn.first) l.fn.stack) l.fn.host
