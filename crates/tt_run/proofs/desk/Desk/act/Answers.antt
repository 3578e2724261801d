use Rattle.tt_run.proofs.ActLemmas.{kept-too}
use Rattle.tt_run.proofs.desk.Desk.act.Goals as goal
use Rattle.tt_devices.specs.Streams.{GrowsByPart}

pub returns-in-Err-clause-cut : goal.returns-in-Err-clause-cut
returns-in-Err-clause-cut g c failed kept =
    let cut = c.in-Err.ensures.cut failed in
    (cut.0, kept-too _ _ _ GrowsByPart _ c.answer.new.self c.args.thread c.args.request.now cut.0 _ _ _ _ _ c.self-2.view_is cut.1, cut.2)
