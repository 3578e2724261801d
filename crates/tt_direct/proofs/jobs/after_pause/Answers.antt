use Rattle.std.proofs.Common.{rules}
use Rattle.tt_frames.specs.Frames.{command_needs}
use Rattle.tt_direct.proofs.jobs.after_pause.Goals as goal

pub returns : goal.returns
returns c =
    let old = c.args.stack.now in
    c.in_ok-came.ensures (command_needs c.args.command old.state) old c.args.kept.now (search rules) c.in_ok-done.ensures.runs
