use Rattle.std.proofs.Common.{refl}
use Rattle.tt_frames.specs.Frames.{command_needs}
use Rattle.tt_direct.proofs.Staying.{lands_at}
use Rattle.tt_direct.proofs.jobs.after_reply.Goals as goal

pub returns : goal.returns
returns c =
    let old = c.args.stack.now in
    lands_at c.after_pause.new.kept c.args.kept.now c.in_ok-came.came c.into_next.result (command_needs c.args.command)
    (command_needs c.args.command old.state) c.after_pause.new.stack old c.into_next.ensures.next refl c.in_ok-came.ensures
