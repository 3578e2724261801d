use Rattle.std.proofs.Common.{rules, refl}
use Rattle.tt_frames.specs.Frames.{command_ended}
use Rattle.tt_direct.proofs.Staying.{done_now, same_plan}
use Rattle.tt_direct.proofs.jobs.after_command.Goals as goal

pub returns : goal.returns
returns c =
    let old = c.args.stack.now in
    let whole = command_ended c.args.command c.args.ending old.state in
    c.in_ok-came.ensures whole old c.args.kept.now (search rules)
    (done_now c.in_ok-done.done c.args.command whole old (search rules) (c.in_ok-done.ensures.ended old.state)
    (same_plan c.args.kept.now whole whole old old refl refl refl))
