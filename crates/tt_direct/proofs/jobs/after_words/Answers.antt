use Rattle.std.proofs.Common.{rules, None, ◌∙◌, refl, ap}
use Rattle.tt_evaluation.specs.Plans.{Calls}
use Rattle.tt_frames.specs.Frames.{command_ended}
use Rattle.tt_frames.specs.Scripts.{command_then}
use Rattle.tt_direct.proofs.Staying.{came_from, done_from}
use Rattle.tt_direct.specs.inside.Commands.{then_ran}
use Rattle.tt_direct.specs.declared.commands.AfterWords.{AfterWords}
use Rattle.tt_direct.proofs.jobs.after_words.Goals as goal

pub returns-in_ok-came-in-Ended : goal.returns-in_ok-came-in-Ended
returns-in_ok-came-in-Ended c =
    let old = c.args.stack.now in
    let go = command_ended c.args.command in
    came_from c.after_command.new.kept c.args.kept.now c.in_ok-came-in-Ended.came (go c.in-Ended.ending old.state)
    (command_then go c.args.got old.state) c.after_command.new.stack old old
    (c.in_ok-ending.ensures.ran go old.state ∙ ap (λ (r : AfterWords). then_ran r go old.state) c.in-Ended.is) refl refl
    c.in_ok-came-in-Ended.ensures

pub returns-in_ok-came-in-Calls : goal.returns-in_ok-came-in-Calls
returns-in_ok-came-in-Calls c =
    let old = c.args.stack.now in
    let go = command_ended c.args.command in
    let whole = command_then go c.args.got old.state in
    c.in_ok-came-in-Calls.ensures whole old c.args.kept.now (search rules)
    (done_from c.call.new.kept c.args.kept.now c.in_ok-done-in-Calls.done c.args.command (Calls None c.in-Calls.job old.state go) whole
    c.call.new.stack old old
    (c.in_ok-ending.ensures.ran go old.state ∙ ap (λ (r : AfterWords). then_ran r go old.state) c.in-Calls.is) refl refl
    c.in_ok-done-in-Calls.ensures.calls)
