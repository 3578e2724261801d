use Rattle.std.proofs.Common.{rules, ◌≡◌, ◌∙◌, refl, ap}
use Rattle.tt_code.specs.Needs.{Needs}
use Rattle.tt_code.specs.Running.{needs, with_value}
use Rattle.tt_frames.specs.Frames.{command_ended, command_given, command_needs}
use Rattle.tt_frames.specs.Scripts.{command_of_words, needing}
use Rattle.tt_frames.specs.declared.job.CommandFrame.{CommandFrame}
use Rattle.tt_outcomes.specs.declared.ending.Ending.{Ending}
use Rattle.tt_direct.proofs.Staying.{came_from}
use Rattle.tt_direct.proofs.jobs.after_need.Goals as goal

pub returns-in_ok-came-in-Fine : goal.returns-in_ok-came-in-Fine
returns-in_ok-came-in-Fine c =
    let old = c.args.stack.now in
    let began = c.args.command in
    let next : CommandFrame = record { program = began.program; at = began.at; running = c.give.new.self } in
    let given : with_value began.running c.in-Fine.value ≡ needs c.give.new.self = search rules in
    came_from c.after_pause.new.kept c.args.kept.now c.in_ok-came-in-Fine.came (command_needs next old.state)
    (command_given began c.args.ending old.state) c.after_pause.new.stack old old
    (ap (λ (e : Ending). command_given began e old.state) c.in-Fine.is
    ∙ ap (λ (n : Needs). needing (command_of_words (command_ended began)) (command_ended began) n old.state) given) refl refl
    c.in_ok-came-in-Fine.ensures

pub returns-in_ok-came-in_default : goal.returns-in_ok-came-in_default
returns-in_ok-came-in_default c =
    let old = c.args.stack.now in
    let began = c.args.command in
    came_from c.after_command.new.kept c.args.kept.now c.in_ok-came-in_default.came (command_ended began c.args.ending old.state)
    (command_given began c.args.ending old.state) c.after_command.new.stack old old (search rules) refl refl
    c.in_ok-came-in_default.ensures
