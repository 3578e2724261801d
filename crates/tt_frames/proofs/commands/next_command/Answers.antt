use Rattle.std.proofs.Common.{rules, ◌≡◌, ◌+◌, ◌∷◌, ◌∙◌, drop}
use Rattle.std.specs.Arc.{arc_value}
use Rattle.tt_code.specs.Running.{needs}
use Rattle.tt_frames.specs.Programs.{Does, steps_of}
use Rattle.tt_frames.proofs.Fronts.{begun}
use Rattle.tt_frames.proofs.commands.next_command.Goals as goal

pub returns-in_ok-next-in-Some-Does : goal.returns-in_ok-next-in-Some-Does
returns-in_ok-next-in-Some-Does c =
    let text = arc_value c.args.program in
    let here = c.in-Some-Does in
    let is : drop c.args.at (steps_of text)
    ≡ Does (needs c.new.result) here.field-0-1 here.field-0-2 ∷ drop (c.args.at + 1) (steps_of text)
    = search rules in
    begun text (drop c.args.at (steps_of text)) (drop (c.args.at + 1) (steps_of text)) (needs c.new.result)
    here.field-0-1 here.field-0-2 c.args.last c.args.state.now is
    ∙ c.in_ok-next-in-Some-Does.ensures
