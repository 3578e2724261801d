use Rattle.std.proofs.Common.{rules, ◌≡◌, ◌+◌, ◌∷◌, [], refl, drop}
use Rattle.std.specs.Arc.{arc_value}
use Rattle.tt_code.specs.Running.{needs}
use Rattle.tt_frames.specs.Programs.{Does, steps_of}
use Rattle.tt_frames.specs.declared.job.CommandFrame.{CommandFrame}
use Rattle.tt_direct.proofs.Spending.{next_left}
use Rattle.tt_direct.proofs.scripts.first.Goals as goal

pub returns-clause-first : goal.returns-clause-first
returns-clause-first c state =
    let text = arc_value c.args.program in
    let frame : CommandFrame = record { program = c.args.program; at = 0; running = c.new-2.result } in
    let some = c.in-Some-Does in
    let is : drop 0 (steps_of text) ≡ Does (needs c.new-2.result) some.field-0-1 some.field-0-2 ∷ drop (0 + 1) (steps_of text) = search rules in
    next_left frame (needs c.new-2.result) some.field-0-1 some.field-0-2 [] state is refl
