use Rattle.std.proofs.Common.{rules, ◌≡◌, ◌+◌, ◌∷◌, ◌∙◌, ℕ, ap, refl, drop}
use Rattle.std.specs.Arc.{arc_value}
use Rattle.tt_code.specs.Running.{needs}
use Rattle.tt_frames.specs.Programs.{Does, steps_of}
use Rattle.tt_frames.specs.Scripts.{commands}
use Rattle.tt_frames.specs.declared.job.CommandFrame.{CommandFrame}
use Rattle.tt_direct.proofs.Spending.{next_left}
use Rattle.tt_direct.proofs.scripts.pass.Goals as goal

pub returns-clause-passed : goal.returns-clause-passed
returns-clause-passed c state =
    let text = arc_value c.args.frame.now.program in
    let frame : CommandFrame = record { program = c.args.frame.now.program; at = c.in_ok-at.at; running = c.restart.new.self } in
    let here : c.args.frame.now.at + 1 ≡ c.in_ok-at.at = search rules in
    let some = c.in-Some-Does in
    let is : drop c.in_ok-at.at (steps_of text)
    ≡ Does (needs c.restart.new.self) some.field-0-1 some.field-0-2 ∷ drop (c.in_ok-at.at + 1) (steps_of text)
    = search rules in
    ap (λ (n : ℕ). commands text (drop n (steps_of text)) c.args.last state) here
    ∙ next_left frame (needs c.restart.new.self) some.field-0-1 some.field-0-2 c.args.last state is refl
