use Rattle.std.proofs.Common.{◌≡◌, ◌+◌, ◌∙◌, ap, rules}
use Rattle.tt_code.specs.inside.Turns.{step_needs}
use Rattle.tt_code.specs.declared.steps.Step.{Step}
use Rattle.tt_code.proofs.Stepping.{goes, halts}
use Rattle.tt_code.proofs.running.turn.Goals as goal

pub returns-in_ok-next-in-Goes-clause-same : goal.returns-in_ok-next-in-Goes-clause-same
returns-in_ok-next-in-Goes-clause-same c =
    let us = c.perform.new.values in
    let place : c.in_ok-next-in-Goes.next ≡ c.args.place + 1 + c.in-Goes.count = search rules in
    goes c.args.instructions.now c.args.place c.in-Goes.count c.in_ok-next-in-Goes.next c.index-instructions-place.result c.args.values.now us
    c.requires c.index-instructions-place.is place
    (λ next. c.in_ok-step.ensures next ∙ ap (λ (s : Step). step_needs s next us) c.in-Goes.is)

pub returns-in-Halts-clause-same : goal.returns-in-Halts-clause-same
returns-in-Halts-clause-same c =
    let us = c.perform.new.values in
    halts c.args.instructions.now c.args.place c.in-Halts.halt c.index-instructions-place.result c.args.values.now us
    c.requires c.index-instructions-place.is
    (λ next. c.in_ok-step.ensures next ∙ ap (λ (s : Step). step_needs s next us) c.in-Halts.is)
