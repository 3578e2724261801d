use Rattle.std.proofs.Common.{ap, sym, ◌+◌, ◌∙◌}
use Rattle.tt_script.specs.Reading.{level, most_open, takes}
use Rattle.tt_script.proofs.Builds.{plain_script}
use Rattle.tt_script.proofs.Keeping.{kept}
use Rattle.tt_script.proofs.OperandSteps.{refused, script-part, script-fault}
use Rattle.tt_script.proofs.operands.script_part.Goals as goal

pub returns-in-Ok-clause-read : goal.returns-in-Ok-clause-read
returns-in-Ok-clause-read c =
    script-part (level most_open) c.args.text.now c.in-Ok.inside c.in-Ok.end (kept (λ inside. inside) (c.in-Ok.inside, c.in-Ok.end) _ c.in-Ok.ensures.read)
    ∙ ap (λ part. takes part (c.in-Ok.end + 1)) (sym (plain_script c.in-Ok.inside))

pub returns-in-Err-Fault-clause-read : goal.returns-in-Err-Fault-clause-read
returns-in-Err-Fault-clause-read c = (
  c.in-Err-Fault.field-0-0,
  script-fault (level most_open) c.args.text.now _
      (refused _ _ ((level most_open).brackets c.args.text.now) c.in-Err-Fault.field-0-is c.in-Err-Fault.ensures.read),
)
