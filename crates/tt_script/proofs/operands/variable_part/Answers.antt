use Rattle.std.proofs.Common.{◌∙◌}
use Rattle.tt_script.specs.Reading.{level, most_open, dollar}
use Rattle.tt_script.proofs.Readers.{after-zero}
use Rattle.tt_script.specs.Plain.{plain_part}
use Rattle.tt_script.proofs.Keeping.{kept}
use Rattle.tt_script.proofs.OperandSteps.{refused, variable-part}
use Rattle.tt_script.proofs.operands.variable_part.Goals as goal

pub returns-in-Ok-clause-read : goal.returns-in-Ok-clause-read
returns-in-Ok-clause-read c = variable-part (level most_open) c.args.text.now _ (kept plain_part c.in-Ok.found _ c.in-Ok.ensures.read)

pub returns-in-Err-Fault-clause-read : goal.returns-in-Err-Fault-clause-read
returns-in-Err-Fault-clause-read c = (
  c.in-Err-Fault.field-0-0,
  variable-part (level most_open) c.args.text.now _
      (after-zero (dollar (level most_open) c.args.text.now)
      ∙ refused _ _ (dollar (level most_open) c.args.text.now) c.in-Err-Fault.field-0-is c.in-Err-Fault.ensures.read),
)
