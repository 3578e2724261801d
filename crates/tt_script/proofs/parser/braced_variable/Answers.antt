use Rattle.std.proofs.Common.{◌-◌, drop, take}
use Rattle.tt_script.specs.Reading.{part_of_name}
use Rattle.tt_script.proofs.PartSteps.{braced_variable_at}
use Rattle.tt_script.proofs.parser.braced_variable.Goals as goal

pub returns-clause-read : goal.returns-clause-read
returns-clause-read c = (
  part_of_name (take (c.brace_end-end.result - c.args.from) (drop c.args.from c.args.text.now)),
  braced_variable_at c.args.text.now c.args.from c.brace_end-end.result c.brace_end-end.ensures.place c.brace_end-end.ensures.within c.if-end-text.false,
  λ keep. c.in_ok-part.ensures keep,
)
