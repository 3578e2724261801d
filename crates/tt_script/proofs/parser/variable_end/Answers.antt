use Rattle.std.proofs.Common.{arith, sym, ◌∙◌}
use Rattle.tt_script.proofs.LoneParts.{lone_variable_at}
use Rattle.tt_script.proofs.parser.variable_end.Goals as goal

pub returns-then-separates-clause-read : goal.returns-then-separates-clause-read
returns-then-separates-clause-read c level =
    lone_variable_at level c.args.place c.args.text.now c.args.from c.name_end-end.result
    (sym c.begins.ensures ∙ c.if-not-begins.false) c.name_end-end.ensures.place (omega arith) (omega (arith, c.name_end-end.ensures))
    (sym c.separates.ensures ∙ c.if-separates.true)
