use Rattle.std.proofs.Common.{sym, ◌∙◌, arith}
use Rattle.tt_format.proofs.Limits.{limited}
use Rattle.tt_format.proofs.fields.at_most.Goals as goal

pub returns-in-Some : goal.returns-in-Some
returns-in-Some c = λ limit e.
    limited limit c.in-Some.count c.min.result c.args.value.now c.leading.result.now (sym c.in-Some.is ∙ e) c.min.ensures (omega arith) c.leading.ensures.text
