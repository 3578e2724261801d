use Rattle.std.proofs.Common.{ap, ◌∙◌}
use Rattle.tt_exprs.specs.inside.Cutting.{reading_answer}
use Rattle.tt_exprs.proofs.ParseSteps.{parse-answer}
use Rattle.tt_exprs.proofs.parsing.parse.Goals as goal

pub returns : goal.returns
returns c = record { exact = c.in_ok-parsed.ensures ∙ ap (reading_answer c.args.text.now) c.in_ok-reading.ensures ∙ parse-answer c.args.text.now }
