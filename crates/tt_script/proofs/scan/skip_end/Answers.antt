use Rattle.std.proofs.Common.{sym, ◌∙◌}
use Rattle.tt_script.proofs.CommandSteps.{after_skip-word}
use Rattle.tt_script.proofs.scan.skip_end.Goals as goal

pub returns-else-text-at-eq35-clause-word : goal.returns-else-text-at-eq35-clause-word
returns-else-text-at-eq35-clause-word c h =
    after_skip-word c.args.text.now c.loop-at.at h (sym c.is_separator.ensures ∙ c.if-is_separator.false)
    (sym c.continues_line.ensures ∙ c.if-continues_line.false)
