use Rattle.std.proofs.Common.{sym, ◌∙◌}
use Rattle.tt_strings.proofs.Keys.{empty_nowhere, no_bytes, cut_character}
use Rattle.tt_strings.proofs.mapping.after_key.Goals as goal

pub returns-in_default-clause-cases : goal.returns-in_default-clause-cases
returns-in_default-clause-cases c = empty_nowhere c.args.text.now c.args.key.now c.in_default.len_below

pub returns-in_default-after_bytes-clause-cases : goal.returns-in_default-after_bytes-clause-cases
returns-in_default-after_bytes-clause-cases c = no_bytes c.args.text.now c.args.key.now c.in_default-after_bytes.ensures

pub returns-then-goes_on-clause-cases : goal.returns-then-goes_on-clause-cases
returns-then-goes_on-clause-cases c =
    cut_character c.args.text.now c.args.key.now c.in-Some.after.now c.in-Some.ensures (sym c.goes_on.ensures ∙ c.if-goes_on.true)
