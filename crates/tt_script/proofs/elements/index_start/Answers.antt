use Rattle.std.proofs.Common.{sym, ◌∙◌}
use Rattle.tt_script.proofs.Joining.{index_within}
use Rattle.tt_script.proofs.elements.index_start.Goals as goal

pub returns-then-begins-clause-within : goal.returns-then-begins-clause-within
returns-then-begins-clause-within c =
    index_within c.args.name.now _ _ c.saturating_sub.ensures (sym c.begins.ensures ∙ c.if-begins.true) c.first_parenthesis.ensures
