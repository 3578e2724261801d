use Rattle.std.proofs.Common.{◌∙◌, rules}
use Rattle.tt_control.specs.Refusals.{wrong_number}
use Rattle.tt_control.proofs.Pairs.{column_read}
use Rattle.tt_control.proofs.turns.read_from.Goals as goal

pub loop-rest-preserved : goal.loop-rest-preserved
loop-rest-preserved c =
    c.loop-rest.invariant ∙
    column_read
    (wrong_number c.args.usage.now)
    c.loop-rest.columns.items
    c.push.new.self.items
    c.in-Column.column
    c.names-item.result
    c.values-item.result
    c.loop-rest.rest.now
    c.in-len2-up.len_at_least
    (search rules)
    (search rules)
    (search rules)
    c.in_ok-push-in-Column.ensures.items
