use Rattle.std.proofs.Common.{◌∙◌, sym, rules}
use Rattle.tt_dict.proofs.Inwards.{edit_stops}
use Rattle.tt_dict.proofs.paths.edited_at.Goals as goal

pub returns-in-Err : goal.returns-in-Err
returns-in-Err c =
    sym
    (c.loop-next.invariant
    ∙ edit_stops c.args.edit.now c.loop-next.levels.items c.loop-next.inner c.loop-next.at.now c.in-Some.next.now
    c.in-Err.message c.loop-next.rest.now c.in-Some.later.now (search rules) (search rules))
