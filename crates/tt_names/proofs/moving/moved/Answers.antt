use Rattle.std.proofs.Common.{rules}
use Rattle.std.specs.Vec.Iter.{into_iter_items}
use Rattle.tt_names.proofs.Moves.{next_is_new}
use Rattle.tt_names.proofs.moving.moved.Goals as goal

pub add-requires-clause-new : goal.add-requires-clause-new
add-requires-clause-new g c =
    next_is_new c.loop-name.map.entries (into_iter_items c.loop-name.name-iterator) c.args.pairs.items (search rules)
    (c.in-Some.name, c.in-Some.item) (into_iter_items c.next.new.self) (search rules) c.requires.differ
