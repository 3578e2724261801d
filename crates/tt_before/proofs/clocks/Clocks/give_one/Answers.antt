use Rattle.std.proofs.Common.{◌∙◌, ap, slice_index, cond, Some}
use Rattle.std.specs.HashMap.{get}
use Rattle.tt_before.specs.inside.Kept.{clock_of, is_same, row_in}
use Rattle.tt_before.proofs.Joins.{give_alone, joined_from, put_back}
use Rattle.tt_before.proofs.clocks.Clocks.give_one.Goals as goal

pub returns : goal.returns
returns c =
    give_alone (λ one. row_in (get is_same c.insert.new.self one)) (clock_of c.args.self.now) c.args.object
    (slice_index c.join.new.row.items) (slice_index c.args.row.now)
    (joined_from (slice_index c.join.new.row.items) (slice_index c.row_or_none-known.result.items) (clock_of c.args.self.now c.args.object)
    (slice_index c.args.row.now) (λ t. c.row_or_none-known.ensures t ∙ ap (λ known. row_in known t) c.remove.ensures.value) c.in_ok-join.ensures)
    (λ other.
    ap row_in (c.in_ok-insert.ensures.updates.0 other
    ∙ ap (λ old. cond (is_same c.args.object other) (Some c.join.new.row) old) (c.remove.ensures.updates.0 other))
    ∙ put_back row_in (is_same c.args.object other) c.join.new.row (get is_same c.args.self.now.rows other))
