use Rattle.std.proofs.Common.{◌∙◌, ◌++◌, ◌∷◌, [], ap, sym, subst, slice_index, arith, take}
use Rattle.std.proofs.lemmas.List.{take_more}
use Rattle.tt_before.specs.inside.Clocks.{IsJoinOf}
use Rattle.tt_before.specs.inside.Kept.{clock_of}
use Rattle.tt_before.proofs.Joins.{all_taken, take_more_of, take_none}
use Rattle.tt_before.proofs.clocks.Clocks.take.Goals as goal

pub loop-object-init : goal.loop-object-init
loop-object-init c = take_none (clock_of c.args.self.now) (slice_index c.new-row.result.items) (λ t. ap
    (λ items. slice_index items t) c.new-row.ensures.items)

pub loop-object-preserved : goal.loop-object-preserved
loop-object-preserved c =
    subst (λ objects. IsJoinOf (slice_index c.join_into.new.row.items) (clock_of c.args.self.now) objects)
    (sym (take_more c.args.takes.now c.loop-object.object-index c.object-item.result c.loop-object-test.true
    ∙ ap (λ one. take c.loop-object.object-index c.args.takes.now ++ one ∷ []) (sym c.object-item.is)))
    (take_more_of (clock_of c.args.self.now) (slice_index c.join_into.new.row.items) (slice_index c.loop-object.row.items)
    (take c.loop-object.object-index c.args.takes.now) c.object-item.result c.loop-object.invariant c.in_ok-join_into.ensures)

pub returns : goal.returns
returns c =
    subst (λ objects. IsJoinOf (slice_index c.loop-object.row.items) (clock_of c.args.self.now) objects)
    (all_taken c.args.takes.now c.loop-object.object-index (omega (arith, c.loop-object-test.false))) c.loop-object.invariant
