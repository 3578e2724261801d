use Rattle.std.proofs.Common.{◌∙◌, ◌++◌, ◌∷◌, [], ap, sym, subst, slice_index, arith, take}
use Rattle.std.proofs.lemmas.List.{take_more}
use Rattle.tt_before.specs.inside.Clocks.{AreJoined}
use Rattle.tt_before.specs.inside.Kept.{clock_of}
use Rattle.tt_before.proofs.Joins.{all_taken, give_more, give_none}
use Rattle.tt_before.proofs.clocks.Clocks.give.Goals as goal

pub loop-object-init : goal.loop-object-init
loop-object-init c = give_none (clock_of c.args.self.now) (slice_index c.args.row.now)

pub loop-object-preserved : goal.loop-object-preserved
loop-object-preserved c =
    subst (λ objects. AreJoined (clock_of c.give_one.new.self) (clock_of c.args.self.now) objects (slice_index c.args.row.now))
    (sym (take_more c.args.gives.now c.loop-object.object-index c.object-item.result c.loop-object-test.true
    ∙ ap (λ one. take c.loop-object.object-index c.args.gives.now ++ one ∷ []) (sym c.object-item.is)))
    (give_more (clock_of c.give_one.new.self) (clock_of c.loop-object.self) (clock_of c.args.self.now) (take c.loop-object.object-index c.args.gives.now)
    c.object-item.result (slice_index c.args.row.now) c.loop-object.invariant
    (subst (λ one. AreJoined (clock_of c.give_one.new.self) (clock_of c.loop-object.self) (one ∷ []) (slice_index c.args.row.now))
    c.in_ok-copy.ensures.copied c.in_ok-give_one.ensures))

pub returns : goal.returns
returns c =
    subst (λ objects. AreJoined (clock_of c.loop-object.self) (clock_of c.args.self.now) objects (slice_index c.args.row.now))
    (all_taken c.args.gives.now c.loop-object.object-index (omega (arith, c.loop-object-test.false))) c.loop-object.invariant
