use Rattle.std.proofs.Common.{◌∙◌, sym, refl}
use Rattle.tt_before.proofs.RaceCounts.{shared_here, shared_later}
use Rattle.tt_before.proofs.finding.first_shared.Goals as goal

pub loop-key-init : goal.loop-key-init
loop-key-init c = refl

pub loop-key-preserved : goal.loop-key-preserved
loop-key-preserved c =
    c.loop-key.invariant
    ∙ shared_later c.args.keys.now c.args.others.now c.loop-key.key-index c.key-item.result c.loop-key-test.true c.key-item.is
    (sym c.contains.ensures.value ∙ c.if-contains.false)

pub returns-then-contains : goal.returns-then-contains
returns-then-contains c =
    sym (c.loop-key.invariant
    ∙ shared_here c.args.keys.now c.args.others.now c.loop-key.key-index c.key-item.result c.loop-key-test.true c.key-item.is
    (sym c.contains.ensures.value ∙ c.if-contains.true))
