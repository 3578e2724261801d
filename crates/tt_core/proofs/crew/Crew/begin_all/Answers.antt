use Rattle.std.proofs.Common.{◌≡◌, ◌+◌, length, refl}
use Rattle.tt_core.proofs.CrewLemmas.{one-more-begun}
use Rattle.tt_core.proofs.crew.Crew.begin_all.Goals as goal

pub loop-alloc-preserved : goal.loop-alloc-preserved
loop-alloc-preserved g c =
    let next : c.len-number.result + 1 ≡ length c.loop-alloc.self + 1 = rw c.len-number.ensures refl in
    one-more-begun c.args.setup.now c.args.desk.now.shared.rows c.args.self.now c.loop-alloc.self c.begin.new.self (c.len-number.result + 1)
    c.start_of.result.now
    c.loop-alloc.invariant next c.start_of.ensures.start c.in_ok-begin.ensures.begins
