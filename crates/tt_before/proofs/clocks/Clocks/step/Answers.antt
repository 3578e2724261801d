use Rattle.std.proofs.Common.{slice_index, subst}
use Rattle.tt_before.specs.inside.Clocks.{AreJoined}
use Rattle.tt_before.specs.inside.Kept.{clock_of}
use Rattle.tt_before.proofs.clocks.Clocks.step.Goals as goal

pub returns : goal.returns
returns c = record {
  joined = slice_index c.in_ok-row.row.items;
  join = c.in_ok-row.ensures;
  more = c.in_ok-rank.ensures.counted;
  counts = c.in_ok-rank.ensures.count;
  gave = subst (λ items. AreJoined (clock_of c.give.new.self) (clock_of c.args.self.now) c.args.gives.now
      (slice_index items)) c.as_slice.ensures.value c.in_ok-give.ensures;
}
