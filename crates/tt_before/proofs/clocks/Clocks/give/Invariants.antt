use Rattle.std.proofs.Common.{slice_index, take}
use Rattle.tt_before.specs.inside.Clocks.{AreJoined}
use Rattle.tt_before.specs.inside.Kept.{clock_of}
use Rattle.tt_before.proofs.clocks.Clocks.give.Given as goal

abbrev pub invariant-loop-object : goal.invariant-loop-object
invariant-loop-object l = AreJoined (clock_of l.self) (clock_of l.fn.self) (take l.object-index l.gives) (slice_index l.row)
