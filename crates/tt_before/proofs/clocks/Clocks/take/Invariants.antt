use Rattle.std.proofs.Common.{slice_index, take}
use Rattle.tt_before.specs.inside.Clocks.{IsJoinOf}
use Rattle.tt_before.specs.inside.Kept.{clock_of}
use Rattle.tt_before.proofs.clocks.Clocks.take.Given as goal

abbrev pub invariant-loop-object : goal.invariant-loop-object
invariant-loop-object l = IsJoinOf (slice_index l.row.items) (clock_of l.self) (take l.object-index l.takes)
