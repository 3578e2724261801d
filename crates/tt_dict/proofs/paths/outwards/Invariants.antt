use Rattle.std.proofs.Common.{◌≡◌, Ok, length}
use Rattle.tt_dict.specs.inside.Levels.{around}
use Rattle.tt_dict.proofs.paths.outwards.Given as goal

abbrev pub invariant-loop-level : goal.invariant-loop-level
invariant-loop-level l = around l.fn.levels.items (Ok l.fn.inner) ≡ around l.levels.items (Ok l.inner)

abbrev pub decreases-loop-level : goal.decreases-loop-level
decreases-loop-level l = length l.levels.items
