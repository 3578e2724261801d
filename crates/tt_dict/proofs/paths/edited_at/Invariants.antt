use Rattle.std.proofs.Common.{◌≡◌, length}
use Rattle.tt_dict.specs.Paths.{after_edit_at}
use Rattle.tt_dict.specs.inside.Levels.{around}
use Rattle.tt_dict.proofs.paths.edited_at.Given as goal

abbrev pub invariant-loop-next : goal.invariant-loop-next
invariant-loop-next l =
    after_edit_at l.edit l.fn.inner l.key l.keys ≡ around l.levels.items (after_edit_at l.edit l.inner l.at l.rest)

abbrev pub decreases-loop-next : goal.decreases-loop-next
decreases-loop-next l = length l.rest
