use Rattle.std.proofs.Common.{◌≡◌, length}
use Rattle.tt_text.specs.Characters.{characters}
use Rattle.tt_text.specs.Glob.{is_listed, set_members}
use Rattle.tt_text.proofs.glob_set.is_listed.Given as goal

abbrev pub invariant-loop-range : goal.invariant-loop-range
invariant-loop-range l =
    is_listed (set_members (characters l.set)) l.character ≡ is_listed (set_members (characters l.rest)) l.character

abbrev pub decreases-loop-range : goal.decreases-loop-range
decreases-loop-range l = length l.rest
