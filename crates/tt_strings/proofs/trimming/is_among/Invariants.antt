use Rattle.std.proofs.Common.{◌≡◌, length}
use Rattle.tt_text.specs.Characters.{characters}
use Rattle.tt_strings.specs.Trimming.{is_among}
use Rattle.tt_strings.proofs.trimming.is_among.Given as goal

abbrev pub invariant-loop-first : goal.invariant-loop-first
invariant-loop-first l = is_among (characters l.listed) l.character ≡ is_among (characters l.fn.listed) l.character

abbrev pub decreases-loop-first : goal.decreases-loop-first
decreases-loop-first l = length l.listed
