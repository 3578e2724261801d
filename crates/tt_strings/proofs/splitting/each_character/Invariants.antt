use Rattle.std.proofs.Common.{◌≡◌, ◌++◌, length}
use Rattle.tt_text.specs.Characters.{characters}
use Rattle.tt_strings.proofs.splitting.each_character.Given as goal

abbrev pub invariant-characters : goal.invariant-characters
invariant-characters l = l.all ++ characters l.left ≡ characters l.text

abbrev pub decreases-characters : goal.decreases-characters
decreases-characters l = length l.left
