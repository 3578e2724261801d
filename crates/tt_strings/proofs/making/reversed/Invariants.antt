use Rattle.std.proofs.Common.{◌≡◌, ◌++◌, length}
use Rattle.std.specs.Prelude.{reverse}
use Rattle.tt_text.specs.Characters.{characters}
use Rattle.tt_strings.specs.Places.{bytes_of}
use Rattle.tt_strings.proofs.making.reversed.Given as goal

abbrev pub invariant-ends : goal.invariant-ends
invariant-ends l = l.made.items ++ bytes_of (reverse (characters l.left)) ≡ bytes_of (reverse (characters l.text))

abbrev pub decreases-ends : goal.decreases-ends
decreases-ends l = length l.left
