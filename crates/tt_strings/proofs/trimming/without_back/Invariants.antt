use Rattle.std.proofs.Common.{◌≡◌, length}
use Rattle.tt_text.specs.Characters.{characters}
use Rattle.tt_strings.specs.Trimming.{trim_right}
use Rattle.tt_strings.proofs.trimming.without_back.Given as goal

abbrev pub invariant-loop-front : goal.invariant-loop-front
invariant-loop-front l = trim_right (characters l.trimmed) (characters l.text) ≡ trim_right (characters l.trimmed) (characters l.fn.text)

abbrev pub decreases-loop-front : goal.decreases-loop-front
decreases-loop-front l = length l.text
