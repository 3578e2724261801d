use Rattle.std.proofs.Common.{◌≡◌, length}
use Rattle.tt_text.specs.Characters.{characters}
use Rattle.tt_strings.specs.Trimming.{trim_left}
use Rattle.tt_strings.proofs.trimming.without_front.Given as goal

abbrev pub invariant-loop-first : goal.invariant-loop-first
invariant-loop-first l = trim_left (characters l.trimmed) (characters l.text) ≡ trim_left (characters l.trimmed) (characters l.fn.text)

abbrev pub decreases-loop-first : goal.decreases-loop-first
decreases-loop-first l = length l.text
