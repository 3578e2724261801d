use Rattle.std.proofs.Common.{◌≡◌, drop}
use Rattle.tt_text.specs.Characters.{characters}
use Rattle.tt_strings.proofs.places.after_each.Given as goal

abbrev pub invariant-loop-count : goal.invariant-loop-count
invariant-loop-count l = drop l.count (characters l.text) ≡ drop l.fn.count (characters l.fn.text)

abbrev pub decreases-loop-count : goal.decreases-loop-count
decreases-loop-count l = l.count
