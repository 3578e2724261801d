use Rattle.std.proofs.Common.{◌≡◌, length}
use Rattle.tt_number.specs.Numerals.{without_white_back}
use Rattle.tt_number.proofs.numeral.without_white_back.Given as goal

abbrev pub invariant-loop-text : goal.invariant-loop-text
invariant-loop-text l = without_white_back l.text ≡ without_white_back l.fn.text

abbrev pub decreases-loop-text : goal.decreases-loop-text
decreases-loop-text l = length l.text
