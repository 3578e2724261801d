use Rattle.std.proofs.Common.{◌≡◌, length}
use Rattle.tt_text.specs.Characters.{without_white_front}
use Rattle.tt_text.proofs.white_space.without_white_front.Given as goal

abbrev pub invariant-loop-text : goal.invariant-loop-text
invariant-loop-text l = without_white_front l.text ≡ without_white_front l.fn.text

abbrev pub decreases-loop-text : goal.decreases-loop-text
decreases-loop-text l = length l.text
