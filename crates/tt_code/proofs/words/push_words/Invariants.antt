use Rattle.std.proofs.Common.{◌≡◌, ◌≤◌, drop, length}
use Rattle.tt_script.specs.Plain.{plain_words}
use Rattle.tt_code.specs.Making as making
use Rattle.tt_code.proofs.words.push_words.Given as goal

abbrev pub invariant-loop-left : goal.invariant-loop-left
invariant-loop-left l =
    (l.left ≤ length l.words) × (l.code ≡ making.words_code (plain_words (drop l.left l.words)) l.fn.code)

abbrev pub decreases-loop-left : goal.decreases-loop-left
decreases-loop-left l = l.left
