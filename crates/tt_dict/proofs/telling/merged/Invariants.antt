use Rattle.std.proofs.Common.{◌≡◌, [], length, map}
use Rattle.tt_pairs.specs.Reading.{reading_of}
use Rattle.tt_dict.specs.Telling.{merge_of}
use Rattle.tt_dict.proofs.telling.merged.Given as goal

abbrev pub invariant-loop-word : goal.invariant-loop-word
invariant-loop-word l = merge_of [] (map reading_of l.words) ≡ merge_of l.all (map reading_of l.rest)

abbrev pub decreases-loop-word : goal.decreases-loop-word
decreases-loop-word l = length l.rest
