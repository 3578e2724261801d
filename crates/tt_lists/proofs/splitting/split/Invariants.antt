use Rattle.std.proofs.Common.{◌≡◌, length}
use Rattle.tt_text.specs.Characters.{without_white_front}
use Rattle.tt_lists.specs.Reading.{split_of}
use Rattle.tt_lists.proofs.Splits.{after_items}
use Rattle.tt_lists.proofs.splitting.split.Given as goal

abbrev pub invariant-loop-rest : goal.invariant-loop-rest
invariant-loop-rest l = record {
  split : split_of l.fn.text ≡ after_items l.items (split_of l.rest);
  front : without_white_front l.rest ≡ l.rest;
}

abbrev pub decreases-loop-rest : goal.decreases-loop-rest
decreases-loop-rest l = length l.rest
