use Rattle.std.proofs.Common.{◌≡◌, ◌+◌, length}
use Rattle.std.specs.List.{prefix_len}
use Rattle.tt_exprs.specs.Tokens.{is_word_byte}
use Rattle.tt_exprs.proofs.words.word_length.Given as goal

abbrev pub invariant-loop-rest : goal.invariant-loop-rest
invariant-loop-rest l = record {
  within : l.n + length l.rest ≡ length l.text;
  count : l.n + prefix_len is_word_byte l.rest ≡ prefix_len is_word_byte l.text;
}

abbrev pub decreases-loop-rest : goal.decreases-loop-rest
decreases-loop-rest l = length l.rest
