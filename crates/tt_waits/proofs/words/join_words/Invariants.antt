use Rattle.std.proofs.Common.{◌≡◌, ◌<◌, ◌≤◌, ◌+◌, ℕ, length, slice_index, ◌⊎◌, bit_or}
use Rattle.tt_waits.proofs.words.join_words.Given as goal

abbrev pub invariant-loop-word : goal.invariant-loop-word
invariant-loop-word l = record {
  same_length : length l.words ≡ length l.fn.words;
  joined : (w : ℕ) → w < l.word →
      slice_index l.words (l.into + w) ≡ bit_or (slice_index l.fn.words (l.into + w)) (slice_index l.fn.words (l.other + w));
  others : (x : ℕ) → (x < l.into) ⊎ (l.into + l.word ≤ x) → slice_index l.words x ≡ slice_index l.fn.words x;
}
