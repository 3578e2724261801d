use Rattle.std.proofs.Common.{◌++◌, ◌∷◌}
use Rattle.tt_words.proofs.OrderLemmas.{moves_after, options_move, reads_moved, word_moves, word_moves_back}
use Rattle.tt_words.proofs.laws.order_of_options.Goals as goal

pub returns-clause-options : goal.returns-clause-options
returns-clause-options c = λ before one other after given second asked whole is_one is_other.
    reads_moved (before ++ (one ++ (other ++ after))) (before ++ (other ++ (one ++ after))) asked
    (moves_after _ _ whole (options_move one other after given second is_one is_other))

pub returns-clause-words : goal.returns-clause-words
returns-clause-words c = λ before one after word given asked whole is_one plain. (
  reads_moved (before ++ (one ++ (word ∷ after))) (before ++ (word ∷ (one ++ after))) asked
      (moves_after _ _ whole (word_moves one after word given is_one plain)),
  reads_moved (before ++ (word ∷ (one ++ after))) (before ++ (one ++ (word ∷ after))) asked
      (moves_after _ _ whole (word_moves_back one after word given is_one plain)),
)
