use Rattle.std.proofs.Common.{◌≡◌, ◌∷◌, ◌++◌, drop}
use Rattle.tt_shared_commands.proofs.running.with_name.Given as goal

abbrev pub invariant-loop-word : goal.invariant-loop-word
invariant-loop-word l = l.all ++ drop l.word-index l.words ≡ l.name ∷ l.words
