use Rattle.std.proofs.Common.{◌≡◌, drop}
use Rattle.tt_lists.specs.Commands.{item_answer}
use Rattle.tt_lists.proofs.commands.item.Given as goal

abbrev pub invariant-loop-word : goal.invariant-loop-word
invariant-loop-word l = item_answer l.initial.item l.words ≡ item_answer l.item (drop l.word-index l.words)
