use Rattle.std.proofs.Common.{◌≡◌, map, take}
use Rattle.tt_words.specs.CodeValues.{text_of}
use Rattle.tt_session.proofs.prepare.texts.Given as goal

abbrev pub invariant-loop-word : goal.invariant-loop-word
invariant-loop-word l = l.texts ≡ map text_of (take l.word-index l.words)
