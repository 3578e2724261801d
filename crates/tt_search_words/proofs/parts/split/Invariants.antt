use Rattle.std.proofs.Common.{◌≡◌, map, drop, string_bytes}
use Rattle.tt_search_words.specs.inside.Places.{parts_of}
use Rattle.tt_search_words.proofs.StepLemmas.{parts_with}
use Rattle.tt_search_words.proofs.parts.split.Given as goal

abbrev pub invariant-loop-word : goal.invariant-loop-word
invariant-loop-word l =
    parts_of (map string_bytes l.words)
    ≡ parts_with l.options.items l.ordinary.items l.place (drop l.word-index l.words)
