use Rattle.std.proofs.Common.{◌≡◌, map, drop}
use Rattle.tt_search_words.specs.Asked.{values_of}
use Rattle.tt_search_words.specs.CodeValues.{choice_as_text}
use Rattle.tt_search_words.proofs.ValueLemmas.{values_with}
use Rattle.tt_search_words.proofs.values.value.Given as goal

abbrev pub invariant-loop-choice : goal.invariant-loop-choice
invariant-loop-choice l =
    values_of l.setting (map choice_as_text l.options)
    ≡ values_with l.setting l.found (drop l.choice-index l.options)
