-- What the code's values stand for, as words and numbers.
use Rattle.std.specs.Prelude.{map}
use Rattle.std.specs.Option.{option_map}
use Rattle.tt_words.specs.CodeValues.{plain_as_text, text_of}
use Rattle.tt_search_words.specs.Asked.{Search, Values}
use Rattle.tt_search_words.specs.Parts.{Choice}
use Rattle.tt_search_words.specs.inside.Places.{Parts, Step, plain, chooses, leads, fails}
use Rattle.tt_search_words.specs.declared.asked.Search.{Search as CodeSearch}
use Rattle.tt_search_words.specs.declared.parts.Parts.{Parts as CodeParts}
use Rattle.tt_search_words.specs.declared.places.Choice.{Choice as CodeChoice}
use Rattle.tt_search_words.specs.declared.places.Step.{Step as CodeStep}
use Rattle.tt_search_words.specs.declared.places.Step.TheVariants as step
use Rattle.tt_search_words.specs.declared.values.Values.{Values as CodeValues}

-- an option with its value
abbrev pub choice_as_text : CodeChoice → Choice
choice_as_text choice = record { setting = choice.setting; value = text_of choice.value }

-- what a word does
abbrev pub step_as_text : CodeStep → Step
step_as_text step.Plain = plain
step_as_text (step.Chooses choice) = chooses (choice_as_text choice)
step_as_text (step.Leads place) = leads place
step_as_text step.Fails = fails

-- options and ordinary words
abbrev pub parts_as_text : CodeParts → Parts
parts_as_text parts = record {
  options = map choice_as_text parts.options.items;
  ordinary = map text_of parts.ordinary.items;
}

-- what each option has
abbrev pub values_as_text : CodeValues → Values
values_as_text values = record {
  runs = option_map text_of values.runs;
  seed = option_map text_of values.seed;
  switches = option_map text_of values.switches;
  steps = option_map text_of values.steps;
  limit = option_map text_of values.limit;
  workers = option_map text_of values.workers;
  differ = option_map text_of values.differ;
  kept = option_map text_of values.kept;
}

-- what is asked for
abbrev pub search_as_text : CodeSearch → Search
search_as_text search = record {
  plain = plain_as_text search.plain;
  runs = search.runs;
  seed = search.seed;
  switches = search.switches;
  difference = search.difference;
}
