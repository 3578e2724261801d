-- What the code's values stand for, as words and numbers.
use Rattle.std.specs.Prelude.{ℕ, List, map}
use Rattle.std.specs.Option.{option_map}
use Rattle.std.specs.Borrow.{Bor}
use Rattle.tt_words.specs.Asked.{Asked, Report, NoReport, Waits, Races, Debug, Values, plain, replay, generate}
use Rattle.tt_words.specs.Asked as spec
use Rattle.tt_words.specs.declared.asked.Asked.{Asked as CodeAsked}
use Rattle.tt_words.specs.declared.asked.Asked.TheVariants as asked
use Rattle.tt_words.specs.declared.asked.Generate.{Generate as CodeGenerate}
use Rattle.tt_words.specs.declared.asked.Plain.{Plain as CodePlain}
use Rattle.tt_words.specs.declared.asked.Replay.{Replay as CodeReplay}
use Rattle.tt_words.specs.declared.asked.Report.{Report as CodeReport}
use Rattle.tt_words.specs.declared.asked.Report.TheVariants as report
use Rattle.tt_words.specs.declared.values.Values.{Values as CodeValues}

-- the bytes of a text
abbrev pub text_of : Bor (List ℕ) → List ℕ
text_of text = text.now

-- what each option has, and whether each flag is given
abbrev pub values_as_text : CodeValues → Values
values_as_text values = record {
  workers = option_map text_of values.workers;
  steps = option_map text_of values.steps;
  limit = option_map text_of values.limit;
  kept = option_map text_of values.kept;
  replay = option_map text_of values.replay;
  generate = option_map text_of values.generate;
  waits = values.waits;
  races = values.races;
  debug = option_map text_of values.debug;
}

abbrev pub plain_as_text : CodePlain → spec.Plain
plain_as_text asked = record {
  script = asked.script.now;
  arguments = map text_of asked.arguments.items;
  workers = asked.workers;
  steps = asked.steps;
  limit = asked.limit;
  kept = option_map text_of asked.kept;
}

abbrev pub report_as_text : CodeReport → Report
report_as_text report.None = NoReport
report_as_text report.Waits = Waits
report_as_text report.Races = Races
report_as_text (report.Debug file) = Debug file.now

abbrev pub replay_as_text : CodeReplay → spec.Replay
replay_as_text asked = record {
  schedule = asked.schedule.now;
  script = asked.script.now;
  arguments = map text_of asked.arguments.items;
  limit = asked.limit;
  report = report_as_text asked.report;
}

abbrev pub generate_as_text : CodeGenerate → spec.Generate
generate_as_text asked = record {
  script = asked.script.now;
  number = asked.number;
  size = asked.size;
  steps = asked.steps;
  limit = asked.limit;
  kept = option_map text_of asked.kept;
}

-- what is asked for
abbrev pub asked_as_text : CodeAsked → Asked
asked_as_text (asked.Plain asked) = plain (plain_as_text asked)
asked_as_text (asked.Replay asked) = replay (replay_as_text asked)
asked_as_text (asked.Generate asked) = generate (generate_as_text asked)
