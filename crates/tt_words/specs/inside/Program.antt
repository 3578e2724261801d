-- The program's command as clap sees it: seven options with a value each, two flags, and ordinary words.
use Rattle.std.specs.Prelude.{ℕ, List, [], ◌∷◌, Some, true, codes}
use Rattle.clap.specs.Walk.{Rule}
use Rattle.clap.specs.Simple.{App, new_app, new_rule, on_top, with_rule}
use Rattle.clap.specs.declared.builder.action.ArgAction.TheVariants.{Append}
use Rattle.tt_words.specs.declared.setting.Setting.{Setting}
use Rattle.tt_words.specs.declared.setting.Setting.TheVariants.{Workers, Steps, Limit, Record, Replay}
use Rattle.tt_words.specs.declared.setting.Setting.TheVariants.{Generate, Waits, Races, Debug}

-- the name of an option, without its dashes
abbrev pub bare : Setting → List ℕ
bare Workers = codes "workers"
bare Steps = codes "steps"
bare Limit = codes "limit"
bare Record = codes "record"
bare Replay = codes "replay"
bare Generate = codes "generate"
bare Waits = codes "waits"
bare Races = codes "races"
bare Debug = codes "debug"

-- the name of the ordinary words
abbrev pub words_name : List ℕ
words_name = codes "words"

-- an option with a value, which may come more than once
abbrev pub option_rule : (name : List ℕ) → Rule
option_rule name = record (new_rule name) { long = Some name; action = Some Append }

-- a flag, which may come more than once: a use takes no value, and counts as one with the empty value
abbrev pub flag_rule : (name : List ℕ) → Rule
flag_rule name = record (option_rule name) {
  range = Some (record { start_inclusive = 0; end_inclusive = 0 });
  missing = [] ∷ [];
}

-- the ordinary words
abbrev pub words_rule : Rule
words_rule = record (new_rule words_name) { action = Some Append }

-- no options but these, `--help` included; the words are those after the program's name
abbrev pub base : App
base = on_top (λ shape. record shape {
  no_binary_name = true;
  disable_help_flag = true;
  disable_version_flag = true;
}) (new_app (codes "tclthread"))

abbrev pub program : App
program =
    with_rule (with_rule (with_rule (with_rule (with_rule (with_rule (with_rule (with_rule (with_rule (with_rule base
    (option_rule (bare Workers))) (option_rule (bare Steps))) (option_rule (bare Limit)))
    (option_rule (bare Record))) (option_rule (bare Replay))) (option_rule (bare Generate)))
    (flag_rule (bare Waits))) (flag_rule (bare Races))) (option_rule (bare Debug))) words_rule
