-- The arguments of the command as it is built: each takes one value a use, but the flags, which take none.
use Rattle.std.proofs.Common.{◌≡◌, ℕ, Bool, true, false, [], ◌∷◌, ◌++◌, Some, None, refl, sym, ◌∙◌}
use Rattle.std.specs.List.{AllByRecursion}
use Rattle.std.specs.Str.{bytes_eq}
use Rattle.clap.specs.Facts.{parser_of_value, unwrap_or_range}
use Rattle.clap.specs.Lexer.{long_of}
use Rattle.clap.specs.Walk.{Rule, Text, action_of, arg_by_id, arg_by_index, arg_by_long, arg_by_short, most_values, reading_by, takes_several, takes_values}
use Rattle.clap.specs.Simple.{Shape, built, filled, is_simple, with_index}
use Rattle.clap.specs.Faults.{is_simple_and_free}
use Rattle.clap.specs.declared.builder.action.ArgAction.TheVariants.{Append}
use Rattle.clap.specs.declared.builder.value_parser.Reading.TheVariants as reading
use Rattle.clap.specs.declared.builder.value_parser.ValueParser.TheVariants as parser
use Rattle.tt_words.specs.inside.Program.{bare, flag_rule, option_rule, program, words_name, words_rule}
use Rattle.tt_words.specs.Splitting.{name_of, takes_value}
use Rattle.tt_words.specs.declared.setting.Setting.{Setting}
use Rattle.tt_words.specs.declared.setting.Setting.TheVariants.{Workers, Steps, Limit, Record, Replay}
use Rattle.tt_words.specs.declared.setting.Setting.TheVariants.{Generate, Waits, Races, Debug}

unfoldable pub option_of : Setting → Rule
option_of setting = filled (option_rule (bare setting))

unfoldable pub flag_of : Setting → Rule
flag_of setting = filled (flag_rule (bare setting))

unfoldable pub words : Rule
words = with_index 1 (filled words_rule)

unfoldable pub top : Shape
top = (built program).top

-- each use has one value, which is kept beside those before
pub record TakesOne (rule : Rule) (id : Text) : Type 0 where
  pub named : rule.id ≡ id
  pub takes : takes_values rule ≡ true
  pub most : most_values rule ≡ 1
  pub range : unwrap_or_range rule.range ≡ record { start_inclusive = 1; end_inclusive = 1 }
  pub action : action_of rule ≡ Append
  pub parser : parser_of_value rule.parser ≡ parser.String
  pub reading : reading_by rule ≡ reading.AsWritten

pub option_takes : (setting : Setting) → TakesOne (option_of setting) (bare setting)
unfolding option_of
option_takes setting = record {
  named = refl;
  takes = refl;
  most = refl;
  range = refl;
  action = refl;
  parser = refl;
  reading = refl;
}

-- each use has no value, and counts as one with the empty value
pub record TakesNone (rule : Rule) (id : Text) : Type 0 where
  pub named : rule.id ≡ id
  pub takes : takes_values rule ≡ false
  pub most : most_values rule ≡ 0
  pub range : unwrap_or_range rule.range ≡ record { start_inclusive = 0; end_inclusive = 0 }
  pub missing : rule.missing ≡ [] ∷ []
  pub action : action_of rule ≡ Append
  pub parser : parser_of_value rule.parser ≡ parser.String
  pub reading : reading_by rule ≡ reading.AsWritten

pub flag_takes : (setting : Setting) → TakesNone (flag_of setting) (bare setting)
unfolding flag_of
flag_takes setting = record {
  named = refl;
  takes = refl;
  most = refl;
  range = refl;
  missing = refl;
  action = refl;
  parser = refl;
  reading = refl;
}

pub words_take : TakesOne words words_name
unfolding words
words_take = record {
  named = refl;
  takes = refl;
  most = refl;
  range = refl;
  action = refl;
  parser = refl;
  reading = refl;
}

pub words_several : takes_several words ≡ false
unfolding words
words_several = refl

pub words_trailing : words.trailing_var_arg ≡ false
unfolding words
words_trailing = refl

-- ---- the arguments by their names

pub by_index : arg_by_index top.rules 1 ≡ Some words
unfolding top words
by_index = refl

pub by_words : arg_by_id top.rules words_name ≡ Some words
unfolding top words
by_words = refl

true_not_false : (b : Bool) → b ≡ true → b ≡ false → ⊥
true_not_false b t f = let e : true ≡ false = sym t ∙ f in cc

pub by_id : (setting : Setting) → takes_value setting ≡ true → arg_by_id top.rules (bare setting) ≡ Some (option_of setting)
unfolding top option_of
by_id Workers takes = refl
by_id Steps takes = refl
by_id Limit takes = refl
by_id Record takes = refl
by_id Replay takes = refl
by_id Generate takes = refl
by_id Waits takes = absurd (true_not_false false takes refl)
by_id Races takes = absurd (true_not_false false takes refl)
by_id Debug takes = refl

pub by_long : (setting : Setting) → takes_value setting ≡ true → arg_by_long top.rules (bare setting) ≡ Some (option_of setting)
unfolding top option_of
by_long Workers takes = refl
by_long Steps takes = refl
by_long Limit takes = refl
by_long Record takes = refl
by_long Replay takes = refl
by_long Generate takes = refl
by_long Waits takes = absurd (true_not_false false takes refl)
by_long Races takes = absurd (true_not_false false takes refl)
by_long Debug takes = refl

pub flag_by_long : (setting : Setting) → takes_value setting ≡ false →
    arg_by_long top.rules (bare setting) ≡ Some (flag_of setting)
unfolding top flag_of
flag_by_long Workers takes = absurd (true_not_false true refl takes)
flag_by_long Steps takes = absurd (true_not_false true refl takes)
flag_by_long Limit takes = absurd (true_not_false true refl takes)
flag_by_long Record takes = absurd (true_not_false true refl takes)
flag_by_long Replay takes = absurd (true_not_false true refl takes)
flag_by_long Generate takes = absurd (true_not_false true refl takes)
flag_by_long Waits takes = refl
flag_by_long Races takes = refl
flag_by_long Debug takes = absurd (true_not_false true refl takes)

pub by_no_long : (name : Text) → ((setting : Setting) → bytes_eq (bare setting) name ≡ false) →
    arg_by_long top.rules name ≡ None
unfolding top
by_no_long name other =
    rw (
      other Workers,
      other Steps,
      other Limit,
      other Record,
      other Replay,
      other Generate,
      other Waits,
      other Races,
      other Debug,
    ) refl

pub by_no_short : (x : ℕ) → arg_by_short top.rules x ≡ None
unfolding top
by_no_short x = refl

pub no_defaults : AllByRecursion (λ (rule : Rule). rule.defaults ≡ []) top.rules
unfolding top
no_defaults = (refl, (refl, (refl, (refl, (refl, (refl, (refl, (refl, (refl, (refl, tt))))))))))

pub program_simple : is_simple program ≡ true
program_simple = refl

pub program_free : is_simple_and_free program ≡ true
program_free = refl

-- ---- names in words

pub long_name : (setting : Setting) → long_of (name_of setting) ≡ Some (bare setting, None)
long_name Workers = refl
long_name Steps = refl
long_name Limit = refl
long_name Record = refl
long_name Replay = refl
long_name Generate = refl
long_name Waits = refl
long_name Races = refl
long_name Debug = refl

pub long_joined : (setting : Setting) (value : Text) → long_of (name_of setting ++ (61 ∷ value)) ≡ Some (bare setting, Some value)
long_joined Workers value = refl
long_joined Steps value = refl
long_joined Limit value = refl
long_joined Record value = refl
long_joined Replay value = refl
long_joined Generate value = refl
long_joined Waits value = refl
long_joined Races value = refl
long_joined Debug value = refl
