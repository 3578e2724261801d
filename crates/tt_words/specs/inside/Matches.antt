-- What the parser found in the words of a command line.
use Rattle.std.specs.Prelude.{◌≡◌, ◌≤◌, ℕ, List, [], length, Option, Some, None, is_some}
use Rattle.std.specs.Option.{option_map_or}
use Rattle.clap.specs.Words.{found_of, matched_of, raw_values}
use Rattle.clap.specs.declared.parser.matches.ArgMatches.{ArgMatches}
use Rattle.tt_words.specs.Asked.{Values, first, values_of}
use Rattle.tt_words.specs.inside.Program.{bare, words_name}
use Rattle.tt_words.specs.Splitting.{Given, Splits}
use Rattle.tt_words.specs.declared.setting.Setting.{Setting}
use Rattle.tt_words.specs.declared.setting.Setting.TheVariants.{Workers, Steps, Limit, Record, Replay}
use Rattle.tt_words.specs.declared.setting.Setting.TheVariants.{Generate, Waits, Races, Debug}

-- the values under a name, in order
abbrev pub given_in : ArgMatches → List ℕ → List (List ℕ)
given_in matches name = option_map_or raw_values (matched_of (found_of matches) name) []

-- each option has the first of its values, and a flag is given if it has one
abbrev pub values_by : (Setting → List (List ℕ)) → Values
values_by given = record {
  workers = first (given Workers);
  steps = first (given Steps);
  limit = first (given Limit);
  kept = first (given Record);
  replay = first (given Replay);
  generate = first (given Generate);
  waits = is_some (first (given Waits));
  races = is_some (first (given Races));
  debug = first (given Debug);
}

-- each option is given at most once
abbrev pub IsOnceBy : (Setting → List (List ℕ)) → Type 0
IsOnceBy given = (setting : Setting) → length (given setting) ≤ 1

-- words split into the options and the ordinary words that were found
pub record HasParts (words : List (List ℕ)) (matches : ArgMatches) : Type 0 where
  pub options : List Given
  pub ordinary : List (List ℕ)
  pub splits : Splits words options ordinary
  pub of_options : (setting : Setting) → given_in matches (bare setting) ≡ values_of setting options
  pub of_words : given_in matches words_name ≡ ordinary

-- words split in no way
abbrev pub AreWrong : List (List ℕ) → Type 0
AreWrong words = (options : List Given) (ordinary : List (List ℕ)) → ¬ Splits words options ordinary

-- the parts that words split into, or that they don't split
abbrev pub AreParts : List (List ℕ) → Option ArgMatches → Type 0
AreParts words (Some matches) = HasParts words matches
AreParts words None = AreWrong words
