-- Words ask for one thing at most.
use Rattle.std.proofs.Common.{◌≡◌, ◌≤◌, ◌<◌, ℕ, List, length, Option, Some, None, IfSome, IfNone, refl, sym, subst, arith}
use Rattle.std.specs.Option.{option_map}
use Rattle.tt_words.specs.Asked.{Asked, PartsAskFor, IsReading, WordsAskFor, values_in, values_of}
use Rattle.clap.specs.declared.parser.matches.ArgMatches.{ArgMatches}
use Rattle.tt_words.specs.inside.Program.{bare}
use Rattle.tt_words.specs.declared.setting.Setting.TheVariants.{Workers, Steps, Limit, Record, Replay}
use Rattle.tt_words.specs.declared.setting.Setting.TheVariants.{Generate, Waits, Races, Debug}
use Rattle.tt_words.specs.Splitting.{Given, Splits}
use Rattle.tt_words.specs.CodeValues.{asked_as_text}
use Rattle.tt_words.specs.inside.Matches.{HasParts, IsOnceBy, given_in, values_by}
use Rattle.tt_words.specs.declared.asked.Asked.{Asked as CodeAsked}
use Rattle.tt_words.specs.declared.setting.Setting.{Setting}
use Rattle.tt_words.proofs.SplitLemmas.{one_split}

-- what words ask for, by the one way in which they split
pub asks_of : (words : List (List ℕ)) (options : List Given) (ordinary : List (List ℕ)) (asked : Asked) →
    Splits words options ordinary → WordsAskFor words asked → PartsAskFor (values_in options) ordinary asked
asks_of words options ordinary asked splits reads =
    let same = one_split words reads.options options reads.ordinary ordinary reads.splits splits in
    subst (λ (o : List Given). PartsAskFor (values_in o) ordinary asked) same.0
    (subst (λ (w : List (List ℕ)). PartsAskFor (values_in reads.options) w asked) same.1 reads.asks)

pub once_of : (words : List (List ℕ)) (options : List Given) (ordinary : List (List ℕ)) (asked : Asked) →
    Splits words options ordinary → WordsAskFor words asked → ((setting : Setting) → length (values_of setting options) ≤ 1)
once_of words options ordinary asked splits reads =
    let same = one_split words reads.options options reads.ordinary ordinary reads.splits splits in
    subst (λ (o : List Given). (setting : Setting) → length (values_of setting o) ≤ 1) same.0 reads.once

-- what the code answers to words that split, if each option comes at most once
pub reading_is : (words : List (List ℕ)) (options : List Given) (ordinary : List (List ℕ)) →
    Splits words options ordinary → ((setting : Setting) → length (values_of setting options) ≤ 1) → (asked : Option CodeAsked) →
    IfSome asked (λ a. PartsAskFor (values_in options) ordinary (asked_as_text a)) →
    IfNone asked ((a : Asked) → ¬ (PartsAskFor (values_in options) ordinary a)) →
    IsReading words (option_map asked_as_text asked)
reading_is words options ordinary splits once (Some asked) found none = record {
  options = options;
  ordinary = ordinary;
  splits = splits;
  once = once;
  asks = found;
}
reading_is words options ordinary splits once None found none =
    λ asked reads. none asked (asks_of words options ordinary asked splits reads)

-- ---- what was found

if_none : {X : Type 0} (o : Option X) (P : Type 0) → P → IfNone o P
if_none None P p = p
if_none (Some x) P p = tt

few_not_many : (n : ℕ) → n ≤ 1 → 1 < n → ⊥
few_not_many n few many = omega arith

-- an option that comes twice
pub not_once : {X : Type 0} (o : Option X) (given : Setting → List (List ℕ)) (setting : Setting) →
    1 < length (given setting) → IfNone o (¬ (IsOnceBy given))
not_once o given setting many =
    if_none o (¬ (IsOnceBy given)) (λ once. few_not_many (length (given setting)) (once setting) many)

-- the values that were found are those of the options
pub values_are : (words : List (List ℕ)) (matches : ArgMatches) (parts : HasParts words matches) →
    values_by (λ setting. given_in matches (bare setting)) ≡ values_in parts.options
values_are words matches parts =
    rw (
      parts.of_options Workers,
      parts.of_options Steps,
      parts.of_options Limit,
      parts.of_options Record,
      parts.of_options Replay,
      parts.of_options Generate,
      parts.of_options Waits,
      parts.of_options Races,
      parts.of_options Debug,
    ) refl

pub once_is : (words : List (List ℕ)) (matches : ArgMatches) (parts : HasParts words matches) →
    IsOnceBy (λ setting. given_in matches (bare setting)) → (setting : Setting) → length (values_of setting parts.options) ≤ 1
once_is words matches parts once setting = subst (λ (v : List (List ℕ)). length v ≤ 1) (parts.of_options setting) (once setting)

pub once_back : (words : List (List ℕ)) (matches : ArgMatches) (parts : HasParts words matches) →
    ((setting : Setting) → length (values_of setting parts.options) ≤ 1) → IsOnceBy (λ setting. given_in matches (bare setting))
once_back words matches parts once = λ setting. subst (λ (v : List (List ℕ)). length v ≤ 1) (sym (parts.of_options setting)) (once setting)
