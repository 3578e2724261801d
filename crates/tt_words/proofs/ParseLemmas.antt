-- What the parser makes of words, by the parts into which they split.
use Rattle.std.proofs.Common.{◌≡◌, Bool, true, false, List, [], ◌∷◌, map, Option, Some, None, is_some, bytes_eq, ◌||◌}
use Rattle.std.proofs.Common.{if◌then◌else◌, inl, inr, refl, sym, ap, ◌∙◌, subst}
use Rattle.std.specs.List.{AllByRecursion, find, fold}
use Rattle.std.specs.Option.{option_map, option_map_or}
use Rattle.std.specs.Str.{IsUtf8}
use Rattle.std.specs.Prelude.{String, string_bytes}
use Rattle.std.proofs.lemmas.Str.{IsUtf8-had}
use Rattle.clap.specs.Faults.{check_fault, default_fault, defaults_fault, entered_fault, fault_of, settle_fault, walk_fault}
use Rattle.clap.specs.Kinds.{HasKind, Kinds, or_else}
use Rattle.clap.specs.Matches.{found_of, matched_of, raw_values}
use Rattle.clap.specs.Simple.{App, HasMatchesOf, built, entered, matches_of}
use Rattle.clap.specs.Faults.{is_simple_and_free}
use Rattle.clap.specs.Values.{kind_of}
use Rattle.clap.specs.declared.error.Error.{Error}
use Rattle.clap.specs.declared.error.kind.ErrorKind.TheVariants as kind
use Rattle.clap.specs.declared.parser.matches.ArgMatches.{ArgMatches}
use Rattle.clap.specs.Walk.{Row, Rule, Text, idle, finished, has_row, row_of, rows_of, walk, walked, with_default, default_rows, reading_by, nothing_held}
use Rattle.clap.specs.declared.parser.matches.Found.{Found}
use Rattle.clap.proofs.WalkLemmas.{find_row}
use Rattle.clap.specs.Facts.{Entry}
use Rattle.tt_words.specs.Asked.{values_of}
use Rattle.tt_words.specs.inside.Program.{bare, program, words_name}
use Rattle.tt_words.specs.Splitting.{Given, Splits}
use Rattle.tt_words.specs.declared.setting.Setting.{Setting}
use Rattle.tt_words.proofs.FaultLemmas.{Parts, faultless}
use Rattle.tt_words.proofs.RowLemmas.{values_at}
use Rattle.tt_words.proofs.RuleLemmas.{no_defaults, program_free, program_simple, top}
use Rattle.tt_words.specs.inside.Matches.{AreWrong, HasParts}
use Rattle.tt_words.proofs.StepLemmas.{at, or_else_none}
use Rattle.tt_words.proofs.WalkLemmas.{EndsWell, ends_split, fault_from, rows_from}

-- ---- defaults, of which there are none

either : (b : Bool) (rows : List Row) → (if b then rows else rows) ≡ rows
either true rows = refl
either false rows = refl

default_kept : (rows : List Row) (rule : Rule) → rule.defaults ≡ [] → with_default rows rule ≡ rows
default_kept rows rule e = rw e (either (has_row rule.id rows) rows)

defaults_kept : (rows : List Row) (rules : List Rule) → AllByRecursion (λ (rule : Rule). rule.defaults ≡ []) rules →
    fold with_default rows rules ≡ rows
defaults_kept rows [] none = refl
defaults_kept rows (rule ∷ rules) none =
    ap (λ (r : List Row). fold with_default r rules) (default_kept rows rule none.0) ∙ defaults_kept rows rules none.1

default_fine : (b : Bool) (k : Kinds) → (if b || true then [] else k) ≡ []
default_fine true k = refl
default_fine false k = refl

no_default_fault : (rows : List Row) (rule : Rule) → rule.defaults ≡ [] → default_fault rows rule ≡ []
no_default_fault rows rule e = rw e (default_fine (has_row rule.id rows) _)

defaults_fine : (rows : List Row) (rules : List Rule) → AllByRecursion (λ (rule : Rule). rule.defaults ≡ []) rules →
    defaults_fault rows rules ≡ []
unfolding defaults_fault
defaults_fine rows [] none = refl
defaults_fine rows (rule ∷ rules) none =
    ap (λ (k : Kinds). or_else k (defaults_fault (with_default rows rule) rules)) (no_default_fault rows rule none.0)
    ∙ defaults_fine (with_default rows rule) rules none.1

-- ---- subcommands, of which there are none

enters_none : (stop : Option (Text × List Text)) → entered_fault (built program) stop ≡ []
enters_none None = refl
enters_none (Some p) = refl

has_none : (stop : Option (Text × List Text)) → is_some (entered (built program) stop) ≡ false
has_none None = refl
has_none (Some p) = refl

check_fine : (rows : List Row) (has : Bool) → has ≡ false → check_fault (built program).top rows has ≡ []
check_fine rows has e = rw e refl

-- ---- the whole parse

only_two : (walk below pending defaults check : Kinds) → below ≡ [] → defaults ≡ [] → check ≡ [] →
    or_else walk (or_else below (or_else pending (or_else defaults check))) ≡ or_else walk pending
only_two walk below pending defaults check a b c = rw (a, b, c) (ap (or_else walk) (or_else_none pending))

start : List Text → Rattle.clap.specs.Walk.Walk
start words = fold (walked top.rules []) (at [] None idle false) words

pub fault_is : (words : List Text) → fault_of program words ≡ fault_from (at [] None idle false) words
unfolding top start
fault_is words =
    only_two (walk_fault top [] (at [] None idle false) words) (entered_fault (built program) (start words).stopped)
    (settle_fault top.rules top.args_override_self (start words).held)
    (defaults_fault (rows_from (at [] None idle false) words) top.rules)
    (check_fault (built program).top (finished top.rules (start words).held) (is_some (entered (built program) (start words).stopped)))
    (enters_none (start words).stopped) (defaults_fine (rows_from (at [] None idle false) words) top.rules no_defaults)
    (check_fine (finished top.rules (start words).held) (is_some (entered (built program) (start words).stopped)) (has_none (start words).stopped))

pub rows_are : (words : List Text) → matches_of program words ≡ rows_from (at [] None idle false) words
unfolding top
rows_are words = defaults_kept (rows_from (at [] None idle false) words) top.rules no_defaults

ends : (words : List Text) (options : List Given) (ordinary : List Text) → Splits words options ordinary →
    EndsWell [] None idle false words options ordinary
ends words options ordinary splits = ends_split [] None idle words options ordinary tt refl splits

pub parse_fine : (words : List Text) (options : List Given) (ordinary : List Text) → Splits words options ordinary →
    fault_of program words ≡ []
parse_fine words options ordinary splits = fault_is words ∙ (ends words options ordinary splits).fault

pub parse_parts : (words : List Text) → AllByRecursion IsUtf8 words → fault_of program words ≡ [] → Parts words
parse_parts words utf8 fine = faultless words utf8 [] None idle tt (sym (fault_is words) ∙ fine)

pub parse_options : (words : List Text) (options : List Given) (ordinary : List Text) → Splits words options ordinary →
    (setting : Setting) → values_at (bare setting) (matches_of program words) ≡ values_of setting options
parse_options words options ordinary splits setting =
    ap (values_at (bare setting)) (rows_are words) ∙ (ends words options ordinary splits).grows.of_options setting

pub parse_words : (words : List Text) (options : List Given) (ordinary : List Text) → Splits words options ordinary →
    values_at words_name (matches_of program words) ≡ ordinary
parse_words words options ordinary splits =
    ap (values_at words_name) (rows_are words) ∙ (ends words options ordinary splits).grows.of_words

-- ---- values in matches

values_of_row : (o : Option Entry) →
    option_map_or (λ r. r.values) (option_map row_of o) [] ≡ option_map_or raw_values (option_map (λ e. e.1) o) []
values_of_row None = refl
values_of_row (Some e) = refl

pub values_found : (found : Found) (id : Text) →
    values_at id (rows_of found) ≡ option_map_or raw_values (matched_of found id) []
values_found found id =
    ap (λ (o : Option Row). option_map_or (λ r. r.values) o []) (find_row found.entries.items id)
    ∙ values_of_row (find (λ e. bytes_eq e.0.now id) found.entries.items)

-- ---- what the code holds

-- a `String` is text
pub all_utf8 : {Z : Type 0} (words : List (String Z)) → AllByRecursion IsUtf8 (map string_bytes words)
all_utf8 [] = tt
all_utf8 (word ∷ words) = (IsUtf8-had (string_bytes word) word.ok, all_utf8 words)

-- a parse that succeeds has the parts of the words
pub parsed : (app : App) (words : List Text) (matches : ArgMatches) → app ≡ program → AllByRecursion IsUtf8 words →
    HasMatchesOf app words matches → (is_simple_and_free app ≡ true → fault_of app words ≡ []) → HasParts words matches
parsed app words matches is utf8 has fine =
    let rows : rows_of (found_of matches) ≡ matches_of program words =
    (subst (λ (a : App). HasMatchesOf a words matches) is has program_simple).0 in
    let parts = parse_parts words utf8
    (subst (λ (a : App). is_simple_and_free a ≡ true → fault_of a words ≡ []) is fine program_free) in
    record {
      options = parts.options;
      ordinary = parts.words;
      splits = parts.splits;
      of_options = λ setting.
          sym (values_found (found_of matches) (bare setting))
          ∙ (ap (values_at (bare setting)) rows ∙ parse_options words parts.options parts.words parts.splits setting);
      of_words =
          sym (values_found (found_of matches) words_name)
          ∙ (ap (values_at words_name) rows ∙ parse_words words parts.options parts.words parts.splits);
    }

no_kind : (error : Error) → HasKind [] error → (kind_of error ≡ kind.OutOfMemory → ⊥) → ⊥
no_kind error has memory = elim has [ inl is ↦ memory is | inr none ↦ none ]

-- one that fails, and not for want of memory, has words that don't split
pub unparsed : (app : App) (words : List Text) (error : Error) → app ≡ program →
    (is_simple_and_free app ≡ true → HasKind (fault_of app words) error) →
    (kind_of error ≡ kind.OutOfMemory → ⊥) → AreWrong words
unparsed app words error is fails memory = λ options ordinary splits.
    let has = subst (λ (a : App). is_simple_and_free a ≡ true → HasKind (fault_of a words) error) is fails program_free in
    no_kind error (subst (λ (k : Kinds). HasKind k error) (parse_fine words options ordinary splits) has) memory
