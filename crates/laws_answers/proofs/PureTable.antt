-- Commands without variables always come to something.
use Rattle.std.proofs.Common.{◌≡◌, inl, inr, ◌*◌, ◌-◌, ℕ, Bool, true, false, ℤ, List, [], ◌∷◌, Option, Some, None}
use Rattle.std.proofs.Common.{Result, Ok, Err, bytes_eq, codes, drop, is_some, length}
use Rattle.std.proofs.Common.{refl, sym, take, true≢false}
use Rattle.std.proofs.lemmas.Bool.{cases_lt}
use Rattle.std.specs.List.{repeat}
use Rattle.laws_answers.proofs.Fronts.{first_place, last_place}
use Rattle.laws_answers.proofs.Pieces.{formats}
use Rattle.laws_answers.proofs.Sorted.{sorts}
use Rattle.laws_answers.proofs.Splits.{maps, splits}
use Rattle.laws_answers.proofs.Tables.{found_row, no_more, row}
use Rattle.laws_answers.specs.Pure.{PureAnswersLaw}
use Rattle.tt_calls.specs.declared.outcome.Outcome.{Outcome}
use Rattle.tt_lists.specs.Reading.{split_of}
use Rattle.tt_lists.specs.Messages.{list_message}
use Rattle.tt_lists.specs.Spelling.{list_of}
use Rattle.tt_lists.specs.declared.answer.ListAnswer.{ListAnswer}
use Rattle.tt_lists.specs.declared.answer.ListAnswer.TheVariants.{Made, Bad}
use Rattle.tt_lists.specs.declared.items.Split.{Split}
use Rattle.tt_lists.specs.declared.items.Split.TheVariants as split
use Rattle.tt_lists.specs.Searching.{search_answer}
use Rattle.tt_number.specs.Messages.{number_message}
use Rattle.tt_number.specs.Numerals.{whole_of}
use Rattle.tt_number.specs.declared.numeral.NumberFault.{NumberFault}
use Rattle.tt_pure.specs.Flags.{first_unknown}
use Rattle.tt_pure.specs.Formatting.{IsFormatAnswer, formatted_answer}
use Rattle.tt_pure.specs.Searching as searching
use Rattle.tt_pure.specs.Searching.{IsLsearch, IsSearchBy, IsSearchOf, IsSearchWith, plain_search, search_flags}
use Rattle.tt_pure.specs.Sorting as sorting
use Rattle.tt_pure.specs.Sorting.{IsLsort, IsSortBy, IsSortOf, IsSortWith, plain_sort, sort_flags}
use Rattle.tt_pure.specs.StringTable.{IsNamedAnswer, IsString, string_row, subcommands}
use Rattle.tt_pure.specs.Strings.{IsFirstAnswer, IsLastAnswer, IsMapAnswer, IsMappedBy, IsMappedIf, IsMatchAnswer}
use Rattle.tt_pure.specs.Strings.{IsRepeatAnswer, IsRepeatedBy, IsTimes, is_paired, place_text}
use Rattle.tt_pure.specs.Strings.{repetition_answer, truth}
use Rattle.tt_pure.specs.Table.{IsOutcome, commands, row_of}
use Rattle.tt_pure.specs.Texts.{IsSplitAnswer, IsSplitAt}
use Rattle.tt_pure.specs.Usages.{bad_option, outcome_of}
use Rattle.tt_strings.specs.Making.{longest, times}
use Rattle.tt_strings.specs.declared.making.Repetition.TheVariants as repetition
use Rattle.tt_strings.specs.declared.trimming.TheConstants.{WHITE_SPACE}
use Rattle.tt_text.proofs.GlobLaw.{glob_law}
use Rattle.tt_text.specs.Characters.{characters}
use Rattle.tt_text.specs.GlobFunction.{is_match}

abbrev Some_answer : (ListAnswer → Type 0) → Type 0
Some_answer Is = (answer : ListAnswer) × Is answer

-- ---- lists ----

searched : (wrong : ListAnswer) (options last : List (List ℕ)) → Some_answer (IsSearchOf wrong options last)
searched wrong options [] = (wrong, refl)
searched wrong options (list ∷ []) = (wrong, refl)
searched wrong options (list ∷ pattern ∷ next ∷ words) = (wrong, refl)
searched wrong options (list ∷ pattern ∷ []) = by (first_unknown search_flags options)
  where
    with : (how : Option _) → Some_answer (IsSearchWith wrong how list pattern)
    with (Some how) = (search_answer how list pattern, refl)
    with None = (wrong, refl)

    by : (unknown : Option (List ℕ)) → Some_answer (IsSearchBy wrong unknown options list pattern)
    by (Some word) = (bad_option word, refl)
    by None = with (searching.with_flags plain_search options)

sorted : (wrong : ListAnswer) (options last : List (List ℕ)) → Some_answer (IsSortOf wrong options last)
sorted wrong options [] = (wrong, refl)
sorted wrong options (list ∷ next ∷ words) = (wrong, refl)
sorted wrong options (list ∷ []) = by (first_unknown sort_flags options)
  where
    with : (how : Option _) → Some_answer (IsSortWith wrong how list)
    with (Some how) = sorts how list
    with None = (wrong, refl)

    by : (unknown : Option (List ℕ)) → Some_answer (IsSortBy wrong unknown options list)
    by (Some word) = (bad_option word, refl)
    by None = with (sorting.with_flags plain_sort options)

split-text : (text splitting : List ℕ) → Some_answer (IsSplitAt text splitting)
split-text text splitting = let fields = splits (characters splitting) (characters text) in (Made (list_of fields.0), (fields.0, fields.1, refl))

splits-words : (wrong : ListAnswer) (words : List (List ℕ)) → Some_answer (IsSplitAnswer wrong words)
splits-words wrong [] = (wrong, refl)
splits-words wrong (text ∷ []) = split-text text WHITE_SPACE.now
splits-words wrong (text ∷ splitting ∷ []) = split-text text splitting
splits-words wrong (text ∷ splitting ∷ next ∷ words) = (wrong, refl)

formatted : (wrong : ListAnswer) (words : List (List ℕ)) → Some_answer (IsFormatAnswer wrong words)
formatted wrong [] = (wrong, refl)
formatted wrong (template ∷ values) = let came = formats template values in (formatted_answer came.0, (came.0, came.1, refl))

-- ---- string(n) ----

matched : (wrong : ListAnswer) (words : List (List ℕ)) → Some_answer (IsMatchAnswer wrong words)
matched wrong [] = (wrong, refl)
matched wrong (pattern ∷ []) = (wrong, refl)
matched wrong (pattern ∷ text ∷ []) =
    let is = is_match (characters pattern) (characters text) in (Made (truth is), (is, glob_law (characters pattern) (characters text), refl))
matched wrong (pattern ∷ text ∷ next ∷ words) = (wrong, refl)

first : (wrong : ListAnswer) (words : List (List ℕ)) → Some_answer (IsFirstAnswer wrong words)
first wrong [] = (wrong, refl)
first wrong (needle ∷ []) = (wrong, refl)
first wrong (needle ∷ text ∷ []) = let place = first_place (characters needle) (characters text) in (Made (place_text place.0), (place.0, place.1, refl))
first wrong (needle ∷ text ∷ next ∷ words) = (wrong, refl)

last : (wrong : ListAnswer) (words : List (List ℕ)) → Some_answer (IsLastAnswer wrong words)
last wrong [] = (wrong, refl)
last wrong (needle ∷ []) = (wrong, refl)
last wrong (needle ∷ text ∷ []) = let place = last_place (characters needle) (characters text) in (Made (place_text place.0), (place.0, place.1, refl))
last wrong (needle ∷ text ∷ next ∷ words) = (wrong, refl)

repeated-times : (text : List ℕ) (number : ℤ) → Some_answer (IsTimes text number)
repeated-times text number = elim (cases_lt longest (times number * length text)) [
  | inl long ↦ (repetition_answer repetition.TooLong, (repetition.TooLong, long, refl))
  | inr fits ↦ (
    repetition_answer (repetition.Made (repeat (times number) text)),
    (repetition.Made (repeat (times number) text), (fits, refl), refl),
  )
]

repeated-by : (number : Result ℤ NumberFault) (text count : List ℕ) → Some_answer (IsRepeatedBy number text count)
repeated-by (Ok number) text count = repeated-times text number
repeated-by (Err fault) text count = (Bad (number_message fault count), refl)

repeats : (wrong : ListAnswer) (words : List (List ℕ)) → Some_answer (IsRepeatAnswer wrong words)
repeats wrong [] = (wrong, refl)
repeats wrong (text ∷ []) = (wrong, refl)
repeats wrong (text ∷ count ∷ []) = repeated-by (whole_of count) text count
repeats wrong (text ∷ count ∷ next ∷ words) = (wrong, refl)

mapped-if : (paired : Bool) (pairs : List (List ℕ)) (text : List ℕ) → Some_answer (IsMappedIf paired pairs text)
mapped-if true pairs text = let made = maps pairs (characters text) in (Made made.0, (made.0, made.1, refl))
mapped-if false pairs text = (Bad (codes "list must have an even number of elements"), refl)

mapped-by : (list : Split) (text : List ℕ) → Some_answer (IsMappedBy list text)
mapped-by (split.Items pairs) text = mapped-if (is_paired pairs) pairs text
mapped-by (split.Bad fault) text = (Bad (list_message fault), refl)

maps-words : (wrong : ListAnswer) (words : List (List ℕ)) → Some_answer (IsMapAnswer wrong words)
maps-words wrong [] = (wrong, refl)
maps-words wrong (list ∷ []) = (wrong, refl)
maps-words wrong (list ∷ text ∷ []) = mapped-by (split_of list) text
maps-words wrong (list ∷ text ∷ next ∷ words) = (wrong, refl)

strings : (wrong : ListAnswer) (words : List (List ℕ)) → Some_answer (IsString wrong words)
strings wrong [] = (wrong, refl)
strings wrong (name ∷ words) =
    found_row (λ subcommand. Some_answer (IsNamedAnswer subcommand name words))
    (λ subcommand. (wrong : ListAnswer) → Some_answer ((string_row subcommand).meaning wrong words))
    (λ subcommand. bytes_eq name (string_row subcommand).name) subcommands (bad_option name, refl)
    (λ subcommand some. some _)
    (row (λ wrong. (_, refl))
    (row (λ wrong. (_, refl))
    (row (λ wrong. (_, refl))
    (row (λ wrong. (_, refl))
    (row (λ wrong. (_, refl))
    (row (λ wrong. (_, refl))
    (row (λ wrong. matched wrong words)
    (row (λ wrong. first wrong words)
    (row (λ wrong. last wrong words)
    (row (λ wrong. repeats wrong words)
    (row (λ wrong. maps-words wrong words)
    (row (λ wrong. (_, refl))
    (row (λ wrong. (_, refl))
    (row (λ wrong. (_, refl))
    (row (λ wrong. (_, refl))
    (row (λ wrong. (_, refl))
    no_more))))))))))))))))

-- ---- the table ----

pub pure_answers : PureAnswersLaw
pure_answers name words known =
    found_row (λ command. is_some command ≡ true → (outcome : Outcome) × IsOutcome command words outcome)
    (λ command. (wrong : ListAnswer) → Some_answer ((row_of command).meaning wrong words))
    (λ command. bytes_eq name (row_of command).name) commands (λ some. absurd (true≢false (sym some)))
    (λ command each some. let answer = each _ in (outcome_of answer.0, (answer.0, answer.1, refl)))
    (row (λ wrong. (_, refl))
    (row (λ wrong. formatted wrong words)
    (row (λ wrong. (_, refl))
    (row (λ wrong. (_, refl))
    (row (λ wrong. (_, refl))
    (row (λ wrong. (_, refl))
    (row (λ wrong. (_, refl))
    (row (λ wrong. (_, refl))
    (row (λ wrong. (_, refl))
    (row (λ wrong. (_, refl))
    (row (λ wrong. (_, refl))
    (row (λ wrong. searched wrong (take (length words - 2) words) (drop (length words - 2) words))
    (row (λ wrong. sorted wrong (take (length words - 1) words) (drop (length words - 1) words))
    (row (λ wrong. splits-words wrong words)
    (row (λ wrong. strings wrong words)
    no_more))))))))))))))) known
