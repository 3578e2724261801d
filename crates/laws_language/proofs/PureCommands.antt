-- The commands that answer by their words alone have one outcome each (string(n), lsort(n), lsearch(n), format(n)).
use Rattle.std.proofs.Common.{◌≡◌, ◌∙◌, ◌-◌, ◌↔◌, ℕ, ℤ, Bool, true, false, IsTrue, List, [], ◌∷◌, Option, Some, None}
use Rattle.std.proofs.Common.{Result, Ok, Err, length, take, drop, bytes_eq, codes, refl, sym}
use Rattle.std.specs.List.{AllByRecursion}
use Rattle.tt_format.specs.Formatting.{IsFormat}
use Rattle.tt_list_commands.specs.declared.sorting.Sorting.{Sorting}
use Rattle.tt_list_commands.proofs.SortLaw.{one_answer}
use Rattle.tt_lists.specs.Messages.{list_message}
use Rattle.tt_lists.specs.Reading.{split_of}
use Rattle.tt_lists.specs.Searching.{search_answer}
use Rattle.tt_lists.specs.Spelling.{list_of}
use Rattle.tt_lists.specs.declared.answer.ListAnswer.{ListAnswer}
use Rattle.tt_lists.specs.declared.answer.ListAnswer.TheVariants.{Made, Bad}
use Rattle.tt_lists.specs.declared.items.Split.{Split}
use Rattle.tt_lists.specs.declared.items.Split.TheVariants as split
use Rattle.tt_lists.specs.declared.searching.Search.{Search}
use Rattle.tt_number.specs.Messages.{number_message}
use Rattle.tt_number.specs.Numerals.{whole_of}
use Rattle.tt_number.specs.declared.numeral.NumberFault.{NumberFault}
use Rattle.tt_strings.specs.Finding.{IsFirstPlace, IsLastPlace}
use Rattle.tt_strings.specs.Making.{IsRepeated}
use Rattle.tt_strings.specs.Mapping.{IsMapped}
use Rattle.tt_strings.specs.Splitting.{IsSplitInto}
use Rattle.tt_strings.specs.declared.making.Repetition.{Repetition}
use Rattle.tt_strings.specs.declared.trimming.Side.TheVariants.{Left, Right, Both}
use Rattle.tt_strings.specs.declared.trimming.TheConstants.{WHITE_SPACE}
use Rattle.tt_text.specs.Characters.{characters}
use Rattle.tt_text.specs.Glob.{Matches}
use Rattle.tt_pure.specs.Flags.{first_unknown}
use Rattle.tt_pure.specs.Formatting.{IsFormatAnswer, formatted_answer}
use Rattle.tt_pure.specs.Lists.{lindex, linsert, list, llength, lrange, lrepeat, lreplace, lreverse}
use Rattle.tt_pure.specs.Rows.{Meaning, always, is}
use Rattle.tt_pure.specs.Searching as searching
use Rattle.tt_pure.specs.Searching.{IsLsearch, IsSearchBy, IsSearchOf, IsSearchWith, plain_search, search_flags}
use Rattle.tt_pure.specs.Sorting as sorting
use Rattle.tt_pure.specs.Sorting.{IsLsort, IsSortBy, IsSortOf, IsSortWith, plain_sort, sort_flags}
use Rattle.tt_pure.specs.StringTable.{IsNamedAnswer, IsString, first_subcommand, string_row, subcommands}
use Rattle.tt_pure.specs.Strings.{IsFirstAnswer, IsLastAnswer, IsMapAnswer, IsMappedBy, IsMappedIf, IsMatchAnswer}
use Rattle.tt_pure.specs.Strings.{IsRepeatAnswer, IsRepeatedBy, compare_answer, equal_answer, index_answer, is_paired}
use Rattle.tt_pure.specs.Strings.{length_answer, lower_answer, place_text, range_answer, repetition_answer}
use Rattle.tt_pure.specs.Strings.{reverse_answer, trim_answer, truth, upper_answer}
use Rattle.tt_pure.specs.Table.{IsAnswer, IsOutcome, command_of, commands, row_of}
use Rattle.tt_pure.specs.Texts.{IsSplitAnswer, IsSplitAt, concat, join}
use Rattle.tt_pure.specs.Usages.{bad_option, outcome_of, wrong_number}
use Rattle.laws_language.specs.OneAnswer.{PureOnceLaw}
use Rattle.laws_language.proofs.Formats.{format-once}
use Rattle.laws_language.proofs.Once.{Only, find-each, only-made, only-told}
use Rattle.laws_language.proofs.Strings.{first-once, last-once, mapped-once, repeated-once, split-once}

-- a meaning has one answer to words
abbrev MeansOne : Meaning → Type 0
MeansOne meaning = (wrong : ListAnswer) (words : List (List ℕ)) → Only (meaning wrong words)

is-once : (right : ListAnswer → List (List ℕ) → ListAnswer) → MeansOne (is right)
is-once right wrong words = only-told (right wrong words)

always-once : (right : List (List ℕ) → ListAnswer) → MeansOne (always right)
always-once right wrong words = only-told (right words)

-- ---- string(n) ----

not-true : false ≡ true → ⊥
not-true e = cc

matches-same : {A : Type 0} (one other : Bool) → (IsTrue one ↔ A) → (IsTrue other ↔ A) → one ≡ other
matches-same true true is its = refl
matches-same true false is its = absurd (not-true (its.1 (is.0 refl)))
matches-same false true is its = absurd (not-true (is.1 (its.0 refl)))
matches-same false false is its = refl

match-once : (wrong : ListAnswer) (words : List (List ℕ)) → Only (IsMatchAnswer wrong words)
match-once wrong [] = only-told wrong
match-once wrong (pattern ∷ []) = only-told wrong
match-once wrong (pattern ∷ text ∷ []) =
    only-made (λ (matches : Bool). IsTrue matches ↔ Matches (characters pattern) (characters text)) (λ matches. Made (truth matches)) matches-same
match-once wrong (pattern ∷ text ∷ more ∷ words) = only-told wrong

first_answer-once : (wrong : ListAnswer) (words : List (List ℕ)) → Only (IsFirstAnswer wrong words)
first_answer-once wrong [] = only-told wrong
first_answer-once wrong (needle ∷ []) = only-told wrong
first_answer-once wrong (needle ∷ text ∷ []) =
    only-made (IsFirstPlace (characters needle) (characters text)) (λ place. Made (place_text place)) (first-once (characters needle) (characters text))
first_answer-once wrong (needle ∷ text ∷ more ∷ words) = only-told wrong

last_answer-once : (wrong : ListAnswer) (words : List (List ℕ)) → Only (IsLastAnswer wrong words)
last_answer-once wrong [] = only-told wrong
last_answer-once wrong (needle ∷ []) = only-told wrong
last_answer-once wrong (needle ∷ text ∷ []) =
    only-made (IsLastPlace (characters needle) (characters text)) (λ place. Made (place_text place)) (last-once (characters needle) (characters text))
last_answer-once wrong (needle ∷ text ∷ more ∷ words) = only-told wrong

repeated_by-once : (read : Result ℤ NumberFault) (text count : List ℕ) → Only (IsRepeatedBy read text count)
repeated_by-once (Ok number) text count =
    only-made (λ (came : Repetition). IsRepeated came text number) repetition_answer (repeated-once text number)
repeated_by-once (Err fault) text count = only-told (Bad (number_message fault count))

repeat-once : (wrong : ListAnswer) (words : List (List ℕ)) → Only (IsRepeatAnswer wrong words)
repeat-once wrong [] = only-told wrong
repeat-once wrong (text ∷ []) = only-told wrong
repeat-once wrong (text ∷ count ∷ []) = repeated_by-once (whole_of count) text count
repeat-once wrong (text ∷ count ∷ more ∷ words) = only-told wrong

mapped_if-once : (paired : Bool) (pairs : List (List ℕ)) (text : List ℕ) → Only (IsMappedIf paired pairs text)
mapped_if-once true pairs text = only-made (IsMapped pairs (characters text)) Made (mapped-once pairs (characters text))
mapped_if-once false pairs text = only-told (Bad (codes "list must have an even number of elements"))

mapped_by-once : (read : Split) (text : List ℕ) → Only (IsMappedBy read text)
mapped_by-once (split.Items pairs) text = mapped_if-once (is_paired pairs) pairs text
mapped_by-once (split.Bad fault) text = only-told (Bad (list_message fault))

map-once : (wrong : ListAnswer) (words : List (List ℕ)) → Only (IsMapAnswer wrong words)
map-once wrong [] = only-told wrong
map-once wrong (list ∷ []) = only-told wrong
map-once wrong (list ∷ text ∷ []) = mapped_by-once (split_of list) text
map-once wrong (list ∷ text ∷ more ∷ words) = only-told wrong

subcommands-once : AllByRecursion (λ which. MeansOne (string_row which).meaning) subcommands
subcommands-once = (
  is-once length_answer,
  (
    is-once index_answer,
    (
      is-once range_answer,
      (
        is-once reverse_answer,
        (
          is-once compare_answer,
          (
            is-once equal_answer,
            (
              match-once,
              (
                first_answer-once,
                (
                  last_answer-once,
                  (
                    repeat-once,
                    (
                      map-once,
                      (
                        is-once lower_answer,
                        (is-once upper_answer, (is-once (trim_answer Both), (is-once (trim_answer Left), (is-once (trim_answer Right), tt)))),
                      ),
                    ),
                  ),
                ),
              ),
            ),
          ),
        ),
      ),
    ),
  ),
)

named-once : (name : List ℕ) (words : List (List ℕ)) → Only (IsNamedAnswer (first_subcommand subcommands name) name words)
named-once name words =
    find-each (λ which. MeansOne (string_row which).meaning) (λ which. Only (IsNamedAnswer which name words))
    (λ which once. once (wrong_number (string_row which).usage) words)
    (λ which. bytes_eq name (string_row which).name) subcommands (only-told (bad_option name)) subcommands-once

string-once : (wrong : ListAnswer) (words : List (List ℕ)) → Only (IsString wrong words)
string-once wrong [] = only-told wrong
string-once wrong (name ∷ words) = named-once name words

-- ---- split(n), format(n) ----

split_at-once : (text splitting : List ℕ) → Only (IsSplitAt text splitting)
split_at-once text splitting =
    only-made (IsSplitInto (characters splitting) (characters text)) (λ fields. Made (list_of fields)) (split-once (characters splitting) (characters text))

split_answer-once : (wrong : ListAnswer) (words : List (List ℕ)) → Only (IsSplitAnswer wrong words)
split_answer-once wrong [] = only-told wrong
split_answer-once wrong (text ∷ []) = split_at-once text WHITE_SPACE.now
split_answer-once wrong (text ∷ splitting ∷ []) = split_at-once text splitting
split_answer-once wrong (text ∷ splitting ∷ more ∷ words) = only-told wrong

format_answer-once : (wrong : ListAnswer) (words : List (List ℕ)) → Only (IsFormatAnswer wrong words)
format_answer-once wrong [] = only-told wrong
format_answer-once wrong (template ∷ values) = only-made (IsFormat template values) formatted_answer (format-once template values)

-- ---- lsearch(n), lsort(n) ----

search_with-once : (wrong : ListAnswer) (how : Option Search) (list pattern : List ℕ) → Only (IsSearchWith wrong how list pattern)
search_with-once wrong (Some how) list pattern = only-told (search_answer how list pattern)
search_with-once wrong None list pattern = only-told wrong

search_by-once : (wrong : ListAnswer) (unknown : Option (List ℕ)) (options : List (List ℕ)) (list pattern : List ℕ) →
    Only (IsSearchBy wrong unknown options list pattern)
search_by-once wrong (Some word) options list pattern = only-told (bad_option word)
search_by-once wrong None options list pattern = search_with-once wrong (searching.with_flags plain_search options) list pattern

search_of-once : (wrong : ListAnswer) (options last : List (List ℕ)) → Only (IsSearchOf wrong options last)
search_of-once wrong options [] = only-told wrong
search_of-once wrong options (list ∷ []) = only-told wrong
search_of-once wrong options (list ∷ pattern ∷ []) = search_by-once wrong (first_unknown search_flags options) options list pattern
search_of-once wrong options (list ∷ pattern ∷ more ∷ last) = only-told wrong

search-once : (wrong : ListAnswer) (words : List (List ℕ)) → Only (IsLsearch wrong words)
search-once wrong words = search_of-once wrong (take (length words - 2) words) (drop (length words - 2) words)

sort_with-once : (wrong : ListAnswer) (how : Option Sorting) (list : List ℕ) → Only (IsSortWith wrong how list)
sort_with-once wrong (Some how) list one other is its = one_answer how list one is ∙ sym (one_answer how list other its)
sort_with-once wrong None list one other is its = is ∙ sym its

sort_by-once : (wrong : ListAnswer) (unknown : Option (List ℕ)) (options : List (List ℕ)) (list : List ℕ) → Only (IsSortBy wrong unknown options list)
sort_by-once wrong (Some word) options list = only-told (bad_option word)
sort_by-once wrong None options list = sort_with-once wrong (sorting.with_flags plain_sort options) list

sort_of-once : (wrong : ListAnswer) (options last : List (List ℕ)) → Only (IsSortOf wrong options last)
sort_of-once wrong options [] = only-told wrong
sort_of-once wrong options (list ∷ []) = sort_by-once wrong (first_unknown sort_flags options) options list
sort_of-once wrong options (list ∷ more ∷ last) = only-told wrong

sort-once : (wrong : ListAnswer) (words : List (List ℕ)) → Only (IsLsort wrong words)
sort-once wrong words = sort_of-once wrong (take (length words - 1) words) (drop (length words - 1) words)

-- ---- the table ----

commands-once : AllByRecursion (λ which. MeansOne (row_of which).meaning) commands
commands-once = (
  always-once concat,
  (
    format_answer-once,
    (
      is-once join,
      (
        is-once lindex,
        (
          is-once linsert,
          (
            always-once list,
            (
              is-once llength,
              (
                is-once lrange,
                (
                  is-once lrepeat,
                  (
                    is-once lreplace,
                    (
                      is-once lreverse,
                      (
                        search-once,
                        (
                          sort-once,
                          (
                            split_answer-once,
                            (string-once, tt),
                          ),
                        ),
                      ),
                    ),
                  ),
                ),
              ),
            ),
          ),
        ),
      ),
    ),
  ),
)

pub pure-once : (name : List ℕ) (words : List (List ℕ)) → Only (IsOutcome (command_of name) words)
pure-once name words =
    find-each (λ which. MeansOne (row_of which).meaning) (λ which. Only (IsOutcome which words))
    (λ which once. only-made (IsAnswer which words) outcome_of (once (wrong_number (row_of which).usage) words))
    (λ which. bytes_eq name (row_of which).name) commands (λ one other is its. absurd is) commands-once

pub pure_law : PureOnceLaw
pure_law name words one other is its = pure-once name words one other is its
