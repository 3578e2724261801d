-- What lsort(n) answers to words.
use Rattle.std.specs.Prelude.{◌≡◌, ℕ, ◌-◌, true, false, List, [], ◌∷◌, length, take, drop, Option, Some, None}
use Rattle.tt_lists.specs.declared.answer.ListAnswer.{ListAnswer}
use Rattle.tt_list_commands.specs.Sorting.{IsSortAnswer}
use Rattle.tt_list_commands.specs.declared.sorting.Sorting.{Sorting}
use Rattle.tt_pure.specs.Flags.{first_unknown, flag_named}
use Rattle.tt_pure.specs.Usages.{bad_option}
use Rattle.tt_pure.specs.declared.flags.Flag.{Flag}
use Rattle.tt_pure.specs.declared.flags.Flag.TheVariants.{Ascii, Integer, Increasing, Decreasing, Unique}

-- its options
abbrev pub sort_flags : List Flag
sort_flags = Ascii ∷ Integer ∷ Increasing ∷ Decreasing ∷ Unique ∷ []

-- a sort without options
abbrev pub plain_sort : Sorting
plain_sort = record { integer = false; decreasing = false; unique = false }

-- with one more
abbrev pub with_flag : Sorting → Flag → Sorting
with_flag how Ascii = record how { integer = false }
with_flag how Integer = record how { integer = true }
with_flag how Increasing = record how { decreasing = false }
with_flag how Decreasing = record how { decreasing = true }
with_flag how Unique = record how { unique = true }
with_flag how flag = how

-- with several, of which the later counts; none if a word is no option
abbrev pub with_flags : Sorting → (words : List (List ℕ)) → Option Sorting
with_flags how [] = Some how
with_flags how (word ∷ words) =
    elim (flag_named sort_flags word) [
      | Some flag ↦ with_flags (with_flag how flag) words
      | None ↦ None
    ]

-- the answer, if all words are options
abbrev pub IsSortWith : (wrong : ListAnswer) → Option Sorting → (list : List ℕ) → ListAnswer → Type 0
IsSortWith wrong (Some how) list answer = IsSortAnswer how list answer
IsSortWith wrong None list answer = answer ≡ wrong

-- the answer to options and what follows them: a word that is meant as an option and is none comes first
abbrev pub IsSortBy :
    (wrong : ListAnswer) → (unknown : Option (List ℕ)) → (options : List (List ℕ)) →
    (list : List ℕ) → ListAnswer → Type 0
IsSortBy wrong (Some word) options list answer = answer ≡ bad_option word
IsSortBy wrong None options list answer = IsSortWith wrong (with_flags plain_sort options) list answer

-- the answer to words before the last one, and that one
abbrev pub IsSortOf : (wrong : ListAnswer) → (options last : List (List ℕ)) → ListAnswer → Type 0
IsSortOf wrong options (list ∷ []) answer = IsSortBy wrong (first_unknown sort_flags options) options list answer
IsSortOf wrong options last answer = answer ≡ wrong

-- lsort(n)
abbrev pub IsLsort : (wrong : ListAnswer) → (words : List (List ℕ)) → ListAnswer → Type 0
IsLsort wrong words answer = IsSortOf wrong (take (length words - 1) words) (drop (length words - 1) words) answer
