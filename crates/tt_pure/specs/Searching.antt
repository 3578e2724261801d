-- What lsearch(n) answers to words.
use Rattle.std.specs.Prelude.{◌≡◌, ℕ, ◌-◌, true, false, List, [], ◌∷◌, length, take, drop, Option, Some, None}
use Rattle.tt_lists.specs.Searching.{search_answer}
use Rattle.tt_lists.specs.declared.answer.ListAnswer.{ListAnswer}
use Rattle.tt_lists.specs.declared.searching.Matching.TheVariants as matching
use Rattle.tt_lists.specs.declared.searching.Search.{Search}
use Rattle.tt_pure.specs.Flags.{first_unknown, flag_named}
use Rattle.tt_pure.specs.Usages.{bad_option}
use Rattle.tt_pure.specs.declared.flags.Flag.{Flag}
use Rattle.tt_pure.specs.declared.flags.Flag.TheVariants.{Exact, Glob, All, Inline, Not}

-- its options
abbrev pub search_flags : List Flag
search_flags = Exact ∷ Glob ∷ All ∷ Inline ∷ Not ∷ []

-- a search without options
abbrev pub plain_search : Search
plain_search = record { matching = matching.Glob; all = false; inline = false; not = false }

-- with one more
abbrev pub with_flag : Search → Flag → Search
with_flag how Exact = record how { matching = matching.Exact }
with_flag how Glob = record how { matching = matching.Glob }
with_flag how All = record how { all = true }
with_flag how Inline = record how { inline = true }
with_flag how Not = record how { not = true }
with_flag how flag = how

-- with several, of which the later counts; none if a word is no option
abbrev pub with_flags : Search → (words : List (List ℕ)) → Option Search
with_flags how [] = Some how
with_flags how (word ∷ words) =
    elim (flag_named search_flags word) [
      | Some flag ↦ with_flags (with_flag how flag) words
      | None ↦ None
    ]

-- the answer, if all words are options
abbrev pub IsSearchWith : (wrong : ListAnswer) → Option Search → (list pattern : List ℕ) → ListAnswer → Type 0
IsSearchWith wrong (Some how) list pattern answer = answer ≡ search_answer how list pattern
IsSearchWith wrong None list pattern answer = answer ≡ wrong

-- the answer to options and what follows them: a word that is meant as an option and is none comes first
abbrev pub IsSearchBy :
    (wrong : ListAnswer) → (unknown : Option (List ℕ)) → (options : List (List ℕ)) →
    (list pattern : List ℕ) → ListAnswer → Type 0
IsSearchBy wrong (Some word) options list pattern answer = answer ≡ bad_option word
IsSearchBy wrong None options list pattern answer =
    IsSearchWith wrong (with_flags plain_search options) list pattern answer

-- the answer to words before the last two, and those two
abbrev pub IsSearchOf : (wrong : ListAnswer) → (options last : List (List ℕ)) → ListAnswer → Type 0
IsSearchOf wrong options (list ∷ pattern ∷ []) answer =
    IsSearchBy wrong (first_unknown search_flags options) options list pattern answer
IsSearchOf wrong options last answer = answer ≡ wrong

-- lsearch(n)
abbrev pub IsLsearch : (wrong : ListAnswer) → (words : List (List ℕ)) → ListAnswer → Type 0
IsLsearch wrong words answer =
    IsSearchOf wrong (take (length words - 2) words) (drop (length words - 2) words) answer
