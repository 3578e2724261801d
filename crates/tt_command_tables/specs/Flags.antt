-- Options without a value: they stand in front of a command's words, and never among the last words that its usage
-- requires (thread(n), tpool(n), puts(n)).
use Rattle.std.specs.Prelude.{ℕ, ◌-◌, Bool, false, ◌&&◌, not, ◌==◌, bytes_eq, List, [], ◌∷◌, length, take, drop}
use Rattle.std.specs.Prelude.{take_while, codes, Option, Some, None}
use Rattle.std.specs.List.{find, list_any}
use Rattle.std.specs.Option.{is_some}
use Rattle.tt_command_tables.specs.Usages.{bad_option}
use Rattle.tt_command_tables.specs.declared.call.Call.{Call}
use Rattle.tt_command_tables.specs.declared.flags.Flag.{Flag}
use Rattle.tt_command_tables.specs.declared.flags.Flag.TheVariants.{Joinable, Preserved, Wait, Async, Head, NoNewline}
use Rattle.tt_command_tables.specs.declared.flags.Flag.TheVariants.{Recursive, Detached, NoWait}

-- how an option is written
abbrev pub spelling : Flag → List ℕ
spelling Joinable = codes "-joinable"
spelling Preserved = codes "-preserved"
spelling Wait = codes "-wait"
spelling Async = codes "-async"
spelling Head = codes "-head"
spelling NoNewline = codes "-nonewline"
spelling Recursive = codes "-recursive"
spelling Detached = codes "-detached"
spelling NoWait = codes "-nowait"

-- the one of these that a word is
abbrev pub flag_named : (known : List Flag) → (word : List ℕ) → Option Flag
flag_named known word = find (λ flag. bytes_eq word (spelling flag)) known

-- a word that is meant as an option: it begins with `-`, and is longer
abbrev pub is_meant : (word : List ℕ) → Bool
is_meant [] = false
is_meant (b ∷ []) = false
is_meant (b ∷ next ∷ word) = b == 45

-- the words before the last ones
abbrev pub before_last : (required : ℕ) → (words : List (List ℕ)) → List (List ℕ)
before_last required words = take (length words - required) words

-- the first word that is meant as an option, and is none of these
abbrev pub first_unknown : (known : List Flag) → (words : List (List ℕ)) → Option (List ℕ)
first_unknown known words = find (λ word. is_meant word && not (is_some (flag_named known word))) words

-- how many of these options stand in front
abbrev pub front : (known : List Flag) → (words : List (List ℕ)) → ℕ
front known words = length (take_while (λ word. is_some (flag_named known word)) words)

-- an option stands among these
abbrev pub has : Flag → (options : List (List ℕ)) → Bool
has flag options = list_any (λ word. bytes_eq word (spelling flag)) options

-- what a command means by the options in front and the words after them
abbrev pub meaning_after_options :
    ℕ → (words : List (List ℕ)) → (meaning : (options after : List (List ℕ)) → Call) → Call
meaning_after_options count words meaning = meaning (take count words) (drop count words)

-- a word before the last ones that is meant as an option, and is none, is an error
abbrev pub by_options :
    (known : List Flag) → (required : ℕ) → (words : List (List ℕ)) →
    (meaning : (options after : List (List ℕ)) → Call) → Call
by_options known required words meaning =
    elim (first_unknown known (before_last required words)) [
      | Some word ↦ bad_option word
      | None ↦ meaning_after_options (front known (before_last required words)) words meaning
    ]
