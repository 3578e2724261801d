-- The options of commands (lsearch(n), lsort(n)).
use Rattle.std.specs.Prelude.{ℕ, Bool, false, ◌&&◌, not, ◌==◌, bytes_eq, List, [], ◌∷◌, codes, Option}
use Rattle.std.specs.List.{find}
use Rattle.std.specs.Option.{is_some}
use Rattle.tt_pure.specs.declared.flags.Flag.{Flag}
use Rattle.tt_pure.specs.declared.flags.Flag.TheVariants.{Exact, Glob, All, Inline, Not, Ascii, Integer, Increasing}
use Rattle.tt_pure.specs.declared.flags.Flag.TheVariants.{Decreasing, Unique}

-- how an option is written
abbrev pub spelling : Flag → List ℕ
spelling Exact = codes "-exact"
spelling Glob = codes "-glob"
spelling All = codes "-all"
spelling Inline = codes "-inline"
spelling Not = codes "-not"
spelling Ascii = codes "-ascii"
spelling Integer = codes "-integer"
spelling Increasing = codes "-increasing"
spelling Decreasing = codes "-decreasing"
spelling Unique = codes "-unique"

-- the one of these that a word is
abbrev pub flag_named : (known : List Flag) → (word : List ℕ) → Option Flag
flag_named known word = find (λ flag. bytes_eq word (spelling flag)) known

-- a word that is meant as an option: it begins with `-`, and is longer
abbrev pub is_meant : (word : List ℕ) → Bool
is_meant [] = false
is_meant (b ∷ []) = false
is_meant (b ∷ next ∷ word) = b == 45

-- the first word that is meant as an option, and is none of these
abbrev pub first_unknown : (known : List Flag) → (words : List (List ℕ)) → Option (List ℕ)
first_unknown known words = find (λ word. is_meant word && not (is_some (flag_named known word))) words
