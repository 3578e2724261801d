-- The body that switch(n) chooses.
use Rattle.std.specs.Prelude.{ℕ, Bool, true, false, ◌||◌, not, bytes_eq, List, [], ◌∷◌, codes, if◌then◌else◌}
use Rattle.tt_control.specs.Refusals.{bad_option, is_meant}
use Rattle.tt_control.specs.declared.choices.Sign.{Sign}
use Rattle.tt_control.specs.declared.choices.Sign.TheVariants.{Compares, Ends, Unknown, Plain}
use Rattle.tt_control.specs.declared.control.Control.{Control}
use Rattle.tt_control.specs.declared.control.Control.TheVariants.{Bad, Script}
use Rattle.tt_lists.specs.Messages.{list_message}
use Rattle.tt_lists.specs.Reading.{split_of}
use Rattle.tt_lists.specs.Searching.{is_alike}
use Rattle.tt_lists.specs.declared.items.Split.{Split}
use Rattle.tt_lists.specs.declared.items.Split.TheVariants as split
use Rattle.tt_lists.specs.declared.searching.Matching.{Matching}
use Rattle.tt_lists.specs.declared.searching.Matching.TheVariants.{Exact, Glob}

-- a body that stands for the next one
abbrev pub falls_through : (body : List ℕ) → Bool
falls_through body = bytes_eq body (codes "-")

-- each pattern has a body, and the last one's doesn't stand for a next one
abbrev pub is_whole : (pairs : List (List ℕ)) → Bool
is_whole [] = true
is_whole (pattern ∷ []) = false
is_whole (pattern ∷ body ∷ []) = not (falls_through body)
is_whole (pattern ∷ body ∷ next ∷ pairs) = is_whole (next ∷ pairs)

-- `default`, with no pair after it
abbrev pub is_last_default : (pattern : List ℕ) → (later : List (List ℕ)) → Bool
is_last_default pattern [] = bytes_eq pattern (codes "default")
is_last_default pattern (next ∷ later) = false

-- a text is taken by a pattern with these pairs after it
abbrev pub is_taken : Matching → (pattern text : List ℕ) → (later : List (List ℕ)) → Bool
is_taken matching pattern text later = is_last_default pattern later || is_alike matching pattern text

-- the first body of these pairs that doesn't stand for the next one
abbrev pub body_from : (pairs : List (List ℕ)) → List ℕ
body_from [] = []
body_from (pattern ∷ []) = []
body_from (pattern ∷ body ∷ later) = if falls_through body then body_from later else body

-- the body of the first pattern that takes a text, and none if there is none
abbrev pub first_body : Matching → (text : List ℕ) → (pairs : List (List ℕ)) → List ℕ
first_body matching text [] = []
first_body matching text (pattern ∷ []) = []
first_body matching text (pattern ∷ body ∷ later) =
    if is_taken matching pattern text later
    then body_from (pattern ∷ body ∷ later)
    else first_body matching text later

abbrev pub choice_among : Matching → (text : List ℕ) → (pairs : List (List ℕ)) → Control
choice_among matching text pairs =
    if is_whole pairs then Script (first_body matching text pairs) else Bad (codes "switch pattern without body")

-- the pairs of a list
abbrev pub choice_in_list : Matching → (text : List ℕ) → Split → Control
choice_in_list matching text (split.Items pairs) = choice_among matching text pairs
choice_in_list matching text (split.Bad fault) = Bad (list_message fault)

abbrev pub in_list : Matching → (text list : List ℕ) → Control
in_list matching text list = choice_in_list matching text (split_of list)

-- the words after the text: one alone is a list of pairs
abbrev pub choice_in_words : (wrong : Control) → Matching → (text : List ℕ) → (words : List (List ℕ)) → Control
choice_in_words wrong matching text [] = wrong
choice_in_words wrong matching text (list ∷ []) = in_list matching text list
choice_in_words wrong matching text (pattern ∷ body ∷ pairs) = choice_among matching text (pattern ∷ body ∷ pairs)

-- the words after the options
abbrev pub switch_control : (wrong : Control) → Matching → (words : List (List ℕ)) → Control
switch_control wrong matching [] = wrong
switch_control wrong matching (text ∷ words) = choice_in_words wrong matching text words

-- what a word is where options may stand
abbrev pub sign_of : (word : List ℕ) → Sign
sign_of word =
    if bytes_eq word (codes "-exact") then Compares Exact else
    if bytes_eq word (codes "-glob") then Compares Glob else
    if bytes_eq word (codes "--") then Ends else
    if is_meant word then Unknown else Plain

-- options stand in front, and never among the last two words; of those that say how patterns are compared the last
-- counts
abbrev pub switch : (wrong : Control) → Matching → (words : List (List ℕ)) → Control
switch wrong matching [] = switch_control wrong matching []
switch wrong matching (text ∷ []) = switch_control wrong matching (text ∷ [])
switch wrong matching (text ∷ list ∷ []) = switch_control wrong matching (text ∷ list ∷ [])
switch wrong matching (word ∷ second ∷ third ∷ words) =
    elim (sign_of word) [
      | Compares by ↦ switch wrong by (second ∷ third ∷ words)
      | Ends ↦ switch_control wrong matching (second ∷ third ∷ words)
      | Unknown ↦ bad_option word
      | Plain ↦ switch_control wrong matching (word ∷ second ∷ third ∷ words)
    ]
