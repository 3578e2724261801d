-- Glob patterns as a function, with which evaluation computes (string(n), string match). It reads the pattern from the
-- left, a character at a time.
use Rattle.std.specs.Prelude.{◌↔◌, Bool, true, false, ◌&&◌, ◌||◌, IsTrue, List, [], ◌∷◌, ◌++◌, codes, bytes_eq}
use Rattle.std.specs.Prelude.{if◌then◌else◌}
use Rattle.tt_text.specs.Characters.{Character}
use Rattle.tt_text.specs.Glob.{Matches, is_listed}

-- what a character is in a pattern
pub data Sign : Type 0 where
  Run : Sign  -- `*`
  Any : Sign  -- `?`
  Opens : Sign  -- `[`
  Escapes : Sign  -- a backslash
  Itself : Sign

abbrev pub sign_of : Character → Sign
sign_of c =
    if bytes_eq c (codes "*") then Run else
    if bytes_eq c (codes "?") then Any else
    if bytes_eq c (codes "[") then Opens else
    if bytes_eq c (codes "\\") then Escapes else Itself

-- the state of the reading: outside of sets, in one with these members so far, or after a backslash
pub data Reading : Type 0 where
  Outside : Reading
  InSet : (members : List Character) → Reading
  Escaped : Reading

-- a text has a first character that passes, and the text after it passes
abbrev pub passes_first : (Character → Bool) → (List Character → Bool) → List Character → Bool
passes_first first later [] = false
passes_first first later (c ∷ text) = first c && later text

-- some end of a text passes
abbrev pub passes_some_end : (List Character → Bool) → List Character → Bool
passes_some_end passes [] = passes []
passes_some_end passes (c ∷ text) = passes (c ∷ text) || passes_some_end passes text

abbrev pub is_last_backslash : List Character → Bool
is_last_backslash [] = false
is_last_backslash (c ∷ []) = bytes_eq c (codes "\\")
is_last_backslash (c ∷ d ∷ text) = false

abbrev pub is_nothing : List Character → Bool
is_nothing [] = true
is_nothing (c ∷ text) = false

-- a character outside of sets, given what matches after it there, in a set and after a backslash
abbrev pub passes_sign : Sign → Character → (outside in_set escaped : List Character → Bool) → List Character → Bool
passes_sign Run p outside in_set escaped text = passes_some_end outside text
passes_sign Any p outside in_set escaped text = passes_first (λ c. true) outside text
passes_sign Opens p outside in_set escaped text = in_set text
passes_sign Escapes p outside in_set escaped text = escaped text
passes_sign Itself p outside in_set escaped text = passes_first (bytes_eq p) outside text

-- the remaining pattern matches the text
abbrev pub reads : Reading → (pattern text : List Character) → Bool
reads Outside [] text = is_nothing text
reads (InSet members) [] text = false
reads Escaped [] text = is_last_backslash text
reads Outside (p ∷ pattern) text =
    passes_sign (sign_of p) p (reads Outside pattern) (reads (InSet []) pattern) (reads Escaped pattern) text
reads (InSet members) (p ∷ pattern) text =
    if bytes_eq p (codes "]") then passes_first (is_listed members) (reads Outside pattern) text else
    reads (InSet (members ++ p ∷ [])) pattern text
reads Escaped (p ∷ pattern) text = passes_first (bytes_eq p) (reads Outside pattern) text

-- a pattern matches a text
abbrev pub is_match : (pattern text : List Character) → Bool
is_match pattern text = reads Outside pattern text

-- the function answers what matches
abbrev pub GlobLaw : Type 0
GlobLaw = (pattern text : List Character) → IsTrue (is_match pattern text) ↔ Matches pattern text
