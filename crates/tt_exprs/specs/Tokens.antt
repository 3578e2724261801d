-- The tokens of an expression, cut from the left (expr(n), OPERANDS and OPERATORS).
-- `k` is a number of bytes that are passed over.
use Rattle.std.specs.Prelude.{ℕ, zero, suc, pred, ◌+◌, Bool, true, false, ◌&&◌, ◌||◌, if◌then◌else◌, ◌==◌, nat_lt, List}
use Rattle.std.specs.Prelude.{[], ◌∷◌, length, take, drop, Some, None}
use Rattle.std.specs.List.{prefix_len}
use Rattle.std.specs.Char.{is_digit, is_ascii_alphabetic, is_ascii_alphanumeric}
use Rattle.tt_text.specs.Characters.{is_white_space}
use Rattle.tt_text.specs.Braces.{matching_brace}
use Rattle.tt_number.specs.Numerals.{base_of_mark, is_exponent_mark}
use Rattle.tt_script.specs.Words.{PlainPart, letters, variable, element, script, PlainParts, none, more}
use Rattle.tt_script.specs.Reading.{Read, takes, fails, begins, joined_lines}
use Rattle.tt_script.specs.Operands.{quoted_text, outer_part}
use Rattle.tt_exprs.specs.Trees.{PlainExpr, leaf, words}
use Rattle.tt_exprs.specs.Operators.{spelling, sign_operators, word_operators, functions, first_spelled, spelled_so}
use Rattle.tt_exprs.specs.Operators.{boolean_word}
use Rattle.tt_exprs.specs.declared.op.Op.{Op}

-- a token; `-` and `+` are the operators that stand between operands, wherever they stand
pub data PlainToken : Type 0 where
  operand : PlainExpr → PlainToken
  operator : Op → PlainToken
  function : Op → PlainToken
  opening : PlainToken  -- `(`
  closing : PlainToken  -- `)`
  comma : PlainToken
  colon : PlainToken

-- what the front of a text is cut into
pub data Cut : Type 0 where
  one : PlainToken → ℕ → Cut  -- a token, and how many bytes it takes
  refused : List ℕ → Cut  -- a bare word that is none
  none_here : Cut  -- no token begins here

-- ---- signs ----

-- a sign that is no operator
abbrev pub mark : List ℕ → Cut
mark [] = none_here
mark (b ∷ text) =
    if b == 40 then one opening 1 else
    if b == 41 then one closing 1 else
    if b == 44 then one comma 1 else
    if b == 58 then one colon 1 else none_here

-- the longest sign at the front
unfoldable pub sign : List ℕ → Cut
sign text =
    elim (first_spelled sign_operators text) [
      | Some op ↦ one (operator op) (length (spelling op))
      | None ↦ mark text
    ]

-- ---- words ----

-- a byte that a bare word may begin with
abbrev pub begins_word : ℕ → Bool
begins_word b = is_ascii_alphabetic b || b == 95

-- a byte that a bare word goes on with
abbrev pub is_word_byte : ℕ → Bool
is_word_byte b = is_ascii_alphanumeric b || b == 95

-- a bare word that takes n bytes
abbrev pub bare_word : List ℕ → ℕ → Cut
bare_word word n =
    elim (spelled_so word_operators word) [
      | Some op ↦ one (operator op) n
      | None ↦ elim (spelled_so functions word) [
        | Some op ↦ one (function op) n
        | None ↦ elim (boolean_word word) [ Some truth ↦ one (operand (leaf word)) n | None ↦ refused word ]
      ]
    ]

-- ---- numbers ----

-- how many digits of this base are at the front
abbrev pub digit_count : ℕ → List ℕ → ℕ
digit_count base text = prefix_len (λ b. is_digit b base) text

-- how many bytes these digits take with what is before them, or 0 if there are none
abbrev pub with_digits : ℕ → ℕ → ℕ
with_digits n digits = elim (nat_lt 0 digits) [ true ↦ n + digits | false ↦ 0 ]

-- what follows the mark of an exponent, with the mark: a sign or none, and digits; or 0
abbrev pub exponent_digits : List ℕ → ℕ
exponent_digits [] = 0
exponent_digits (b ∷ text) =
    elim (b == 43 || b == 45) [
      | true ↦ with_digits 2 (digit_count 10 text)
      | false ↦ with_digits 1 (digit_count 10 (b ∷ text))
    ]

-- how many bytes an exponent takes that is at the front, or 0
abbrev pub exponent : List ℕ → ℕ
exponent [] = 0
exponent (mark ∷ text) = elim (is_exponent_mark mark) [ true ↦ exponent_digits text | false ↦ 0 ]

-- how many bytes a point and digits after it take that are at the front of what follows n digits; or 0
abbrev pub fraction : ℕ → List ℕ → ℕ
fraction n text =
    elim (begins 46 text) [
      | false ↦ 0
      | true ↦
          let digits = digit_count 10 (drop 1 text) in
          elim (nat_lt 0 (n + digits)) [ true ↦ 1 + digits | false ↦ 0 ]
    ]

-- how many of n decimal digits write a whole number: after a first 0 the octal ones
abbrev pub decimal : ℕ → List ℕ → ℕ
decimal n text = elim (begins 48 text) [ true ↦ digit_count 8 text | false ↦ n ]

-- how many bytes a number takes that has n digits and ends there, or goes on to the end of an exponent or a fraction
abbrev pub longer : ℕ → ℕ → List ℕ → ℕ
longer n end text = elim (nat_lt n end) [ true ↦ end | false ↦ decimal n text ]

-- the same, if its digits and its fraction take m bytes
abbrev pub scaled_length : ℕ → ℕ → List ℕ → ℕ
scaled_length n m text =
    elim (m == 0) [
      | true ↦ 0
      | false ↦ longer n (m + exponent (drop m text)) text
    ]

-- how many bytes a number takes that begins with no mark of its base, or 0
abbrev pub unmarked_length : List ℕ → ℕ
unmarked_length text =
    scaled_length (digit_count 10 text)
    (digit_count 10 text + fraction (digit_count 10 text) (drop (digit_count 10 text) text)) text

-- how many bytes a mark of a base and the digits after it take, or 0
abbrev pub marked_length : List ℕ → ℕ
marked_length [] = 0
marked_length (mark ∷ text) = elim (base_of_mark mark) [ Some base ↦ with_digits 1 (digit_count base text) | None ↦ 0 ]

-- how many bytes the longest number at the front takes, or 0
abbrev pub number_length : List ℕ → ℕ
number_length [] = 0
number_length (b ∷ text) =
    elim (b == 48 && nat_lt 0 (marked_length text)) [
      | true ↦ 1 + marked_length text
      | false ↦ unmarked_length (b ∷ text)
    ]

-- ---- operands that are read as a script reads them ----

-- what follows a quote, up to the next
abbrev pub of_quoted : Read PlainParts → Cut
of_quoted (takes value n) = one (operand (words value)) (n + 2)
of_quoted (fails fault) = none_here

-- a variable or a script in brackets of n bytes and one before them; a `$` that begins no variable is no operand
abbrev pub of_one_part : PlainPart → ℕ → Cut
of_one_part (letters text) n = none_here
of_one_part (variable name) n = one (operand (words (more (variable name) none))) (n + 1)
of_one_part (element name index) n = one (operand (words (more (element name index) none))) (n + 1)
of_one_part (script text) n = one (operand (words (more (script text) none))) (n + 1)

abbrev pub of_part : Read PlainPart → Cut
of_part (takes part n) = of_one_part part n
of_part (fails fault) = none_here

-- what stands in quotes, with the text after the first one
abbrev pub quote_cut : List ℕ → Cut
quote_cut text = of_quoted (quoted_text text)

-- what a `$` or a `[` begins, with the text after it
abbrev pub substitution_cut : ℕ → List ℕ → Cut
substitution_cut b text = of_part (outer_part b text)

-- a text in braces, with the text after the brace
abbrev pub in_braces : List ℕ → Cut
in_braces text =
    elim (matching_brace text) [
      | Some n ↦ one (operand (leaf (joined_lines 0 (take n text)))) (n + 2)
      | None ↦ none_here
    ]

-- ---- tokens ----

-- a token whose first byte begins neither a number nor a word
abbrev pub other : List ℕ → Cut
other [] = none_here
other (b ∷ text) =
    elim (b == 34) [
      | true ↦ quote_cut text
      | false ↦
          elim (b == 123) [
            | true ↦ in_braces text
            | false ↦
                elim (b == 36 || b == 91) [ true ↦ substitution_cut b text | false ↦ sign (b ∷ text) ]
          ]
    ]

-- a word at the front
unfoldable pub word : List ℕ → Cut
word text = bare_word (take (prefix_len is_word_byte text) text) (prefix_len is_word_byte text)

-- a number of n bytes at the front
abbrev pub number : List ℕ → ℕ → Cut
number text n = one (operand (leaf (take n text))) n

-- the token that a text begins with, which begins with this byte
unfoldable pub token : ℕ → List ℕ → Cut
token b text =
    elim (begins_word b) [
      | true ↦ word (b ∷ text)
      | false ↦ elim (nat_lt 0 (number_length (b ∷ text))) [
        | true ↦ number (b ∷ text) (number_length (b ∷ text))
        | false ↦ other (b ∷ text)
      ]
    ]

-- the tokens of a text, as far as they can be read
pub data Tokens : Type 0 where
  read : List PlainToken → Tokens  -- to its end
  refused_word : List ℕ → Tokens  -- to the first bare word that is none
  stopped : Tokens  -- to where no token begins

-- a token before others
abbrev pub with_token : PlainToken → Tokens → Tokens
with_token token (read tokens) = read (token ∷ tokens)
with_token token (refused_word word) = refused_word word
with_token token stopped = stopped

unfoldable pub tokens : ℕ → List ℕ → Tokens
tokens k [] = read []
tokens (suc k) (b ∷ text) = tokens k text
tokens zero (b ∷ text) =
    elim (is_white_space b) [
      | true ↦ tokens 0 text
      | false ↦ elim (token b text) [
        | one first n ↦ with_token first (tokens (pred n) text)
        | refused word ↦ refused_word word
        | none_here ↦ stopped
      ]
    ]
