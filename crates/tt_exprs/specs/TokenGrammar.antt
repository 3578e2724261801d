-- The tokens of an expression as a relation (expr(n), OPERANDS and OPERATORS). Each says that `text` begins with
-- something and that `rest` follows it; what is read as a script reads it is cut by the command grammar.
use Rattle.std.specs.Prelude.{◌≡◌, ◌≢◌, ℕ, ◌≤◌, Bool, true, false, not, ◌⊎◌, ℤ, List, [], ◌∷◌, ◌++◌, length, Contains}
use Rattle.std.specs.Prelude.{IsTrue}
use Rattle.std.specs.List.{list_all}
use Rattle.std.specs.Prelude.{Some}
use Rattle.tt_text.specs.Characters.{is_white_space}
use Rattle.tt_text.specs.Braces.{IsBalanced}
use Rattle.tt_number.specs.Numerals.{Spells, SpellsFloat}
use Rattle.tt_script.specs.Words.{PlainPart, letters, PlainParts, none, more}
use Rattle.tt_script.specs.Reading.{begins, joined_lines}
use Rattle.tt_script.specs.Operands.{IsQuotedText, IsOuterPart}
use Rattle.tt_exprs.specs.Trees.{leaf, words}
use Rattle.tt_exprs.specs.Operators.{spelling, sign_operators, word_operators, functions, boolean_word}
use Rattle.tt_exprs.specs.Tokens.{PlainToken, operand, operator, function, opening, closing, comma, colon, begins_word}
use Rattle.tt_exprs.specs.Tokens.{is_word_byte, Tokens, read, refused_word, stopped, with_token}
use Rattle.tt_exprs.specs.declared.op.Op.{Op}

-- whether the first byte of a text is such a byte
abbrev pub first_is : (ℕ → Bool) → List ℕ → Bool
first_is test [] = false
first_is test (b ∷ text) = test b

-- ---- numbers ----

-- a text that is read as a number, whole (of any size) or a float, with no white space and no sign in front (OPERANDS)
pub record IsNumber (text : List ℕ) : Type 0 where
  pub reads : ((number : ℤ) × Spells text number) ⊎ SpellsFloat text
  pub no_white_space : IsTrue (list_all (λ b. not (is_white_space b)) text)
  pub no_plus : begins 43 text ≡ false
  pub no_minus : begins 45 text ≡ false

-- the longest number that a text begins with (OPERANDS)
pub record IsLongestNumber (text number rest : List ℕ) : Type 0 where
  pub cut : text ≡ number ++ rest
  pub is_number : IsNumber number
  pub longest : (other after : List ℕ) → text ≡ other ++ after → IsNumber other → length other ≤ length number

-- ---- bare words ----

-- a longest run of letters, digits and underscores that begins with no digit (OPERANDS)
pub record IsBareWord (text word rest : List ℕ) : Type 0 where
  pub cut : text ≡ word ++ rest
  pub first : first_is begins_word word ≡ true
  pub run : IsTrue (list_all is_word_byte word)
  pub longest : first_is is_word_byte rest ≡ false

-- what a bare word says: a truth, an operator or a function (OPERANDS, OPERATORS; mathfunc(n))
pub data SpellsWord : List ℕ → PlainToken → Type 0 where
  truth_word : {word : List ℕ} {truth : Bool} → boolean_word word ≡ Some truth → SpellsWord word (operand (leaf word))
  operator_word :
      {word : List ℕ} {op : Op} →
      Contains word_operators op →
      word ≡ spelling op →
      SpellsWord word (operator op)
  function_word : {word : List ℕ} {op : Op} → Contains functions op → word ≡ spelling op → SpellsWord word (function op)

-- ---- signs ----

-- what signs say: an operator, a parenthesis, a comma or a colon (OPERATORS)
pub data SpellsSign : List ℕ → PlainToken → Type 0 where
  operator_sign :
      {sign : List ℕ} {op : Op} →
      Contains sign_operators op →
      sign ≡ spelling op →
      SpellsSign sign (operator op)
  opening_sign : SpellsSign (40 ∷ []) opening
  closing_sign : SpellsSign (41 ∷ []) closing
  comma_sign : SpellsSign (44 ∷ []) comma
  colon_sign : SpellsSign (58 ∷ []) colon

-- the longest sign that a text begins with
pub record IsLongestSign (text sign rest : List ℕ) (token : PlainToken) : Type 0 where
  pub cut : text ≡ sign ++ rest
  pub says : SpellsSign sign token
  pub longest :
      (other after : List ℕ) (said : PlainToken) →
      text ≡ other ++ after →
      SpellsSign other said →
      length other ≤ length sign

-- ---- tokens ----

-- what is substituted: a variable or a script in brackets, and no `$` that stands for itself
abbrev pub is_substituted : PlainPart → Bool
is_substituted (letters text) = false
is_substituted part = true

-- the token that a text begins with (OPERANDS, OPERATORS)
pub data IsToken : List ℕ → PlainToken → List ℕ → Type 0 where
  number_token :
      {text number rest : List ℕ} →
      IsLongestNumber text number rest →
      IsToken text (operand (leaf number)) rest
  word_token :
      {text word rest : List ℕ} {token : PlainToken} →
      IsBareWord text word rest →
      SpellsWord word token →
      IsToken text token rest
  sign_token :
      {text sign rest : List ℕ} {token : PlainToken} →
      IsLongestSign text sign rest token →
      IsToken text token rest
  -- "parts"
  quoted_token :
      {b : ℕ} {text rest : List ℕ} {parts : PlainParts} →
      b ≡ 34 →
      IsQuotedText text parts rest →
      IsToken (b ∷ text) (operand (words parts)) rest
  -- {text}, in which backslash-newlines are spaces
  braced_token :
      {b c : ℕ} {text rest : List ℕ} (inside : List ℕ) →
      b ≡ 123 →
      c ≡ 125 →
      text ≡ inside ++ (c ∷ rest) →
      IsBalanced inside →
      IsToken (b ∷ text) (operand (leaf (joined_lines 0 inside))) rest
  -- $name, $name(index), ${name} and [script]
  substituted_token :
      {b : ℕ} {text rest : List ℕ} {part : PlainPart} →
      (b ≡ 36) ⊎ (b ≡ 91) →
      is_substituted part ≡ true →
      IsOuterPart (b ∷ text) part rest →
      IsToken (b ∷ text) (operand (words (more part none))) rest

-- no token and no bare word begins here, if no white space stands
pub record BeginsNothing (text : List ℕ) : Type 0 where
  pub some : text ≢ []
  pub no_white_space : first_is is_white_space text ≡ false
  pub no_token : (token : PlainToken) (rest : List ℕ) → IsToken text token rest → ⊥
  pub no_word : (word rest : List ℕ) → IsBareWord text word rest → ⊥

-- the tokens of a text from the left, parted by white space: to its end, to the first bare word that says nothing, or
-- to where no token begins
pub data HasTokens : List ℕ → Tokens → Type 0 where
  at_end : HasTokens [] (read [])
  after_white_space :
      {b : ℕ} {text : List ℕ} {tokens : Tokens} →
      is_white_space b ≡ true →
      HasTokens text tokens →
      HasTokens (b ∷ text) tokens
  after_token :
      {text rest : List ℕ} {first : PlainToken} {later tokens : Tokens} →
      IsToken text first rest →
      HasTokens rest later →
      tokens ≡ with_token first later →
      HasTokens text tokens
  at_refused :
      {text word rest : List ℕ} →
      IsBareWord text word rest →
      ((token : PlainToken) → SpellsWord word token → ⊥) →
      HasTokens text (refused_word word)
  at_nothing : {text : List ℕ} → BeginsNothing text → HasTokens text stopped
