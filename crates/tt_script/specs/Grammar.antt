-- The command grammar: how a text is cut into commands, words and parts (Tcl(n)). Each relation says that
-- `text` begins with something and that `rest` follows it. `depth` brackets and indices may still be opened.
use Rattle.std.specs.Prelude.{◌≡◌, ◌≢◌, ℕ, suc, ◌+◌, Bool, true, false, ◌||◌, ◌&&◌, ◌==◌, List, [], ◌∷◌, ◌++◌, length}
use Rattle.std.specs.Prelude.{drop}
use Rattle.std.specs.List.{position_or_len}
use Rattle.tt_text.specs.Characters.{is_white_space, is_blank}
use Rattle.tt_text.specs.Backslash.{backslash}
use Rattle.tt_text.specs.Braces.{IsBalanced}
use Rattle.tt_script.specs.Words.{PlainPart, letters, variable, element, script, PlainParts, none, with_part, PlainWord}
use Rattle.tt_script.specs.Words.{PlainCommand}
use Rattle.tt_script.specs.Reading.{most_open, begins, continues_line, separates, ends_command, ends_parts, expands}
use Rattle.tt_script.specs.Reading.{letters_of, joined_lines, is_name_byte, part_of_name}
use Rattle.tt_script.specs.declared.command.Place.{Place}
use Rattle.tt_script.specs.declared.command.Place.TheVariants as places
use Rattle.tt_script.specs.declared.command.Ending.{Ending}
use Rattle.tt_script.specs.declared.command.Ending.TheVariants as endings

-- ---- what stands between words and commands ----

-- whether a text begins with a blank or a backslash-newline
abbrev pub begins_gap : List ℕ → Bool
begins_gap [] = false
begins_gap (b ∷ text) = is_blank b || continues_line b text

-- a longest gap: blanks and backslash-newlines (rules 3 and 9)
pub data IsGap : List ℕ → List ℕ → Type 0 where
  gap_ends : {rest : List ℕ} → begins_gap rest ≡ false → IsGap rest rest
  gap_blank : {b : ℕ} {text rest : List ℕ}
      → is_blank b ≡ true
      → IsGap text rest
      → IsGap (b ∷ text) rest
  gap_line : {b c : ℕ} {text rest : List ℕ}
      → b ≡ 92
      → c ≡ 10
      → IsGap text rest
      → IsGap (b ∷ c ∷ text) rest

-- a comment up to the first newline that no backslash escapes, or to the end (rule 10)
pub data IsComment : List ℕ → List ℕ → Type 0 where
  comment_ends : IsComment [] []
  comment_newline : {b : ℕ} {text : List ℕ} → b ≡ 10 → IsComment (b ∷ text) (b ∷ text)
  comment_byte : {b : ℕ} {text rest : List ℕ}
      → b ≢ 10
      → b ≢ 92
      → IsComment text rest
      → IsComment (b ∷ text) rest
  comment_escape : {b c : ℕ} {text rest : List ℕ}
      → b ≡ 92
      → IsComment text rest
      → IsComment (b ∷ c ∷ text) rest
  comment_last : {b : ℕ} → b ≡ 92 → IsComment (b ∷ []) []

-- whether white space, a semicolon, a backslash-newline or a comment stands at the front
abbrev pub begins_skipped : List ℕ → Bool
begins_skipped [] = false
begins_skipped (b ∷ text) = ((is_white_space b || b == 59) || continues_line b text) || b == 35

-- all that may stand before a command: a longest run of white space, semicolons, backslash-newlines and
-- comments (rules 1, 9 and 10)
pub data IsSkipped : List ℕ → List ℕ → Type 0 where
  skip_ends : {rest : List ℕ} → begins_skipped rest ≡ false → IsSkipped rest rest
  skip_separator : {b : ℕ} {text rest : List ℕ}
      → is_white_space b || b == 59 ≡ true
      → IsSkipped text rest
      → IsSkipped (b ∷ text) rest
  skip_line : {b c : ℕ} {text rest : List ℕ}
      → b ≡ 92
      → c ≡ 10
      → IsSkipped text rest
      → IsSkipped (b ∷ c ∷ text) rest
  skip_comment : {b : ℕ} {text end rest : List ℕ}
      → b ≡ 35
      → IsComment text end
      → IsSkipped end rest
      → IsSkipped (b ∷ text) rest

-- ---- names of variables ----

-- whether a byte of a name or two colons stand at the front
abbrev pub begins_name : List ℕ → Bool
begins_name [] = false
begins_name (b ∷ text) = is_name_byte b || (b == 58 && begins 58 text)

-- all the colons at the front
pub data IsColons : List ℕ → List ℕ → Type 0 where
  colons_end : {rest : List ℕ} → begins 58 rest ≡ false → IsColons rest rest
  colons_more : {b : ℕ} {text rest : List ℕ}
      → b ≡ 58
      → IsColons text rest
      → IsColons (b ∷ text) rest

-- a longest name: letters, digits, underscores, and runs of two or more colons (rule 8)
pub data IsName : List ℕ → List ℕ → Type 0 where
  name_ends : {rest : List ℕ} → begins_name rest ≡ false → IsName rest rest
  name_byte : {b : ℕ} {text rest : List ℕ}
      → is_name_byte b ≡ true
      → IsName text rest
      → IsName (b ∷ text) rest
  name_colons : {b c : ℕ} {text middle rest : List ℕ}
      → b ≡ 58
      → c ≡ 58
      → IsColons text middle
      → IsName middle rest
      → IsName (b ∷ c ∷ text) rest

-- the text begins with this longest name, which isn't empty (rule 8)
pub record IsNamed (text name rest : List ℕ) : Type 0 where
  pub cut : text ≡ name ++ rest
  pub longest : IsName text rest
  pub some : name ≢ []

-- ---- parts, words and scripts ----

mutual
  -- a part of a word (rules 7 to 9)
  pub data IsPart : ℕ → List ℕ → PlainPart → List ℕ → Type 0 where
    -- a byte that begins no substitution stands for itself
    byte_part : {depth b : ℕ} {text : List ℕ}
        → b ≢ 36
        → b ≢ 91
        → b ≢ 92
        → IsPart depth (b ∷ text) (letters (b ∷ [])) text
    -- a backslash sequence stands for other bytes (rule 9)
    escape_part : {depth b : ℕ} {text rest : List ℕ} {part : PlainPart}
        → b ≡ 92
        → part ≡ letters (backslash text).value
        → rest ≡ drop (backslash text).takes text
        → IsPart depth (b ∷ text) part rest
    -- [script]: whole commands up to a `]` (rule 7)
    script_part : {depth b c : ℕ} {text inside rest : List ℕ}
        → b ≡ 91
        → c ≡ 93
        → text ≡ inside ++ (c ∷ rest)
        → IsCommands depth text (c ∷ rest)
        → IsPart (suc depth) (b ∷ text) (script inside) rest
    -- $name, if no index follows (rule 8)
    variable_part : {depth b : ℕ} {text name rest : List ℕ}
        → b ≡ 36
        → IsNamed text name rest
        → begins 40 rest ≡ false
        → IsPart depth (b ∷ text) (variable name) rest
    -- $name(index) (rule 8)
    element_part : {depth b c d : ℕ} {text name inner rest : List ℕ} {index : PlainParts}
        → b ≡ 36
        → c ≡ 40
        → d ≡ 41
        → IsNamed text name (c ∷ inner)
        → IsParts depth endings.Parenthesis inner index (d ∷ rest)
        → IsPart (suc depth) (b ∷ text) (element name index) rest
    -- ${name}, up to the next brace (rule 8)
    braced_part : {depth b c d : ℕ} {text rest : List ℕ} {part : PlainPart} (name : List ℕ)
        → b ≡ 36
        → c ≡ 123
        → d ≡ 125
        → text ≡ name ++ (d ∷ rest)
        → position_or_len (λ x. x == 125) name ≡ length name
        → part ≡ part_of_name name
        → IsPart depth (b ∷ c ∷ text) part rest
    -- a `$` before anything else is itself (rule 8)
    dollar_part : {depth b : ℕ} {text : List ℕ}
        → b ≡ 36
        → begins 123 text ≡ false
        → begins_name text ≡ false
        → IsPart depth (b ∷ text) (letters (36 ∷ [])) text

  -- parts up to what ends them, substituted from left to right (rule 11)
  pub data IsParts : ℕ → Ending → List ℕ → PlainParts → List ℕ → Type 0 where
    parts_end : {depth : ℕ} {ending : Ending} {rest : List ℕ}
        → ends_parts ending rest ≡ true
        → IsParts depth ending rest none rest
    parts_more : {depth : ℕ} {ending : Ending} {text middle rest : List ℕ}
        {first : PlainPart} {others whole : PlainParts}
        → ends_parts ending text ≡ false
        → IsPart depth text first middle
        → IsParts depth ending middle others rest
        → whole ≡ with_part first others
        → IsParts depth ending text whole rest

  -- the parts of a word
  pub data IsWordParts : ℕ → Place → List ℕ → PlainParts → List ℕ → Type 0 where
    -- in quotes, with a separator after it (rule 4)
    in_quotes : {depth b c : ℕ} {place : Place} {text rest : List ℕ} {parts : PlainParts}
        → b ≡ 34
        → c ≡ 34
        → IsParts depth endings.Quote text parts (c ∷ rest)
        → separates place rest ≡ true
        → IsWordParts depth place (b ∷ text) parts rest
    -- in braces, with a separator after it: nothing is substituted but backslash-newlines (rule 6)
    in_braces : {depth b c : ℕ} {place : Place} {text rest : List ℕ} {parts : PlainParts} (inside : List ℕ)
        → b ≡ 123
        → c ≡ 125
        → text ≡ inside ++ (c ∷ rest)
        → IsBalanced inside
        → separates place rest ≡ true
        → parts ≡ letters_of (joined_lines 0 inside)
        → IsWordParts depth place (b ∷ text) parts rest
    -- bare, up to a separator (rule 3)
    bare : {depth : ℕ} {place : Place} {text rest : List ℕ} {parts : PlainParts}
        → begins 34 text ≡ false
        → begins 123 text ≡ false
        → IsParts depth (endings.Word place) text parts rest
        → IsWordParts depth place text parts rest

  -- a word
  pub data IsWord : ℕ → Place → List ℕ → PlainWord → List ℕ → Type 0 where
    -- {*} before a byte that is no white space: the rest of the word is expanded (rule 5)
    expanded : {depth : ℕ} {place : Place} {text rest : List ℕ} {parts : PlainParts}
        → expands text ≡ true
        → IsWordParts depth place (drop 3 text) parts rest
        → IsWord depth place text (record { expand = true; parts = parts }) rest
    whole_word : {depth : ℕ} {place : Place} {text rest : List ℕ} {parts : PlainParts}
        → separates place text ≡ false
        → expands text ≡ false
        → IsWordParts depth place text parts rest
        → IsWord depth place text (record { expand = false; parts = parts }) rest

  -- the words of a command, parted by gaps, and what follows the last one (rules 1 and 3)
  pub data IsWords : ℕ → Place → List ℕ → List PlainWord → List ℕ → Type 0 where
    last_word : {depth : ℕ} {place : Place} {text rest after : List ℕ} {word : PlainWord}
        → IsWord depth place text word rest
        → IsGap rest after
        → ends_command place after ≡ true
        → IsWords depth place text (word ∷ []) rest
    next_word : {depth : ℕ} {place : Place} {text middle next rest : List ℕ} {word : PlainWord} {words : List PlainWord}
        → IsWord depth place text word middle
        → IsGap middle next
        → ends_command place next ≡ false
        → IsWords depth place next words rest
        → IsWords depth place text (word ∷ words) rest

  -- whole commands in brackets, up to the `]` that the rest begins with (rules 1 and 7)
  pub data IsCommands : ℕ → List ℕ → List ℕ → Type 0 where
    no_command : {depth : ℕ} {text rest : List ℕ}
        → IsSkipped text rest
        → begins 93 rest ≡ true
        → IsCommands depth text rest
    one_command : {depth : ℕ} {text start after rest : List ℕ} {words : List PlainWord}
        → IsSkipped text start
        → begins 93 start ≡ false
        → IsWords depth places.Brackets start words after
        → IsCommands depth after rest
        → IsCommands depth text rest

-- ---- the first command ----

-- the text begins with this command: what is skipped, its words, a gap, and a terminator or the end (rule 1)
pub record IsFirst (text : List ℕ) (c : PlainCommand) : Type 0 where
  pub begun : List ℕ
  pub after : List ℕ
  pub terminator : List ℕ
  pub skipped : IsSkipped text begun
  pub words : IsWords most_open places.Script begun c.words after
  pub gap : IsGap after terminator
  pub ended : ends_command places.Script terminator ≡ true
  pub start : c.start + length begun ≡ length text
  pub text_end : c.text_end + length after ≡ length text
  pub next : c.next + length (drop 1 terminator) ≡ length text
