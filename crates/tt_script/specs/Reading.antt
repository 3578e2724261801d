-- The first command of a text, or why it has none: a recursive descent over lists (Tcl(n)).
-- It answers values with the number of bytes that they take. `k` is a number of bytes that are passed over.
use Rattle.std.specs.Prelude.{ℕ, zero, suc, pred, ◌+◌, ◌-◌, Bool, true, false, not, ◌&&◌, ◌||◌, if◌then◌else◌, ◌==◌}
use Rattle.std.specs.Prelude.{nat_lt, min, List, [], ◌∷◌, ◌++◌, length, take, drop, slice_range, position, Option, Some}
use Rattle.std.specs.Prelude.{None}
use Rattle.std.specs.List.{position_or_len, prefix_len}
use Rattle.std.specs.Char.{is_ascii_alphanumeric}
use Rattle.tt_text.specs.Characters.{is_white_space, is_blank}
use Rattle.tt_text.specs.Backslash.{backslash}
use Rattle.tt_text.specs.Braces.{matching_brace}
use Rattle.tt_script.specs.Words.{PlainPart, letters, variable, element, script, PlainParts, none, with_letters}
use Rattle.tt_script.specs.Words.{with_part, PlainWord, PlainFirst, nothing, bad, command}
use Rattle.tt_script.specs.declared.command.ParseFault.{ParseFault}
use Rattle.tt_script.specs.declared.command.ParseFault.TheVariants.{CloseBrace, CloseBracket, CloseQuote, AfterBrace}
use Rattle.tt_script.specs.declared.command.ParseFault.TheVariants.{AfterQuote, CloseParen, VariableBrace, TooDeep}
use Rattle.tt_script.specs.declared.command.Place.{Place}
use Rattle.tt_script.specs.declared.command.Place.TheVariants as places
use Rattle.tt_script.specs.declared.command.Ending.{Ending}
use Rattle.tt_script.specs.declared.command.Ending.TheVariants as endings

-- what the front of a text reads as: a value and how many bytes it takes, or the fault that is met first
pub data Read (A : Type 0) : Type 0 where
  takes : A → ℕ → Read A
  fails : ParseFault → Read A

-- the same with n bytes before it
abbrev pub after : {A : Type 0} → ℕ → Read A → Read A
after n (takes value m) = takes value (n + m)
after n (fails fault) = fails fault

-- the same with another value
abbrev pub map_read : {A B : Type 0} → (A → B) → Read A → Read B
map_read f (takes value n) = takes (f value) n
map_read f (fails fault) = fails fault

-- what comes after it
abbrev pub and_then : {A B : Type 0} → Read A → (A → ℕ → Read B) → Read B
and_then (takes value n) f = f value n
and_then (fails fault) f = fails fault

-- ---- bytes ----

-- whether a text begins with this byte
abbrev pub begins : ℕ → List ℕ → Bool
begins c [] = false
begins c (b ∷ text) = b == c

-- a backslash before a newline, which is white space (rules 3 and 9)
abbrev pub continues_line : ℕ → List ℕ → Bool
continues_line b text = b == 92 && begins 10 text

-- what ends a command: a newline or a semicolon, and in brackets a `]` (rule 1)
abbrev pub is_terminator : Place → ℕ → Bool
is_terminator places.Script b = b == 10 || b == 59
is_terminator places.Brackets b = (b == 10 || b == 59) || b == 93

-- whether a word of a command ends before this text: at its end, before a gap or before a terminator
abbrev pub separates : Place → List ℕ → Bool
separates place [] = true
separates place (b ∷ text) = (is_white_space b || is_terminator place b) || continues_line b text

-- whether a command ends before this text
abbrev pub ends_command : Place → List ℕ → Bool
ends_command place [] = true
ends_command place (b ∷ text) = is_terminator place b

-- ---- what stands between words and commands ----

-- the blanks and backslash-newlines at the front (rule 3)
unfoldable pub gap : ℕ → List ℕ → ℕ
gap k [] = k
gap (suc k) (b ∷ text) = suc (gap k text)
gap zero (b ∷ text) =
    elim (is_blank b) [
      | true ↦ suc (gap 0 text)
      | false ↦ elim (continues_line b text) [ true ↦ suc (gap 1 text) | false ↦ 0 ]
    ]

-- a comment up to the newline that no backslash escapes; `escaped` says that a backslash is before it (rule 10)
unfoldable pub comment : (escaped : Bool) → List ℕ → ℕ
comment escaped [] = 0
comment true (b ∷ text) = suc (comment false text)
comment false (b ∷ text) = elim (b == 10) [ true ↦ 0 | false ↦ suc (comment (b == 92) text) ]

-- white space, semicolons, backslash-newlines and comments before a command (rules 1 and 10)
unfoldable pub skipped : ℕ → List ℕ → ℕ
skipped k [] = k
skipped (suc k) (b ∷ text) = suc (skipped k text)
skipped zero (b ∷ text) =
    elim (is_white_space b || b == 59) [
      | true ↦ suc (skipped 0 text)
      | false ↦ elim (continues_line b text) [
        | true ↦ suc (skipped 1 text)
        | false ↦ elim (b == 35) [ true ↦ suc (skipped (comment false text) text) | false ↦ 0 ]
      ]
    ]

-- ---- the parts of a word ----

-- the letters of a text
abbrev pub letters_of : List ℕ → PlainParts
letters_of text = with_letters text none

-- a text in braces, where a backslash-newline with the spaces and tabs after it is one space (rule 6)
unfoldable pub joined_lines : ℕ → List ℕ → List ℕ
joined_lines k [] = []
joined_lines (suc k) (b ∷ text) = joined_lines k text
joined_lines zero (b ∷ text) =
    elim (b == 92) [
      | true ↦ elim (begins 10 text) [
        | true ↦ 32 ∷ joined_lines (backslash text).takes text
        | false ↦ b ∷ take 1 text ++ joined_lines 1 text
      ]
      | false ↦ b ∷ joined_lines 0 text
    ]

-- a byte of a variable's name, colons aside (rule 8)
abbrev pub is_name_byte : ℕ → Bool
is_name_byte b = is_ascii_alphanumeric b || b == 95

-- the longest name at the front: name bytes, and runs of two or more colons (rule 8)
unfoldable pub name_length : ℕ → List ℕ → ℕ
name_length k [] = k
name_length (suc k) (b ∷ text) = suc (name_length k text)
name_length zero (b ∷ text) =
    elim (is_name_byte b) [
      | true ↦ suc (name_length 0 text)
      | false ↦ elim (b == 58 && begins 58 text) [
        | true ↦ suc (name_length (prefix_len (λ c. c == 58) text) text)
        | false ↦ 0
      ]
    ]

-- the place of the first ( of a name that ends with ), if it is an element's name
abbrev pub index_start : List ℕ → Option ℕ
index_start name = if begins 41 (drop (length name - 1) name) then position (λ b. b == 40) name else None

-- a name in braces is one that a command is given: a(b) is the element b of a, from the first ( to a last ) (rule 8)
abbrev pub part_of_name : List ℕ → PlainPart
part_of_name name =
    elim (index_start name) [
      | None ↦ variable name
      | Some start ↦ element (take start name) (letters_of (slice_range name (start + 1) (length name - 1)))
    ]

-- what `${` begins, with the text after the brace
abbrev pub braced_variable : List ℕ → Read PlainPart
braced_variable text =
    let n = position_or_len (λ b. b == 125) text in
    if nat_lt n (length text) then takes (part_of_name (take n text)) (n + 1) else fails VariableBrace

-- how what a bracket or an index opens is read: by readers that are one level in
pub record Level : Type 0 where
  pub index : List ℕ → Read PlainParts  -- the parts up to the `)`
  pub brackets : List ℕ → Read (List ℕ)  -- the script up to the `]`

-- a variable whose name has n bytes, if n isn't 0 (rule 8)
unfoldable pub named_variable : Level → ℕ → List ℕ → Read PlainPart
named_variable level n text =
    elim (begins 40 (drop n text)) [
      | true ↦
          and_then (after (n + 1) (level.index (drop (n + 1) text)))
          (λ index m. takes (element (take n text) index) (m + 1))
      | false ↦ takes (variable (take n text)) n
    ]

-- what `$` begins, with the text after it; before anything but a name or a brace it is itself (rule 8)
unfoldable pub dollar : Level → List ℕ → Read PlainPart
dollar level text =
    elim (begins 123 text) [
      | true ↦ after 1 (braced_variable (drop 1 text))
      | false ↦ elim (nat_lt 0 (name_length 0 text)) [
        | true ↦ named_variable level (name_length 0 text) text
        | false ↦ takes (letters (36 ∷ [])) 0
      ]
    ]

-- the part that this byte and the text after it begin with (rules 7 to 9)
unfoldable pub part : Level → ℕ → List ℕ → Read PlainPart
part level b text =
    elim (b == 36) [
      | true ↦ dollar level text
      | false ↦ elim (b == 91) [
        | true ↦ and_then (level.brackets text) (λ inside n. takes (script inside) (n + 1))
        | false ↦ elim (b == 92) [
          | true ↦ takes (letters (backslash text).value) (backslash text).takes
          | false ↦ takes (letters (b ∷ [])) 0
        ]
      ]
    ]

-- whether parts end before this text: a bare word before a separator, a quoted word before its quote, an index before
-- its `)`
abbrev pub ends_parts : Ending → List ℕ → Bool
ends_parts (endings.Word place) text = separates place text
ends_parts endings.Quote text = begins 34 text
ends_parts endings.Parenthesis text = begins 41 text

-- at the end of the text
abbrev pub parts_at_end : Ending → Read PlainParts
parts_at_end (endings.Word place) = takes none 0
parts_at_end endings.Quote = fails CloseQuote
parts_at_end endings.Parenthesis = fails CloseParen

-- parts up to what ends them (rules 4, 8 and 11)
unfoldable pub parts : Level → Ending → ℕ → List ℕ → Read PlainParts
parts level ending k [] = after k (parts_at_end ending)
parts level ending (suc k) (b ∷ text) = after 1 (parts level ending k text)
parts level ending zero (b ∷ text) =
    elim (ends_parts ending (b ∷ text)) [
      | true ↦ takes none 0
      | false ↦ elim (part level b text) [
        | takes first n ↦ after 1 (map_read (with_part first) (parts level ending n text))
        | fails fault ↦ fails fault
      ]
    ]

-- ---- words ----

-- a value that takes so many bytes, if a separator follows it
abbrev pub before_separator : Place → ParseFault → List ℕ → PlainParts → ℕ → Read PlainParts
before_separator place fault text value n =
    elim (separates place (drop n text)) [ true ↦ takes value n | false ↦ fails fault ]

-- a word in quotes, with the text after the quote (rule 4)
unfoldable pub quoted_word : Place → Level → List ℕ → Read PlainParts
quoted_word place level text =
    and_then (parts level endings.Quote 0 text) (λ value n. before_separator place AfterQuote text value (n + 1))

-- a word in braces, with the text after the brace (rule 6)
unfoldable pub braced : Place → List ℕ → Read PlainParts
braced place text =
    elim (matching_brace text) [
      | Some n ↦ before_separator place AfterBrace text (letters_of (joined_lines 0 (take n text))) (n + 1)
      | None ↦ fails CloseBrace
    ]

-- the parts of a word (rules 3, 4 and 6)
unfoldable pub word_parts : Place → Level → List ℕ → Read PlainParts
word_parts place level text =
    elim (begins 34 text) [
      | true ↦ after 1 (quoted_word place level (drop 1 text))
      | false ↦ elim (begins 123 text) [
        | true ↦ after 1 (braced place (drop 1 text))
        | false ↦ parts level (endings.Word place) 0 text
      ]
    ]

-- whether a text begins with a byte that is no white space
abbrev pub begins_black : List ℕ → Bool
begins_black [] = false
begins_black (b ∷ text) = not (is_white_space b)

-- whether a text begins with {*} and a byte that is no white space (rule 5)
abbrev pub expands : List ℕ → Bool
expands text = (begins 123 text && begins 42 (drop 1 text)) && (begins 125 (drop 2 text) && begins_black (drop 3 text))

-- a word (rules 3 to 6)
unfoldable pub word : Place → Level → List ℕ → Read PlainWord
word place level text =
    elim (expands text) [
      | true ↦
          after 3 (map_read (λ value. record { expand = true; parts = value }) (word_parts place level (drop 3 text)))
      | false ↦ map_read (λ value. record { expand = false; parts = value }) (word_parts place level text)
    ]

-- the words of a command, parted by gaps, up to the end of the last one (rules 1 and 3)
unfoldable pub words : Place → Level → ℕ → List ℕ → Read (List PlainWord)
words place level k [] = takes [] k
words place level (suc k) (b ∷ text) = after 1 (words place level k text)
words place level zero (b ∷ text) =
    elim (word place level (b ∷ text)) [
      | takes first n ↦
          let next = n + gap 0 (drop n (b ∷ text)) in
          elim (ends_command place (drop next (b ∷ text))) [
            | true ↦ takes (first ∷ []) n
            | false ↦ after 1 (map_read (λ others. first ∷ others) (words place level (pred next) text))
          ]
      | fails fault ↦ fails fault
    ]

-- ---- scripts in brackets ----

-- whole commands up to the `]`, and how many bytes they take (rules 1 and 7)
unfoldable pub commands : Level → ℕ → List ℕ → Read (Unit {0})
commands level k [] = fails CloseBracket
commands level (suc k) (b ∷ text) = after 1 (commands level k text)
commands level zero (b ∷ text) =
    let start = skipped 0 (b ∷ text) in
    elim (begins 93 (drop start (b ∷ text))) [
      | true ↦ takes tt start
      | false ↦ elim (nat_lt start (length (b ∷ text))) [
        | true ↦ elim (words places.Brackets level 0 (drop start (b ∷ text))) [
          | takes _ n ↦ after 1 (commands level (pred (start + n)) text)
          | fails fault ↦ fails fault
        ]
        | false ↦ fails CloseBracket
      ]
    ]

-- the readers with so many more levels to open
unfoldable pub level : ℕ → Level
level zero = record { index = λ text. fails TooDeep; brackets = λ text. fails TooDeep }
level (suc depth) = record {
  index = λ text. parts (level depth) endings.Parenthesis 0 text;
  brackets = λ text. and_then (commands (level depth) 0 text) (λ _ n. takes (take n text) n);
}

-- ---- the first command ----

-- how many brackets and indices of one command are open at once, at most
abbrev pub most_open : ℕ
most_open = 1000

-- the terminator after a command's last word, with the gap before it
abbrev pub terminator_length : List ℕ → ℕ
terminator_length text = min (gap 0 text + 1) (length text)

-- a command at this place, with the text from there on
unfoldable pub command_at : ℕ → List ℕ → PlainFirst
command_at start [] = nothing
command_at start (b ∷ text) =
    elim (words places.Script (level most_open) 0 (b ∷ text)) [
      | takes ws n ↦
          let end = start + n in
          let next = end + terminator_length (drop n (b ∷ text)) in
          command (record { words = ws; start = start; text_end = end; next = next })
      | fails fault ↦ bad fault start
    ]

-- what a text begins with (rules 1 and 10)
unfoldable pub first : List ℕ → PlainFirst
first text = command_at (skipped 0 text) (drop (skipped 0 text) text)

-- the same with its places in a text that has n bytes more at its front
abbrev pub first_after : ℕ → PlainFirst → PlainFirst
first_after n nothing = nothing
first_after n (bad fault start) = bad fault (n + start)
first_after n (command c) =
    command (record { words = c.words; start = n + c.start; text_end = n + c.text_end; next = n + c.next })
