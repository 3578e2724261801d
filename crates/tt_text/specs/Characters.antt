-- The bytes of a text by kind, and its characters. A text is a list of bytes in no encoding; it
-- is cut into characters as UTF-8 cuts them (Tcl(n), string(n)).
use Rattle.std.specs.Prelude.{◌≡◌, ℕ, ◌+◌, Bool, true, false, not, ◌&&◌, ◌||◌, ◌==◌, List, [], ◌∷◌, length, flat_map}
use Rattle.std.specs.Prelude.{count_by, IsTrue}
use Rattle.std.specs.List.{AllByRecursion}
use Rattle.std.specs.Int.{is_in_range}
use Rattle.std.specs.Char.{is_digit}

-- a byte that the words of a list or of a command may be parted by: 9 to 13 and 32 (Tcl(n))
abbrev pub is_white_space : ℕ → Bool
is_white_space b = is_in_range 9 13 b || b == 32

-- a text from its first byte on that is no white space (Tcl(n))
abbrev pub without_white_front : List ℕ → List ℕ
without_white_front [] = []
without_white_front (b ∷ text) = elim (is_white_space b) [ true ↦ without_white_front text | false ↦ b ∷ text ]

-- the end of a line (Tcl(n), rule 1)
abbrev pub is_newline : ℕ → Bool
is_newline b = b == 10

-- white space that ends no command (Tcl(n), rule 3)
abbrev pub is_blank : ℕ → Bool
is_blank b = is_white_space b && not (is_newline b)

-- a byte that goes on a character which began before it (string(n))
abbrev pub continues_character : ℕ → Bool
continues_character b = is_in_range 0x80 0xBF b

-- a byte that begins a character wherever it stands (string(n))
abbrev pub begins_character : ℕ → Bool
begins_character b = not (continues_character b)

-- an octal digit, `0` to `7` (Tcl(n), rule 9)
abbrev pub is_octal_digit : ℕ → Bool
is_octal_digit b = is_digit b 8

-- a character: the list of its bytes
abbrev pub Character : Type 0
Character = List ℕ

-- a first byte before characters: it takes those bytes in that can't begin one
abbrev pub begin_with : ℕ → List Character → List Character
begin_with b [] = (b ∷ []) ∷ []
begin_with b ([] ∷ characters) = (b ∷ []) ∷ characters
begin_with b ((next ∷ more) ∷ characters) =
    elim (continues_character next) [
      | true ↦ (b ∷ next ∷ more) ∷ characters
      | false ↦ (b ∷ []) ∷ (next ∷ more) ∷ characters
    ]

-- the characters of a text: one begins at the first byte, and at each that goes on no other
abbrev pub characters : List ℕ → List Character
characters [] = []
characters (b ∷ text) = begin_with b (characters text)

-- one character: a first byte, and bytes that go on it
abbrev pub IsCharacter : Character → Type 0
IsCharacter [] = ⊥
IsCharacter (b ∷ more) = AllByRecursion (λ c. IsTrue (continues_character c)) more

-- a character that begins where it stands, whatever is before it
abbrev pub BeginsAnywhere : Character → Type 0
BeginsAnywhere [] = ⊥
BeginsAnywhere (b ∷ more) = IsTrue (begins_character b)

-- the characters after the first one
abbrev pub later_characters : List Character → List Character
later_characters [] = []
later_characters (first ∷ later) = later

-- a text cut into characters: joined they are the text, and no two of them could be one
pub record IsCutInto (text : List ℕ) (cut : List Character) : Type 0 where
  pub joined : flat_map (λ c. c) cut ≡ text
  pub each : AllByRecursion IsCharacter cut
  pub apart : AllByRecursion BeginsAnywhere (later_characters cut)

-- `characters` cuts each text so, and their number is one for the first byte and one for each that begins a character
pub record CharacterLaws : Type 0 where
  pub cut : (text : List ℕ) → IsCutInto text (characters text)
  pub count : (b : ℕ) (text : List ℕ) → length (characters (b ∷ text)) ≡ 1 + count_by begins_character text
