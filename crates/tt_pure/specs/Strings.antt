-- What the subcommands of string(n) answer to words; `wrong` is the answer to a wrong number of them.
-- Characters are those of `tt_text`; indices are read as those of lists.
use Rattle.std.specs.Prelude.{◌≡◌, ◌↔◌, ℕ, ◌%◌, Bool, true, false, ◌==◌, IsTrue, ℤ, bytes_eq, List, [], ◌∷◌, length}
use Rattle.std.specs.Prelude.{codes, decimal, map, reverse, Option, Some, None, Result, Ok, Err}
use Rattle.std.specs.Fmt.{signed_decimal}
use Rattle.std.specs.Char.{to_ascii_lowercase, to_ascii_uppercase}
use Rattle.tt_text.specs.Characters.{characters}
use Rattle.tt_text.specs.Glob.{Matches}
use Rattle.tt_lists.specs.Commands.{for_place}
use Rattle.tt_lists.specs.Messages.{list_message}
use Rattle.tt_lists.specs.Reading.{split_of}
use Rattle.tt_lists.specs.declared.answer.ListAnswer.{ListAnswer}
use Rattle.tt_lists.specs.declared.answer.ListAnswer.TheVariants.{Made, Bad}
use Rattle.tt_lists.specs.declared.items.Split.{Split}
use Rattle.tt_lists.specs.declared.items.Split.TheVariants as split
use Rattle.tt_number.specs.Messages.{number_message}
use Rattle.tt_number.specs.Numerals.{whole_of}
use Rattle.tt_number.specs.declared.numeral.NumberFault.{NumberFault}
use Rattle.tt_strings.specs.Finding.{IsFirstPlace, IsLastPlace}
use Rattle.tt_strings.specs.Making.{IsRepeated, comparison}
use Rattle.tt_strings.specs.Mapping.{IsMapped}
use Rattle.tt_strings.specs.Places.{character_at, bytes_of, range}
use Rattle.tt_strings.specs.Trimming.{trim}
use Rattle.tt_strings.specs.declared.making.Repetition.{Repetition}
use Rattle.tt_strings.specs.declared.making.Repetition.TheVariants as repetition
use Rattle.tt_strings.specs.declared.trimming.Side.{Side}
use Rattle.tt_strings.specs.declared.trimming.TheConstants.{WHITE_SPACE}

-- string length
abbrev pub length_answer : (wrong : ListAnswer) → (words : List (List ℕ)) → ListAnswer
length_answer wrong (text ∷ []) = Made (decimal (length (characters text)))
length_answer wrong words = wrong

-- the character at an index
abbrev pub character_answer : (text index : List ℕ) → ListAnswer
character_answer text index =
    for_place index (length (characters text)) (λ place. Made (character_at place (characters text)))

-- string index
abbrev pub index_answer : (wrong : ListAnswer) → (words : List (List ℕ)) → ListAnswer
index_answer wrong (text ∷ index ∷ []) = character_answer text index
index_answer wrong words = wrong

-- the characters from one index to another
abbrev pub part_answer : (text first last : List ℕ) → ListAnswer
part_answer text first last =
    for_place first (length (characters text)) (λ from.
    for_place last (length (characters text)) (λ to. Made (bytes_of (range from to (characters text)))))

-- string range
abbrev pub range_answer : (wrong : ListAnswer) → (words : List (List ℕ)) → ListAnswer
range_answer wrong (text ∷ first ∷ last ∷ []) = part_answer text first last
range_answer wrong words = wrong

-- string reverse
abbrev pub reverse_answer : (wrong : ListAnswer) → (words : List (List ℕ)) → ListAnswer
reverse_answer wrong (text ∷ []) = Made (bytes_of (reverse (characters text)))
reverse_answer wrong words = wrong

-- string compare
abbrev pub compare_answer : (wrong : ListAnswer) → (words : List (List ℕ)) → ListAnswer
compare_answer wrong (text ∷ other ∷ []) = Made (signed_decimal (comparison text other))
compare_answer wrong words = wrong

-- 1 for what is so, and 0
abbrev pub truth : Bool → List ℕ
truth true = codes "1"
truth false = codes "0"

-- string equal
abbrev pub equal_answer : (wrong : ListAnswer) → (words : List (List ℕ)) → ListAnswer
equal_answer wrong (text ∷ other ∷ []) = Made (truth (bytes_eq text other))
equal_answer wrong words = wrong

-- string match
abbrev pub IsMatchAnswer : (wrong : ListAnswer) → (words : List (List ℕ)) → ListAnswer → Type 0
IsMatchAnswer wrong (pattern ∷ text ∷ []) answer =
    (matches : Bool)
    × (IsTrue matches ↔ Matches (characters pattern) (characters text))
    × (answer ≡ Made (truth matches))
IsMatchAnswer wrong words answer = answer ≡ wrong

-- a place, and -1 if there is none
abbrev pub place_text : Option ℕ → List ℕ
place_text None = codes "-1"
place_text (Some place) = decimal place

-- string first
abbrev pub IsFirstAnswer : (wrong : ListAnswer) → (words : List (List ℕ)) → ListAnswer → Type 0
IsFirstAnswer wrong (needle ∷ text ∷ []) answer =
    (place : Option ℕ) × IsFirstPlace (characters needle) (characters text) place × (answer ≡ Made (place_text place))
IsFirstAnswer wrong words answer = answer ≡ wrong

-- string last
abbrev pub IsLastAnswer : (wrong : ListAnswer) → (words : List (List ℕ)) → ListAnswer → Type 0
IsLastAnswer wrong (needle ∷ text ∷ []) answer =
    (place : Option ℕ) × IsLastPlace (characters needle) (characters text) place × (answer ≡ Made (place_text place))
IsLastAnswer wrong words answer = answer ≡ wrong

-- what repeating came to
abbrev pub repetition_answer : Repetition → ListAnswer
repetition_answer (repetition.Made text) = Made text
repetition_answer repetition.TooLong = Bad (codes "result too long")

-- a text so many times
abbrev pub IsTimes : (text : List ℕ) → ℤ → ListAnswer → Type 0
IsTimes text number answer = (came : Repetition) × IsRepeated came text number × (answer ≡ repetition_answer came)

-- a text, as many times as a count says
abbrev pub IsRepeatedBy : Result ℤ NumberFault → (text count : List ℕ) → ListAnswer → Type 0
IsRepeatedBy (Ok number) text count answer = IsTimes text number answer
IsRepeatedBy (Err fault) text count answer = answer ≡ Bad (number_message fault count)

-- string repeat
abbrev pub IsRepeatAnswer : (wrong : ListAnswer) → (words : List (List ℕ)) → ListAnswer → Type 0
IsRepeatAnswer wrong (text ∷ count ∷ []) answer = IsRepeatedBy (whole_of count) text count answer
IsRepeatAnswer wrong words answer = answer ≡ wrong

-- items are as many as pairs have
abbrev pub is_paired : List (List ℕ) → Bool
is_paired items = length items % 2 == 0

-- a text mapped by pairs, if items are pairs
abbrev pub IsMappedIf : Bool → (pairs : List (List ℕ)) → (text : List ℕ) → ListAnswer → Type 0
IsMappedIf true pairs text answer =
    (made : List ℕ) × IsMapped pairs (characters text) made × (answer ≡ Made made)
IsMappedIf false pairs text answer = answer ≡ Bad (codes "list must have an even number of elements")

-- a text mapped by what a list was split into
abbrev pub IsMappedBy : Split → (text : List ℕ) → ListAnswer → Type 0
IsMappedBy (split.Items pairs) text answer = IsMappedIf (is_paired pairs) pairs text answer
IsMappedBy (split.Bad fault) text answer = answer ≡ Bad (list_message fault)

-- string map
abbrev pub IsMapAnswer : (wrong : ListAnswer) → (words : List (List ℕ)) → ListAnswer → Type 0
IsMapAnswer wrong (list ∷ text ∷ []) answer = IsMappedBy (split_of list) text answer
IsMapAnswer wrong words answer = answer ≡ wrong

-- string tolower
abbrev pub lower_answer : (wrong : ListAnswer) → (words : List (List ℕ)) → ListAnswer
lower_answer wrong (text ∷ []) = Made (map to_ascii_lowercase text)
lower_answer wrong words = wrong

-- string toupper
abbrev pub upper_answer : (wrong : ListAnswer) → (words : List (List ℕ)) → ListAnswer
upper_answer wrong (text ∷ []) = Made (map to_ascii_uppercase text)
upper_answer wrong words = wrong

-- a text trimmed of characters
abbrev pub trim_text : Side → (text trimmed : List ℕ) → ListAnswer
trim_text side text trimmed = Made (bytes_of (trim side (characters trimmed) (characters text)))

-- string trim, trimleft and trimright: without characters, of white space
abbrev pub trim_answer : Side → (wrong : ListAnswer) → (words : List (List ℕ)) → ListAnswer
trim_answer side wrong (text ∷ []) = trim_text side text WHITE_SPACE.now
trim_answer side wrong (text ∷ trimmed ∷ []) = trim_text side text trimmed
trim_answer side wrong words = wrong
