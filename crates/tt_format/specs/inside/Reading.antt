-- What the code keeps of a specifier and of a piece.
use Rattle.std.specs.Prelude.{◌≡◌, ℕ, ◌-◌, ◌^◌, ◌<◌, ◌≤◌, Bool, true, false, min, ℤ, List, ◌++◌, length}
use Rattle.std.specs.Option.{option_map}
use Rattle.tt_format.specs.Fields.{Piece, Printed, Refused, with_number}
use Rattle.tt_format.specs.Formatting.{longest}
use Rattle.tt_format.specs.Printing.{layout}
use Rattle.tt_format.specs.Specifiers as spec
use Rattle.tt_format.specs.declared.layout.Field.{Field}
use Rattle.tt_format.specs.declared.fields.Asked.{Asked}
use Rattle.tt_format.specs.declared.fields.Given.{Given}
use Rattle.tt_format.specs.declared.fields.Given.TheVariants.{Number, Fails}
use Rattle.tt_format.specs.declared.fields.Part.{Part}
use Rattle.tt_format.specs.declared.fields.Part.TheVariants.{Prints, Refuses}
use Rattle.tt_format.specs.declared.specifier.Specifier.{Specifier}

-- a number, or the greatest of 64 bits if it is past that
abbrev pub at_most_greatest : ℕ → ℕ
at_most_greatest n = min n (2 ^ 64 - 1)

-- what was read is this specifier
pub record IsRead (read : Specifier) (s : spec.Specifier) : Type 0 where
  pub flags : read.flags.now ≡ s.flags
  pub width : read.width ≡ option_map at_most_greatest s.width
  pub most : read.most ≡ option_map at_most_greatest s.most
  pub rest : read.rest.now ≡ s.rest

-- what is asked for is a specifier's field of this width
pub record IsAsked (asked : Asked) (s : spec.Specifier) (width : ℕ) : Type 0 where
  pub flags : asked.flags.now ≡ s.flags
  pub most : asked.most ≡ option_map at_most_greatest s.most
  pub width_is : asked.width ≡ at_most_greatest width

-- the bytes that a field prints
pub record IsField (field : Field) (bytes : List ℕ) : Type 0 where
  pub width : ℕ
  pub width_is : field.width ≡ at_most_greatest width
  pub prints : bytes ≡ layout field.fill width field.sign.now field.body

-- a part of the code is this piece
abbrev pub IsPart : Part → Piece → Type 0
IsPart (Prints field rest later) (Printed bytes template values) =
    IsField field bytes × (rest.now ≡ template) × (later.now ≡ values)
IsPart (Refuses message) (Refused refusal) = message ≡ refusal
IsPart (Prints field rest later) (Refused refusal) = ⊥
IsPart (Refuses message) (Printed bytes template values) = ⊥

-- the template `rest` is left
abbrev pub LeavesTemplate : Part → List ℕ → Type 0
LeavesTemplate (Prints field rest later) template = rest.now ≡ template
LeavesTemplate (Refuses message) template = Unit {0}

-- no more than this template is left
abbrev pub IsNoLonger : Part → List ℕ → Type 0
IsNoLonger (Prints field rest later) template = length rest.now ≤ length template
IsNoLonger (Refuses message) template = Unit {0}

-- less than this template is left
abbrev pub IsShorter : Part → List ℕ → Type 0
IsShorter (Prints field rest later) template = length rest.now < length template
IsShorter (Refuses message) template = Unit {0}

-- the number that the next value gives, and the values after it, or why it gives none
abbrev pub IsGiven : Given → List (List ℕ) → Type 0
IsGiven (Number number later) values = (go : ℤ → List (List ℕ) → Piece) → with_number values go ≡ go number later.now
IsGiven (Fails message) values = (go : ℤ → List (List ℕ) → Piece) → with_number values go ≡ Refused message

-- whether a field's bytes fit after those before, and what is printed then
abbrev pub IsPrinted : Bool → List ℕ → List ℕ → List ℕ → Type 0
IsPrinted true before after bytes = (after ≡ before ++ bytes) × (length after ≤ longest)
IsPrinted false before after bytes = (after ≡ before) × (longest < length (before ++ bytes))
