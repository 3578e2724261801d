-- Parts of the code are pieces.
use Rattle.std.proofs.Common.{◌≡◌, ℕ, List, Bor, sym, ap, ap₂}
use Rattle.tt_format.specs.Fields.{Piece, Printed, Refused}
use Rattle.tt_format.specs.inside.Reading.{IsField, IsPart}
use Rattle.tt_format.specs.declared.fields.Part.TheVariants.{Prints, Refuses}
use Rattle.tt_format.specs.declared.layout.Field.{Field}

-- a piece that prints what the field does
pub record IsPrinting (field : Field) (rest : List ℕ) (later : List (List ℕ)) (p : Piece) : Type 0 where
  pub bytes : List ℕ
  pub piece_is : p ≡ Printed bytes rest later
  pub field_is : IsField field bytes

pub printing : (field : Field) (rest : Bor (List ℕ)) (later : Bor (List (List ℕ))) (p : Piece) → IsPart (Prints field rest later) p →
    IsPrinting field rest.now later.now p
printing field rest later (Printed bytes template values) h =
    record { bytes = bytes; piece_is = ap₂ (λ t v. Printed bytes t v) (sym h.1) (sym h.2); field_is = h.0 }
printing field rest later (Refused told) h = absurd h

pub refusing : (message : List ℕ) (p : Piece) → IsPart (Refuses message) p → p ≡ Refused message
refusing message (Printed bytes template values) h = absurd h
refusing message (Refused told) h = ap Refused (sym h)
