-- Steps of printing a template.
use Rattle.std.proofs.Common.{◌≡◌, ℕ, ◌<◌, ◌≤◌, Bool, true, false, List, length, Bor, sym, subst, arith}
use Rattle.std.proofs.lemmas.List.{nil_from_length}
use Rattle.std.specs.Prelude.{codes}
use Rattle.tt_format.specs.Fields.{piece}
use Rattle.tt_format.specs.Formatting.{IsFormatted, longest, ended, printed, too_long, refused}
use Rattle.tt_format.specs.Printing.{layout}
use Rattle.tt_format.specs.inside.Reading.{IsPart, IsPrinted}
use Rattle.tt_format.specs.declared.Formatted.{Formatted}
use Rattle.tt_format.specs.declared.Formatted.TheVariants.{Made, Bad}
use Rattle.tt_format.specs.declared.fields.Part.TheVariants.{Prints, Refuses}
use Rattle.tt_format.specs.declared.layout.Field.{Field}
use Rattle.tt_format.proofs.Layouts.{field_printed, field_too_long}
use Rattle.tt_format.proofs.Parts.{printing, refusing}

-- how a call of `print` ended
abbrev pub HasPrinted : Bool → Field → List ℕ → List ℕ → Type 0
HasPrinted fits field before after = IsPrinted fits before after (layout field.fill field.width field.sign.now field.body)

pub printed_on : (before left after : List ℕ) (later : List (List ℕ)) (field : Field) (rest : Bor (List ℕ)) (values : Bor (List (List ℕ)))
    (fits : Bool) → 0 < length left
    → IsPart (Prints field rest values) (piece left later) → fits ≡ true → HasPrinted fits field before after → (answer : Formatted)
    → IsFormatted after rest.now values.now answer → IsFormatted before left later answer
printed_on before left after later field rest values fits some part e h answer more =
    let p = printing field rest values (piece left later) part in
    let P : Bool → Type 0 = λ b. HasPrinted b field before after in
    let done = field_printed field p.bytes before after p.field_is (subst P e h) in
    let Q : List ℕ → Type 0 = λ all. IsFormatted all rest.now values.now answer in
    printed some p.piece_is done.1 (subst Q done.0 more)

pub printed_short : (before after : List ℕ) (field : Field) (fits : Bool) → fits ≡ true → HasPrinted fits field before after → length after ≤ longest
printed_short before after field fits e h = let P : Bool → Type 0 = λ b. HasPrinted b field before after in (subst P e h).1

pub too_long_on : (before left after message : List ℕ) (later : List (List ℕ)) (field : Field) (rest : Bor (List ℕ)) (values : Bor (List (List ℕ)))
    (fits : Bool) → 0 < length left
    → IsPart (Prints field rest values) (piece left later) → fits ≡ false → HasPrinted fits field before after → message ≡ codes "result too long"
    → IsFormatted before left later (Bad message)
too_long_on before left after message later field rest values fits some part e h told =
    let p = printing field rest values (piece left later) part in
    let P : Bool → Type 0 = λ b. HasPrinted b field before after in
    let Q : List ℕ → Type 0 = λ m. IsFormatted before left later (Bad m) in
    subst Q (sym told) (too_long some p.piece_is (field_too_long field p.bytes before after p.field_is (subst P e h)))

pub refused_on : (before left message : List ℕ) (later : List (List ℕ)) → 0 < length left → IsPart (Refuses message) (piece left later) →
    IsFormatted before left later (Bad message)
refused_on before left message later some part = refused some (refusing message (piece left later) part)

pub ended_on : (before left text : List ℕ) (later : List (List ℕ)) → length left < 1 → text ≡ before → IsFormatted before left later (Made text)
ended_on before left text later none e =
    let Q : List ℕ → Type 0 = λ t. IsFormatted before left later (Made t) in
    subst Q (sym e) (ended (nil_from_length left (omega arith)))
