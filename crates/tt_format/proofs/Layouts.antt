-- Fields at a width that is cut at 64 bits.
use Rattle.std.proofs.Common.{◌≡◌, ℕ, ◌+◌, ◌<◌, ◌≤◌, true, false, List, [], ◌++◌, length, take, replicate, sym, ap}
use Rattle.std.proofs.Common.{subst, ◌∙◌, arith, length-append, append-nil}
use Rattle.std.proofs.lemmas.List.{length-replicate}
use Rattle.tt_strings.proofs.Ranges.{no_more_characters}
use Rattle.tt_format.specs.Fields.{is_letter, letters}
use Rattle.tt_format.specs.Formatting.{longest}
use Rattle.tt_format.specs.Printing.{layout, missing}
use Rattle.tt_format.specs.inside.Reading.{IsField, IsPrinted, at_most_greatest}
use Rattle.tt_format.specs.declared.layout.Field.{Field}
use Rattle.tt_format.specs.declared.layout.Fill.{Fill}
use Rattle.tt_format.specs.declared.layout.Fill.TheVariants.{SpacesAfter, Zeros, SpacesBefore}
use Rattle.tt_format.proofs.DigitRuns.{taken}

-- how long a field is
pub layout_length : (fill : Fill) (width : ℕ) (sign body : List ℕ) → length (layout fill width sign body) ≡ length sign + length body + missing width sign body
layout_length SpacesAfter width sign body =
    omega (
      arith,
      length-append (sign ++ body) (replicate (missing width sign body) 32),
      length-append sign body,
      length-replicate {A = ℕ}
          (missing width sign body) 32,
    )
layout_length Zeros width sign body =
    omega (
      arith,
      length-append (sign ++ replicate (missing width sign body) 48) body,
      length-append sign
          (replicate (missing width sign body) 48),
      length-replicate {A = ℕ} (missing width sign body) 48,
    )
layout_length SpacesBefore width sign body =
    omega (
      arith,
      length-append (replicate (missing width sign body) 32 ++ sign) body,
      length-append
          (replicate (missing width sign body) 32) sign,
      length-replicate {A = ℕ} (missing width sign body) 32,
    )

-- a width that fits was not cut
width_kept : (fill : Fill) (width : ℕ) (before sign body : List ℕ) → length (before ++ layout fill (at_most_greatest width) sign body) ≤ longest → at_most_greatest width ≡ width
width_kept fill width before sign body short =
    omega (arith, short, length-append before (layout fill (at_most_greatest width) sign body), layout_length fill (at_most_greatest width) sign body, no_more_characters body)

-- a field that was printed is the field
pub field_printed : (field : Field) (bytes before after : List ℕ) → IsField field bytes →
    IsPrinted true before after (layout field.fill field.width field.sign.now field.body)
    → (after ≡ before ++ bytes) × (length (before ++ bytes) ≤ longest)
field_printed field bytes before after f h =
    let cut : layout field.fill field.width field.sign.now field.body ≡ layout field.fill (at_most_greatest f.width) field.sign.now field.body =
    ap (λ w. layout field.fill w field.sign.now field.body) f.width_is in
    let P : List ℕ → Type 0 = λ l. length l ≤ longest in
    let short : length (before ++ layout field.fill (at_most_greatest f.width) field.sign.now field.body) ≤ longest = subst P (h.0 ∙ ap (λ l. before ++ l) cut) h.1 in
    let same : layout field.fill field.width field.sign.now field.body ≡ bytes =
    cut ∙ ap (λ w. layout field.fill w field.sign.now field.body) (width_kept field.fill f.width before field.sign.now field.body short) ∙ sym f.prints in
    (h.0 ∙ ap (λ l. before ++ l) same, subst P (h.0 ∙ ap (λ l. before ++ l) same) h.1)

-- a field that is too long was too long at its own width
pub field_too_long : (field : Field) (bytes before after : List ℕ) → IsField field bytes →
    IsPrinted false before after (layout field.fill field.width field.sign.now field.body)
    → longest < length (before ++ bytes)
field_too_long field bytes before after f h =
    let long : length bytes ≡ length field.sign.now + length field.body + missing f.width field.sign.now field.body =
    ap length f.prints ∙ layout_length field.fill f.width field.sign.now field.body in
    omega (
      arith,
      h.1,
      f.width_is,
      long,
      length-append before bytes,
      length-append before (layout field.fill field.width field.sign.now field.body),
      layout_length field.fill field.width field.sign.now field.body,
    )

-- letters are a field without a width
pub letters_field : (template front body : List ℕ) (n : ℕ) → n ≡ length (letters template) → front ≡ take n template → body ≡ front →
    letters template ≡ layout SpacesAfter 0 [] body
letters_field template front body n e f g =
    let none : missing 0 [] body ≡ 0 = omega arith in
    let same : body ≡ letters template = g ∙ f ∙ ap (λ k. take k template) e ∙ taken is_letter template in
    sym same ∙ sym (append-nil body) ∙ ap (λ k. body ++ replicate k 32) (sym none)
