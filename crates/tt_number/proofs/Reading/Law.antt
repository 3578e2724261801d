-- The function reads what the grammar says, and nothing else.
use Rattle.std.proofs.Common.{◌≡◌, ℕ, true, false, ℤ, List, [], ◌∷◌, ◌++◌, Option, Some, None, Result, Ok, Err, refl}
use Rattle.std.proofs.Common.{sym, ap, subst, ◌∙◌, inl, inr, append_assoc}
use Rattle.std.specs.Prelude.{FitsSigned}
use Rattle.std.specs.Int.{w64}
use Rattle.std.proofs.lemmas.Bool.{cases_Bool, both_ways, false_from_ne_true}
use Rattle.tt_number.specs.Operators.{fits}
use Rattle.tt_number.specs.Numerals.{IsSigned, IsSign, Spells, SpellsFloat, IsReading, ReadingLaw, trimmed}
use Rattle.tt_number.specs.Numerals.{unsigned_part, is_minus_first, number_of, base_and_digits, is_float, signed_number, signed_reading}
use Rattle.tt_number.specs.Numerals.{reading_of, whole_of, digit_sum}
use Rattle.tt_number.specs.declared.numeral.NumberFault.{NumberFault}
use Rattle.tt_number.specs.declared.numeral.NumberFault.TheVariants.{NotWhole, TooLarge, Float}
use Rattle.tt_number.proofs.Reading.Trimming.{is_plain, around_trimmed, trimmed_plain, plain_append}
use Rattle.tt_number.proofs.Reading.Signs.{bounded, fits_from, FitsSigned-fits, is_sign_byte, after_sign, signed_cut, sign_of, sign_plain}
use Rattle.tt_number.proofs.Reading.Numbers.{read_unsigned, find_unsigned}
use Rattle.tt_number.proofs.Reading.Floats.{read_float, find_float}

-- ---- what the grammar spells is read so

-- what is left of a text around a sign and bytes that begin with none
trims_to : {sign : List ℕ} {signed : ℕ → ℤ} (text unsigned : List ℕ) (first : ℕ) (rest : List ℕ) → IsSigned text sign unsigned → IsSign sign signed →
    unsigned ≡ first ∷ rest → is_plain unsigned ≡ true → trimmed text ≡ sign ++ unsigned
trims_to {sign} text unsigned first rest form s begins plain =
    ap trimmed (form.spelled ∙ ap (λ t. form.before ++ t) (sym (append_assoc sign unsigned form.after)))
    ∙ go sign (plain_append sign unsigned (sign_plain s) plain)
  where
    nonempty_sign : (t : List ℕ) → is_plain t ≡ true → t ≡ first ∷ rest → trimmed (form.before ++ (t ++ form.after)) ≡ t
    nonempty_sign t p e = rw e (trimmed_plain form.before first rest form.after form.white_before (rw e at p) form.white_after)

    go : (sign : List ℕ) → is_plain (sign ++ unsigned) ≡ true → trimmed (form.before ++ ((sign ++ unsigned) ++ form.after)) ≡ sign ++ unsigned
    go [] p = nonempty_sign unsigned p begins
    go (b ∷ sign) p = trimmed_plain form.before b (sign ++ unsigned) form.after form.white_before p form.white_after

read_signed : {sign : List ℕ} {signed : ℕ → ℤ} (unsigned : List ℕ) (first : ℕ) (rest : List ℕ) → IsSign sign signed → unsigned ≡ first ∷ rest →
    is_sign_byte first ≡ false → reading_of (sign ++ unsigned) ≡ signed_reading (is_minus_first (sign ++ unsigned)) unsigned (number_of (base_and_digits unsigned))
read_signed {sign} unsigned first rest s e h =
    let part : unsigned_part (sign ++ unsigned) ≡ unsigned = rw e (after_sign s first rest h) in
    ap (λ t. signed_reading (is_minus_first (sign ++ unsigned)) t (number_of (base_and_digits t))) part

reads_number : (text : List ℕ) (z : ℤ) → Spells text z → whole_of text ≡ bounded z
unfolding whole_of
reads_number text z h =
    let r = read_unsigned h.has_digits in
    let number : number_of (base_and_digits h.unsigned) ≡ Some (digit_sum h.base h.digits) = ap number_of r.parts ∙ rw r.numeral refl in
    ap reading_of (trims_to text h.unsigned r.first r.rest h.form h.has_sign r.begins r.plain)
    ∙ read_signed h.unsigned r.first r.rest h.has_sign r.begins r.no_sign
    ∙ ap (signed_reading (is_minus_first (h.sign ++ h.unsigned)) h.unsigned) number
    ∙ ap (λ t. signed_number (is_minus_first (h.sign ++ t)) (digit_sum h.base h.digits)) r.begins
    ∙ signed_cut h.has_sign r.first r.rest (digit_sum h.base h.digits) r.no_sign
    ∙ ap bounded (sym h.value)

reads_float : (text : List ℕ) → SpellsFloat text → whole_of text ≡ Err Float
unfolding whole_of
reads_float text h =
    let r = read_float h.float in
    ap reading_of (trims_to text h.unsigned r.first r.rest h.form h.has_sign r.begins r.plain)
    ∙ read_signed h.unsigned r.first r.rest h.has_sign r.begins r.no_sign
    ∙ ap (signed_reading (is_minus_first (h.sign ++ h.unsigned)) h.unsigned) r.none
    ∙ rw r.is refl

-- ---- what is read is spelled so

-- the form of a text, by what it is trimmed to
form_of : (text sign : List ℕ) → trimmed text ≡ sign ++ unsigned_part (trimmed text) → IsSigned text sign (unsigned_part (trimmed text))
form_of text sign e =
    let a = around_trimmed text in
    record {
      before =
          a.before;
      after =
          a.after;
      spelled =
          a.spelled ∙ ap (λ t. a.before ++ t) (ap (λ t. t ++ a.after) e ∙ append_assoc sign (unsigned_part (trimmed text)) a.after);
      white_before =
          a.white_before;
      white_after = a.white_after;
    }

spells : (text : List ℕ) (n : ℕ) → number_of (base_and_digits (unsigned_part (trimmed text))) ≡ Some n → (z : ℤ) × Spells text z
    × (signed_number (is_minus_first (trimmed text)) n ≡ bounded z)
spells text n h =
    let s = sign_of (trimmed text) in
    let f = find_unsigned (unsigned_part (trimmed text)) n h in (
      s.signed n,
      record {
        sign =
            s.sign;
        unsigned =
            unsigned_part (trimmed text);
        digits =
            f.digits;
        base =
            f.base;
        signed = s.signed;
        form = form_of text s.sign s.spelled;
        has_sign = s.has;
        has_digits = f.unsigned;
        value = ap s.signed f.value;
      },
      s.cuts n,
    )

spells_float : (text : List ℕ) → is_float (unsigned_part (trimmed text)) ≡ true → SpellsFloat text
spells_float text h =
    let s = sign_of (trimmed text) in
    record {
      sign =
          s.sign;
      unsigned =
          unsigned_part (trimmed text);
      signed =
          s.signed;
      form = form_of text s.sign s.spelled;
      has_sign = s.has;
      float = find_float (unsigned_part (trimmed text)) h;
    }

-- ---- the law

bounded_cases : (z : ℤ) (P : Result ℤ NumberFault → Type 0) → (FitsSigned w64 z → P (Ok z)) → ((¬ FitsSigned w64 z) → P (Err TooLarge)) → P (bounded z)
bounded_cases z P inside past =
    elim (cases_Bool (fits z)) [
      | inl p ↦ rw p (inside (FitsSigned-fits z p))
      | inr p ↦ rw p (past (λ f. both_ways (fits z) p (fits_from z f)))
    ]

no_reading : (text : List ℕ) → whole_of text ≡ Err NotWhole → IsReading text (Err NotWhole)
no_reading text e =
    (λ z s. bounded_cases z (λ r. r ≡ Err NotWhole → ⊥) (λ f q. cc q) (λ f q. cc q) (sym (reads_number text z s) ∙ e), λ s. cc (sym (reads_float text s) ∙ e))

sound : (text : List ℕ) → IsReading text (whole_of text)
unfolding whole_of
sound text = go (number_of (base_and_digits (unsigned_part (trimmed text)))) refl
  where
    go : (o : Option ℕ) → number_of (base_and_digits (unsigned_part (trimmed text))) ≡ o → IsReading text (whole_of text)
    go (Some n) e =
        let s = spells text n e in
        subst (IsReading text) (sym (ap (λ o. signed_reading (is_minus_first (trimmed text)) (unsigned_part (trimmed text)) o) e ∙ s.2))
        (bounded_cases s.0 (IsReading text) (λ f. (s.1, f)) (λ f. (s.0, s.1, f)))
    go None e =
        let none = ap (λ o. signed_reading (is_minus_first (trimmed text)) (unsigned_part (trimmed text)) o) e in
        elim (cases_Bool (is_float (unsigned_part (trimmed text)))) [
          | inl p ↦ (let float : whole_of text ≡ Err Float = none ∙ rw p refl in subst (IsReading text) (sym float) (spells_float text p))
          | inr p ↦ (let other : whole_of text ≡ Err NotWhole = none ∙ rw p refl in subst (IsReading text) (sym other) (no_reading text other))
        ]

only_reading : (text : List ℕ) → IsReading text (Err NotWhole) → (reading : Result ℤ NumberFault) → IsReading text reading → reading ≡ Err NotWhole
only_reading text h (Ok z) r = absurd (h.0 z r.0)
only_reading text h (Err TooLarge) r = absurd (h.0 r.0 r.1)
only_reading text h (Err Float) r = absurd (h.1 r)
only_reading text h (Err NotWhole) r = refl

complete : (text : List ℕ) (reading : Result ℤ NumberFault) → IsReading text reading → whole_of text ≡ reading
complete text (Ok z) h = reads_number text z h.0 ∙ rw (fits_from z h.1) refl
complete text (Err TooLarge) h = reads_number text h.0 h.1 ∙ rw (false_from_ne_true (fits h.0) (λ e. h.2 (FitsSigned-fits h.0 e))) refl
complete text (Err Float) h = reads_float text h
complete text (Err NotWhole) h = only_reading text h (whole_of text) (sound text)

pub reading_law : ReadingLaw
reading_law text reading = (λ e. subst (IsReading text) e (sound text), complete text reading)
