-- A number without white space and without a sign is what the grammar of numbers has between them.
use Rattle.std.proofs.Common.{◌≡◌, ℕ, true, false, not, List, [], ◌∷◌, ◌++◌, ℤ, pos, refl, sym, ap, subst, ◌∙◌, inl, inr, ◌⊎◌}
use Rattle.std.specs.List.{list_all}
use Rattle.std.proofs.lemmas.Bool.{and_parts, or_parts, both_ways}
use Rattle.std.proofs.lemmas.List.{append-nil}
use Rattle.std.proofs.lemmas.List.Folds.{list_all-append}
use Rattle.tt_text.specs.Characters.{is_white_space}
use Rattle.tt_script.specs.Reading.{begins}
use Rattle.tt_number.specs.Numerals.{IsUnsigned, IsFloat, IsSign, IsSigned, Spells, SpellsFloat, digit_sum}
use Rattle.tt_number.specs.Numerals.IsSign.{none, plus, minus}
use Rattle.tt_number.proofs.Reading.Trimming.{is_plain, not_white}
use Rattle.tt_number.proofs.Reading.Signs.{is_sign_byte}
use Rattle.tt_number.proofs.Reading.Numbers.{read_unsigned}
use Rattle.tt_number.proofs.Reading.Floats.{read_float}
use Rattle.tt_exprs.specs.TokenGrammar.{IsNumber}

-- an unsigned number, whole or a float
pub data IsNumeral : List ℕ → Type 0 where
  whole_numeral : {text digits : List ℕ} {base : ℕ} → IsUnsigned text base digits → IsNumeral text
  float_numeral : {text : List ℕ} → IsFloat text → IsNumeral text

-- ---- from the grammar of numerals

begins_not : (c : ℕ) (text rest : List ℕ) (first : ℕ) → text ≡ first ∷ rest → begins c (first ∷ rest) ≡ false → begins c text ≡ false
begins_not c text rest first e h = ap (begins c) e ∙ h

around_nothing : (text : List ℕ) → IsSigned text [] text
around_nothing text = record { before = []; after = []; spelled = sym (append-nil text); white_before = refl; white_after = refl }

number_of_parts : (text rest : List ℕ) (first : ℕ) → ((number : ℤ) × Spells text number) ⊎ SpellsFloat text → text ≡ first ∷ rest →
    is_sign_byte first ≡ false → is_plain text ≡ true → IsNumber text
number_of_parts text rest first reads e no_sign plain =
    let signs = or_parts _ _ no_sign in
    record { reads = reads; no_white_space = plain; no_plus = begins_not 43 text rest first e signs.0; no_minus = begins_not 45 text rest first e signs.1 }

pub numeral_number : {text : List ℕ} → IsNumeral text → IsNumber text
numeral_number (whole_numeral {text} {digits} {base} u) =
    let r = read_unsigned u in
    let spells : Spells text (pos (digit_sum base digits)) =
    record {
      sign =
          [];
      unsigned = text;
      digits = digits;
      base = base;
      signed = pos;
      form = around_nothing text;
      has_sign = none;
      has_digits = u;
      value = refl;
    } in
    number_of_parts text r.rest r.first (inl (pos (digit_sum base digits), spells)) r.begins r.no_sign r.plain
numeral_number (float_numeral {text} f) =
    let r = read_float f in
    let spells : SpellsFloat text = record { sign = []; unsigned = text; signed = pos; form = around_nothing text; has_sign = none; float = f } in
    number_of_parts text r.rest r.first (inr spells) r.begins r.no_sign r.plain

-- ---- into the grammar of numerals

-- white space that is none is no byte
no_bytes : (xs : List ℕ) → list_all is_white_space xs ≡ true → is_plain xs ≡ true → xs ≡ []
no_bytes [] h p = refl
no_bytes (x ∷ xs) h p =
    let white = and_parts (is_white_space x) (list_all is_white_space xs) h in
    let plain = and_parts (not_white x) (is_plain xs) p in
    absurd (both_ways (not (is_white_space x)) (ap not white.0) plain.0)

plain_front : (xs ys : List ℕ) → is_plain (xs ++ ys) ≡ true → (is_plain xs ≡ true) × (is_plain ys ≡ true)
plain_front xs ys h = and_parts (is_plain xs) (is_plain ys) (sym (list_all-append not_white xs ys) ∙ h)

no_sign_before : {sign : List ℕ} {signed : ℕ → ℤ} (text rest : List ℕ) → IsSign sign signed → text ≡ sign ++ rest → begins 43 text ≡ false →
    begins 45 text ≡ false → sign ≡ []
no_sign_before text rest none e p m = refl
no_sign_before text rest plus e p m = absurd (both_ways (begins 43 text) p (ap (begins 43) e))
no_sign_before text rest minus e p m = absurd (both_ways (begins 45 text) m (ap (begins 45) e))

unsigned_is : {sign : List ℕ} {signed : ℕ → ℤ} (text unsigned : List ℕ) → IsNumber text → IsSigned text sign unsigned → IsSign sign signed → text ≡ unsigned
unsigned_is {sign} text unsigned h form s =
    let whole = plain_front form.before (sign ++ (unsigned ++ form.after)) (subst (λ t. is_plain t ≡ true) form.spelled h.no_white_space) in
    let inner = plain_front sign (unsigned ++ form.after) whole.1 in
    let last = plain_front unsigned form.after inner.1 in
    let front : text ≡ sign ++ (unsigned ++ form.after) =
    form.spelled ∙ ap (λ t. t ++ (sign ++ (unsigned ++ form.after))) (no_bytes form.before form.white_before whole.0) in
    front
    ∙ ap (λ t. t ++ (unsigned ++ form.after)) (no_sign_before text (unsigned ++ form.after) s front h.no_plus h.no_minus)
    ∙ ap (λ t. unsigned ++ t) (no_bytes form.after form.white_after last.1)
    ∙ append-nil unsigned

pub number_numeral : {text : List ℕ} → IsNumber text → IsNumeral text
number_numeral {text} h = go h.reads
  where
    go : ((number : ℤ) × Spells text number) ⊎ SpellsFloat text → IsNumeral text
    go (inl (number, s)) = subst IsNumeral (sym (unsigned_is text s.unsigned h s.form s.has_sign)) (whole_numeral s.has_digits)
    go (inr s) = subst IsNumeral (sym (unsigned_is text s.unsigned h s.form s.has_sign)) (float_numeral s.float)
