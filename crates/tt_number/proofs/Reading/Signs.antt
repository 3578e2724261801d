-- A sign before a text that begins with none, and numbers cut at 64 bits.
use Rattle.std.proofs.Common.{◌≡◌, ℕ, ◌^◌, Bool, true, false, cond, ℤ, pos, negsuc, neg_ℤ, List, [], ◌∷◌, ◌++◌, Result, Ok, Err, refl, inl, inr, ◌==◌, ◌||◌}
use Rattle.std.proofs.lemmas.Bool.{cases_Bool, eqb-true, or_parts, ltb-true, lt-ltb}
use Rattle.std.specs.Int.{w64}
use Rattle.std.specs.Int.RustNames.{FitsSigned}
use Rattle.tt_number.specs.Operators.{fits}
use Rattle.tt_number.proofs.Reading.Trimming.{is_plain}
use Rattle.tt_number.specs.Numerals.{IsSign, is_minus_first, unsigned_part, signed_number}
use Rattle.tt_number.specs.Numerals.IsSign.{none, plus, minus}
use Rattle.tt_number.specs.declared.numeral.NumberFault.{NumberFault}
use Rattle.tt_number.specs.declared.numeral.NumberFault.TheVariants.{TooLarge}

pub fits_from : (z : ℤ) → FitsSigned w64 z → fits z ≡ true
fits_from (pos n) h = lt-ltb n (2 ^ 63) h.sfits
fits_from (negsuc n) h = lt-ltb n (2 ^ 63) h.sfits

pub FitsSigned-fits : (z : ℤ) → fits z ≡ true → FitsSigned w64 z
FitsSigned-fits (pos n) h = record { sfits = ltb-true n (2 ^ 63) h }
FitsSigned-fits (negsuc n) h = record { sfits = ltb-true n (2 ^ 63) h }

-- a number cut at 64 bits
abbrev pub bounded : ℤ → Result ℤ NumberFault
bounded z = cond (fits z) (Ok z) (Err TooLarge)

-- the byte is no sign
abbrev pub is_sign_byte : ℕ → Bool
is_sign_byte b = b == 43 || b == 45

pub after_sign : {sign : List ℕ} {signed : ℕ → ℤ} → IsSign sign signed → (b : ℕ) (rest : List ℕ) → is_sign_byte b ≡ false →
    unsigned_part (sign ++ (b ∷ rest)) ≡ b ∷ rest
after_sign none b rest h = rw h
after_sign plus b rest h = refl
after_sign minus b rest h = refl

pub signed_cut : {sign : List ℕ} {signed : ℕ → ℤ} → IsSign sign signed → (b : ℕ) (rest : List ℕ) (n : ℕ) → is_sign_byte b ≡ false →
    signed_number (is_minus_first (sign ++ (b ∷ rest))) n ≡ bounded (signed n)
signed_cut none b rest n h = rw ((or_parts (b == 43) (b == 45) h).1)
signed_cut plus b rest n h = refl
signed_cut minus b rest n h = refl

-- a text begins with a sign or with none
pub record HasSign (text : List ℕ) : Type 0 where
  pub sign : List ℕ
  pub signed : ℕ → ℤ
  pub has : IsSign sign signed
  pub spelled : text ≡ sign ++ unsigned_part text
  pub cuts : (n : ℕ) → signed_number (is_minus_first text) n ≡ bounded (signed n)

pub sign_of : (text : List ℕ) → HasSign text
sign_of [] = record { sign = []; signed = pos; has = none; spelled = refl; cuts = λ n. refl }
sign_of (b ∷ text) =
    elim (cases_Bool (b == 43)) [
      | inl p ↦ (let e = eqb-true b 43 p in rw e (record { sign = 43 ∷ []; signed = pos; has = plus; spelled = refl; cuts = λ n. refl }))
      | inr p ↦ elim (cases_Bool (b == 45)) [
        | inl q ↦ (let e = eqb-true b 45 q in rw e (record { sign = 45 ∷ []; signed = λ n. neg_ℤ (pos n); has = minus; spelled = refl; cuts = λ n. refl }))
        | inr q ↦ record { sign = []; signed = pos; has = none; spelled = rw (p, q) refl; cuts = λ n. rw q refl }
      ]
    ]

-- a sign is no white space
pub sign_plain : {sign : List ℕ} {signed : ℕ → ℤ} → IsSign sign signed → is_plain sign ≡ true
sign_plain none = refl
sign_plain plus = refl
sign_plain minus = refl
