-- Powers and shifts past 64 bits.
use Rattle.std.proofs.Common.{inl, inr, ◌<ℤ◌, ◌≤ℤ◌, ◌≡◌, ℕ, zero, suc, ◌^◌, ◌<◌, ◌≤◌, ◌/◌, ◌%◌, true, false, cond, eqb}
use Rattle.std.proofs.Common.{min, ◌≢◌, ℤ, pos, negsuc, ◌*ℤ◌, neg_ℤ, Err, Ok, refl, sym, ◌∙◌, arith}
use Rattle.std.proofs.lemmas.Bool.{cases_lt}
use Rattle.std.proofs.lemmas.Bool.Decides.{nat_tests}
use Rattle.std.proofs.lemmas.Int.{ints, unsigned_abs-mul}
use Rattle.std.proofs.Math.Nat.{div-eq_of_lt, div-le_self, pow-suc, pow-le-pow_left, pow-le-pow_right, mul-le-mul_right}
use Rattle.std.specs.Int.{w64, int_pow, int_shr}
use Rattle.std.specs.Int.RustNames.{unsigned_abs, FitsSigned}
use Rattle.tt_number.specs.Operators.{number_that_fits, quotient_down}
use Rattle.tt_number.specs.declared.operators.ArithFault.TheVariants.{Overflow}

-- a number whose size is past 63 bits does not fit
pub overflows : (z : ℤ) → 2 ^ 63 < unsigned_abs z → Err Overflow ≡ number_that_fits z
overflows (pos n) h = grind (arith, nat_tests)
overflows (negsuc n) h = grind (arith, nat_tests)

pub abs-neg : (n : ℕ) → unsigned_abs (neg_ℤ (pos n)) ≡ n
abs-neg zero = refl
abs-neg (suc n) = refl

pub abs-pow : (z : ℤ) (e : ℕ) → unsigned_abs (int_pow z e) ≡ unsigned_abs z ^ e
abs-pow (pos a) e = refl
abs-pow (negsuc a) e =
    elim (eqb (e % 2) 0) as (λ t. unsigned_abs (cond t (pos (suc a ^ e)) (neg_ℤ (pos (suc a ^ e)))) ≡ suc a ^ e) [ true ↦ refl | false ↦ abs-neg (suc a ^ e) ]

-- a base of two or more at an exponent of 64 or more
pub long_power : (base : ℤ) (e : ℕ) → 64 ≤ e → 2 ≤ unsigned_abs base → Err Overflow ≡ number_that_fits (int_pow base e)
long_power base e h two = overflows (int_pow base e) (omega (arith, abs-pow base e, pow-le-pow_left two e, pow-le-pow_right {n = 2} (omega arith) h))

pub pow_of_one : (e : ℕ) → 1 ^ e ≡ 1
pow_of_one zero = refl
pow_of_one (suc e) = omega (arith, pow-suc 1 e, pow_of_one e)

pub pow_of_zero : (e : ℕ) → 0 < e → 0 ^ e ≡ 0
pow_of_zero zero h = absurd (omega arith)
pow_of_zero (suc e) h = omega (arith, pow-suc 0 e)

-- a shift of 64 places or more
pub long_shift : (a : ℤ) (k : ℕ) → 64 ≤ k → 1 ≤ unsigned_abs a → Err Overflow ≡ number_that_fits (a *ℤ pos (2 ^ k))
long_shift a k h one =
    overflows (a *ℤ pos (2 ^ k)) (omega (arith, unsigned_abs-mul a (pos (2 ^ k)), mul-le-mul_right (2 ^ k) one, pow-le-pow_right {n = 2} (omega arith) h))

-- 0 and 1 at an exponent above 0
pub idle_power : (base : ℤ) (e : ℕ) → 64 ≤ e → pos 0 ≤ℤ base → unsigned_abs base ≤ 1 → Ok base ≡ number_that_fits (int_pow base e)
idle_power (pos zero) e far sign small = let h : 0 < e = omega arith in rw (pow_of_zero e h)
idle_power (pos (suc zero)) e far sign small = rw (pow_of_one e)
idle_power (pos (suc (suc n))) e far sign small = absurd (omega arith)
idle_power (negsuc n) e far sign small = absurd (omega (arith, ints))

-- -1 at an even exponent and at an odd one
pub even_power : (base : ℤ) (e : ℕ) → base <ℤ pos 0 → unsigned_abs base ≤ 1 → e % 2 ≡ 0 → Ok (pos 1) ≡ number_that_fits (int_pow base e)
even_power (pos n) e sign small h = absurd (omega (arith, ints))
even_power (negsuc zero) e sign small h = rw (h, pow_of_one e)
even_power (negsuc (suc n)) e sign small h = absurd (omega arith)

pub odd_power : (base : ℤ) (e : ℕ) → base <ℤ pos 0 → unsigned_abs base ≤ 1 → e % 2 ≢ 0 → Ok (negsuc 0) ≡ number_that_fits (int_pow base e)
odd_power (pos n) e sign small h = absurd (omega (arith, ints))
odd_power (negsuc zero) e sign small h = let odd : e % 2 ≡ 1 = omega arith in rw (odd, pow_of_one e)
odd_power (negsuc (suc n)) e sign small h = absurd (omega arith)

-- a number of 64 bits shifted to the right past its end
shift_capped : (n k : ℕ) → n < 2 ^ 63 → n / 2 ^ min k 63 ≡ n / 2 ^ k
shift_capped n k h = elim (cases_lt k 63) [ inl p ↦ (let e : min k 63 ≡ k = omega arith in rw e) | inr p ↦ (let e : min k 63 ≡ 63 = omega arith in rw e (div-eq_of_lt h ∙ sym (div-eq_of_lt (omega (arith, pow-le-pow_right {n = 2} (omega arith) p))))) ]

pub far_shift : (a : ℤ) (k : ℕ) → FitsSigned w64 a → Ok (int_shr a (min k 63)) ≡ number_that_fits (quotient_down a (pos (2 ^ k)))
far_shift (pos n) k h = let e = shift_capped n k h.sfits in let le = div-le_self n (2 ^ k) in rw e (grind (arith, nat_tests))
far_shift (negsuc n) k h = let e = shift_capped n k h.sfits in let le = div-le_self n (2 ^ k) in rw e (grind (arith, nat_tests))
