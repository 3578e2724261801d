-- The operators on whole numbers (expr(n), OPERATORS): on integers without a bound, whose result is cut at
-- signed 64 bits.
use Rattle.std.specs.Prelude.{ℕ, Bool, suc, ◌^◌, nat_lt, if◌then◌else◌, ◌==◌, ℤ, pos, negsuc, neg_ℤ, ◌+ℤ◌, ◌-ℤ◌, ◌*ℤ◌}
use Rattle.std.specs.Prelude.{Result, Ok, Err}
use Rattle.std.specs.Int.{w64, int_div_euclid, int_rem_euclid, int_pow, int_bit_and, int_bit_or, int_bit_xor}
use Rattle.std.specs.Int.{int_bit_not}
use Rattle.std.specs.Int.RustNames.{unsigned_abs}
use Rattle.tt_number.specs.declared.operators.ArithFault.{ArithFault}
use Rattle.tt_number.specs.declared.operators.ArithFault.TheVariants.{Overflow, DivideByZero, NegativeShift, ZeroPower}
use Rattle.tt_number.specs.declared.operators.NumOp.{NumOp}
use Rattle.tt_number.specs.declared.operators.NumOp.TheVariants.{Add, Sub, Mul, Div, Mod, Pow, Shl, Shr, BitAnd}
use Rattle.tt_number.specs.declared.operators.NumOp.TheVariants.{BitOr, BitXor}
use Rattle.tt_number.specs.declared.operators.OneOp.{OneOp}
use Rattle.tt_number.specs.declared.operators.OneOp.TheVariants.{Neg, Plus, BitNot, Abs}

-- a number lies in signed 64 bits
abbrev pub fits : ℤ → Bool
fits (pos n) = nat_lt n (2 ^ 63)
fits (negsuc n) = nat_lt n (2 ^ 63)

-- the number, if it does
abbrev pub number_that_fits : ℤ → Result ℤ ArithFault
number_that_fits n = if fits n then Ok n else Err Overflow

-- the quotient rounded down: by a positive divisor it is Euclid's, and by a negative one a / d is -a / -d
abbrev pub quotient_down : ℤ → ℤ → ℤ
quotient_down a (pos d) = int_div_euclid a (pos d)
quotient_down a (negsuc d) = int_div_euclid (neg_ℤ a) (pos (suc d))

-- what that quotient leaves, which has the divisor's sign
abbrev pub remainder_down : ℤ → ℤ → ℤ
remainder_down a (pos d) = int_rem_euclid a (pos d)
remainder_down a (negsuc d) = neg_ℤ (int_rem_euclid (neg_ℤ a) (pos (suc d)))

-- division by 0 is an error
abbrev pub unless_zero : ℤ → Result ℤ ArithFault → Result ℤ ArithFault
unless_zero d quotient = if unsigned_abs d == 0 then Err DivideByZero else quotient

-- a power with a negative exponent: 1 and -1 are their own inverses, and of a greater base nothing whole is left
abbrev pub inverse_power : ℤ → ℕ → Result ℤ ArithFault
inverse_power base exponent =
    if unsigned_abs base == 0 then Err ZeroPower else
    if unsigned_abs base == 1 then number_that_fits (int_pow base exponent) else Ok (pos 0)

abbrev pub power : ℤ → ℤ → Result ℤ ArithFault
power base (pos exponent) = number_that_fits (int_pow base exponent)
power base (negsuc e) = inverse_power base (suc e)

-- a shift to the left multiplies by a power of two, and one to the right divides by it and rounds down
abbrev pub shifted_left : ℤ → ℤ → Result ℤ ArithFault
shifted_left a (pos places) = number_that_fits (a *ℤ pos (2 ^ places))
shifted_left a (negsuc _) = Err NegativeShift

abbrev pub shifted_right : ℤ → ℤ → Result ℤ ArithFault
shifted_right a (pos places) = number_that_fits (quotient_down a (pos (2 ^ places)))
shifted_right a (negsuc _) = Err NegativeShift

-- what a binary operator answers; bits are those of the two's complement
unfoldable pub binary_of : NumOp → ℤ → ℤ → Result ℤ ArithFault
binary_of Add a b = number_that_fits (a +ℤ b)
binary_of Sub a b = number_that_fits (a -ℤ b)
binary_of Mul a b = number_that_fits (a *ℤ b)
binary_of Div a b = unless_zero b (number_that_fits (quotient_down a b))
binary_of Mod a b = unless_zero b (number_that_fits (remainder_down a b))
binary_of Pow a b = power a b
binary_of Shl a b = shifted_left a b
binary_of Shr a b = shifted_right a b
binary_of BitAnd a b = Ok (int_bit_and w64 a b)
binary_of BitOr a b = Ok (int_bit_or w64 a b)
binary_of BitXor a b = Ok (int_bit_xor w64 a b)

-- what a unary operator or the function abs answers
unfoldable pub unary_of : OneOp → ℤ → Result ℤ ArithFault
unary_of Neg a = number_that_fits (neg_ℤ a)
unary_of Plus a = Ok a
unary_of BitNot a = Ok (int_bit_not w64 a)
unary_of Abs a = number_that_fits (pos (unsigned_abs a))
