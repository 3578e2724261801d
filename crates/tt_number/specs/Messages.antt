-- How a text that is no whole number, and an operator that has no answer, are reported (expr(n), OPERANDS, OPERATORS).
use Rattle.std.specs.Prelude.{ℕ, List, ◌++◌, codes}
use Rattle.tt_number.specs.declared.numeral.NumberFault.{NumberFault}
use Rattle.tt_number.specs.declared.numeral.NumberFault.TheVariants.{NotWhole, TooLarge, Float}
use Rattle.tt_number.specs.declared.operators.ArithFault.{ArithFault}
use Rattle.tt_number.specs.declared.operators.ArithFault.TheVariants.{Overflow, DivideByZero, NegativeShift, ZeroPower}

-- why a text is no whole number, if one is needed
abbrev pub number_message : NumberFault → List ℕ → List ℕ
number_message NotWhole text = codes "expected integer but got \"" ++ (text ++ codes "\"")
number_message TooLarge text = codes "integer overflow"
number_message Float text = codes "floating-point number refused"

-- why an operator has no answer on its numbers
abbrev pub arith_message : ArithFault → List ℕ
arith_message Overflow = codes "integer overflow"
arith_message DivideByZero = codes "divide by zero"
arith_message NegativeShift = codes "negative shift argument"
arith_message ZeroPower = codes "exponentiation of zero by negative power"
