use Rattle.std.proofs.Common.{◌≡◌, ◌-◌, ◌^◌, min, true, take}
use Rattle.std.specs.Str.Parse.{digits_value}
use Rattle.tt_number.specs.Numerals.{all_digits}
use Rattle.tt_number.proofs.numeral.digits_of.Given as goal

abbrev pub invariant-loop-digit : goal.invariant-loop-digit
invariant-loop-digit l =
    (all_digits l.base (take l.digit-index l.digits) ≡ true) × (l.number ≡ min (digits_value l.base (take l.digit-index l.digits)) (2 ^ 64 - 1))
