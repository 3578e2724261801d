use Rattle.std.proofs.Common.{◌≡◌, ◌<◌, ◌^◌, true, take}
use Rattle.std.specs.List.{list_all}
use Rattle.std.specs.Str.Parse.{digits_value}
use Rattle.tt_lists.specs.Indices.{is_decimal}
use Rattle.tt_lists.proofs.indices.number_of.Given as goal

abbrev pub invariant-loop-digit : goal.invariant-loop-digit
invariant-loop-digit l = record {
  decimal : list_all is_decimal (take l.digit-index l.digits) ≡ true;
  number : l.number ≡ digits_value 10 (take l.digit-index l.digits);
  fits : l.number < 2 ^ 64;
}
