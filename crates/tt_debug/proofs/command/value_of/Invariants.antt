use Rattle.std.proofs.Common.{◌≡◌, true, drop}
use Rattle.std.specs.Str.{all_ascii_digits}
use Rattle.tt_ids.specs.Digits.{number_after}
use Rattle.tt_debug.proofs.command.value_of.Given as goal

abbrev pub invariant-loop-digit : goal.invariant-loop-digit
invariant-loop-digit l =
    (number_after l.value (drop l.digit-index l.digits) ≡ number_after 0 l.digits) × (all_ascii_digits (drop l.digit-index l.digits) ≡ true)
