use Rattle.std.proofs.Common.{◌∙◌}
use Rattle.tt_number.proofs.Digits.{read_capped}
use Rattle.tt_number.specs.Numerals.{whole_of}
use Rattle.tt_number.proofs.numeral.read_whole.Goals as goal

pub returns-in-Some : goal.returns-in-Some
unfolding whole_of
returns-in-Some c =
    let answer = c.cut.ensures ∙ read_capped c.is_minus_first-negative.result c.unsigned_part-unsigned.result.now _ _ c.in-Some.ensures in
    record { answer = rw (← c.trimmed-text.ensures, ← c.is_minus_first-negative.ensures, ← c.unsigned_part-unsigned.ensures) answer }
