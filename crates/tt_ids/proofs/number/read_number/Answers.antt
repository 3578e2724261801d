use Rattle.std.proofs.Common.{sym, subst}
use Rattle.std.proofs.lemmas.Fmt.{IsAscii-decimal}
use Rattle.std.proofs.lemmas.Str.{IsUtf8-from_ascii}
use Rattle.std.specs.Str.{IsUtf8}
use Rattle.tt_ids.proofs.number.read_number.Goals as goal

-- digits are UTF-8
pub returns-in-Err-clause-none : goal.returns-in-Err-clause-none
returns-in-Err-clause-none c n small e =
    let valid = subst IsUtf8 (sym e) (IsUtf8-from_ascii _ (IsAscii-decimal n small)) in
    absurd (c.in-Err.ensures.cases.0 valid)
