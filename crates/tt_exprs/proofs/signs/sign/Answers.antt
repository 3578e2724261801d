use Rattle.std.proofs.Common.{◌≡◌, length, get_or, refl, ap, sym, subst, ◌∙◌, arith}
use Rattle.tt_exprs.specs.Operators.{spelling}
use Rattle.tt_exprs.specs.Tokens.{one, operator, none_here, sign}
use Rattle.tt_exprs.proofs.StackSteps.{length-zero}
use Rattle.tt_exprs.proofs.Spellings.{first_spelled-cut, spelled_within, spelling-some, sign-operator, sign-mark, sign-none}
use Rattle.tt_exprs.proofs.signs.sign.Goals as goal

pub returns-in_default-clause-read : goal.returns-in_default-clause-read
returns-in_default-clause-read c =
    subst (λ text. none_here ≡ sign text) (sym (length-zero c.args.text.now (omega (arith, c.in_default.len_below)))) (sym sign-none)

pub returns-in-Some-clause-read : goal.returns-in-Some-clause-read
returns-in-Some-clause-read c =
    ap (λ s. one (operator c.in-Some.op) (length s)) c.spelling.ensures
    ∙ sign-operator c.args.text.now c.begun_by.result.now (get_or c.args.text.now 0 0) c.in-len1-up.len_at_least refl c.begun_by.ensures c.in-Some.op
    (sym c.first_spelled.ensures ∙ c.in-Some.is)

pub returns-in-Some-clause-within : goal.returns-in-Some-clause-within
returns-in-Some-clause-within c =
    let text = c.args.text.now in
    let op = c.in-Some.op in
    let size : length c.spelling.result.now ≡ length (spelling op) = ap length c.spelling.ensures in
    let some = spelling-some op in
    let cut = first_spelled-cut c.begun_by.result.now text op (sym c.first_spelled.ensures ∙ c.in-Some.is) in
    (omega (arith, size, some), omega (arith, size, spelled_within text (spelling op) _ cut))

pub returns-in-None-clause-read : goal.returns-in-None-clause-read
returns-in-None-clause-read c =
    sign-mark c.args.text.now c.begun_by.result.now (get_or c.args.text.now 0 0) c.in-len1-up.len_at_least refl c.begun_by.ensures _ c.mark.ensures.read
    (sym c.first_spelled.ensures ∙ c.in-None.is)
