use Rattle.std.proofs.Common.{◌≡◌, ◌<◌, ◌^◌, ◌∙◌, ℕ, List, sym, arith}
use Rattle.std.specs.Fmt.{decimal}
use Rattle.std.proofs.lemmas.Fmt.{decimal_injective}
use Rattle.tt_ids.specs.Moments.{IsMoment}
use Rattle.tt_ids.proofs.moment.moment_of.Goals as goal

-- digits write one number
one-number : (digits : List ℕ) (m n : ℕ) → m < 2 ^ 64 → digits ≡ decimal m → IsMoment n → digits ≡ decimal n → m ≡ n
one-number digits m n small e is f = decimal_injective m n small (omega (arith, is.1)) (sym e ∙ f)

pub returns-then-moment-eq0-clause-none : goal.returns-then-moment-eq0-clause-none
returns-then-moment-eq0-clause-none c n is e =
    let same = one-number c.args.digits.now c.in_ok-moment.moment n c.in_ok-moment.ensures.small c.in_ok-moment.ensures.read is e in
    omega (arith, is.0, c.if-moment-eq0.true)

pub returns-then-moment-gt-LAST-clause-none : goal.returns-then-moment-gt-LAST-clause-none
returns-then-moment-gt-LAST-clause-none c n is e =
    let same = one-number c.args.digits.now c.in_ok-moment.moment n c.in_ok-moment.ensures.small c.in_ok-moment.ensures.read is e in
    omega (arith, is.1, c.if-moment-gt-LAST.true)
