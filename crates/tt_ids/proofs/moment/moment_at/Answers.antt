use Rattle.std.proofs.Common.{◌≡◌, ◌∙◌, ◌++◌, arith}
use Rattle.std.specs.Fmt.{decimal}
use Rattle.std.proofs.lemmas.List.{take-append-drop}
use Rattle.tt_ids.proofs.DigitLemmas.{run-written}
use Rattle.tt_ids.proofs.moment.moment_at.Goals as goal

pub returns-clause-found : goal.returns-clause-found
returns-clause-found c =
    let whole = take-append-drop c.digit_run.result c.args.text.now in
    let written = c.in_ok-moment.ensures.found.1 in
    let cut : c.args.text.now ≡ decimal c.in_ok-moment.moment ++ c.split_at.result.1.now = cc in
    (c.in_ok-moment.ensures.found.0, cut, rw c.split_at.ensures.back c.digit_run.ensures.stops)

pub returns-in_err-moment-clause-none : goal.returns-in_err-moment-clause-none
returns-in_err-moment-clause-none c = rw c.from_residual.ensures (λ n rest is stops e.
    c.in_err-moment.ensures.none n is (c.split_at.ensures.front ∙ run-written c.args.text.now c.digit_run.result n rest c.digit_run.ensures (omega (arith, is.1)) stops e))
