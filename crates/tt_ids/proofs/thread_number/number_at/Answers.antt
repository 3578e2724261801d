use Rattle.std.proofs.Common.{◌≡◌, ◌∙◌, ◌++◌}
use Rattle.std.specs.Fmt.{decimal}
use Rattle.std.proofs.lemmas.List.{take-append-drop}
use Rattle.tt_ids.proofs.DigitLemmas.{run-only}
use Rattle.tt_ids.proofs.thread_number.number_at.Goals as goal

pub returns-clause-found : goal.returns-clause-found
returns-clause-found c =
    let whole = take-append-drop c.digit_run.result c.args.text.now in
    let written = c.in_ok-number.ensures.found.1 in
    let cut : c.args.text.now ≡ decimal c.in_ok-number.number ++ c.split_at.result.1.now = cc in
    (c.in_ok-number.ensures.found.0, cut, rw c.split_at.ensures.back c.digit_run.ensures.stops)

pub returns-in_err-number-clause-none : goal.returns-in_err-number-clause-none
returns-in_err-number-clause-none c = rw c.from_residual.ensures (λ n rest range stops e.
    c.in_err-number.ensures.none n range (c.split_at.ensures.front ∙ run-only c.args.text.now c.digit_run.result n rest c.digit_run.ensures range stops e))
