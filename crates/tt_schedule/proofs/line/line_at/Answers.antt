use Rattle.std.proofs.Common.{◌≡◌, ◌++◌, ◌∷◌, ◌∙◌, sym, refl}
use Rattle.std.specs.Fmt.{decimal}
use Rattle.tt_schedule.proofs.LineLemmas.{one-number, line-thread, line_text-append, after_thread}
use Rattle.tt_schedule.specs.declared.line.Line.{Line}
use Rattle.tt_schedule.proofs.line.line_at.Goals as goal

pub returns-clause-found : goal.returns-clause-found
returns-clause-found c =
    let line : Line = record { thread = c.in_ok-thread.thread; steps = c.in_ok-steps.steps } in
    let whole = line_text-append line c.in_ok-rest-2.rest.now in
    let cut = c.in_ok-thread.ensures.found.1 in
    let space = c.in_ok-rest.ensures.found in
    let steps = c.in_ok-steps.ensures.found.1 in
    let newline = c.in_ok-rest-2.ensures.found in
    let text : c.args.text.now ≡ decimal line.thread ++ after_thread line c.in_ok-rest-2.rest.now = cc in
    (record { thread = c.in_ok-thread.ensures.found.0; steps = c.in_ok-steps.ensures.found.0 }, text ∙ sym whole)

pub returns-in_err-rest-clause-none : goal.returns-in_err-rest-clause-none
returns-in_err-rest-clause-none c = rw c.from_residual-in_err-rest.ensures (λ line rest is e.
    let read = c.in_ok-thread.ensures.found in
    c.in_err-rest.ensures.none _ (line-thread c.args.text.now c.in_ok-thread.thread c.in_ok-thread.rest.now line rest read.0 read.2 read.1 is e).1)

pub returns-in_err-steps-clause-none : goal.returns-in_err-steps-clause-none
returns-in_err-steps-clause-none c = rw c.from_residual-in_err-steps.ensures (λ line rest is e.
    let read = c.in_ok-thread.ensures.found in
    let after = (line-thread c.args.text.now c.in_ok-thread.thread c.in_ok-thread.rest.now line rest read.0 read.2 read.1 is e).1 in
    let space = c.in_ok-rest.ensures.found in
    let steps : c.in_ok-rest.rest.now ≡ decimal line.steps ++ (10 ∷ rest) = cc in
    c.in_err-steps.ensures.none line.steps (10 ∷ rest) is.steps refl steps)

pub returns-in_err-rest-2-clause-none : goal.returns-in_err-rest-2-clause-none
returns-in_err-rest-2-clause-none c = rw c.from_residual-in_err-rest-2.ensures (λ line rest is e.
    let read = c.in_ok-thread.ensures.found in
    let after = (line-thread c.args.text.now c.in_ok-thread.thread c.in_ok-thread.rest.now line rest read.0 read.2 read.1 is e).1 in
    let space = c.in_ok-rest.ensures.found in
    let number = c.in_ok-steps.ensures.found in
    let steps : c.in_ok-rest.rest.now ≡ decimal line.steps ++ (10 ∷ rest) = cc in
    let newline = (one-number c.in_ok-steps.steps line.steps c.in_ok-steps.rest.now (10 ∷ rest) number.0 is.steps number.2 refl (sym number.1 ∙ steps)).1 in
    c.in_err-rest-2.ensures.none rest newline)
