use Rattle.std.proofs.Common.{◌≡◌, IfOk, drop, ap, sym, subst, ◌∙◌, arith}
use Rattle.tt_exprs.specs.inside.CutTokens.{plain_cut}
use Rattle.tt_exprs.specs.Tokens.{one, operand, word}
use Rattle.tt_exprs.proofs.Builds.{plain_leaf}
use Rattle.tt_exprs.proofs.TokenSteps.{begun, token-word, number-read, other-read}
use Rattle.tt_exprs.proofs.tokens.first_token.Goals as goal

pub returns-then-begins_word-clause-read : goal.returns-then-begins_word-clause-read
returns-then-begins_word-clause-read c =
    let b = c.args.first in
    let text = c.args.text.now in
    subst (λ cut. IfOk c.word.result (λ found. plain_cut found ≡ cut))
    (ap word (sym (begun b text c.requires.here c.requires.first))
    ∙ sym (token-word b (drop 1 text) (sym c.begins_word.ensures ∙ c.if-begins_word.true))) c.word.ensures.read

pub returns-then-digits-gt0-clause-read : goal.returns-then-digits-gt0-clause-read
returns-then-digits-gt0-clause-read c =
    ap (λ e. one (operand e) c.number_length-digits.result) (plain_leaf c.in_ok-number.number)
    ∙ number-read c.args.text.now c.args.first c.number_length-digits.result c.in_ok-number.number c.requires.here c.requires.first
    (sym c.begins_word.ensures ∙ c.if-begins_word.false) c.number_length-digits.ensures.count c.if-digits-gt0.true c.in_ok-number.ensures.made

pub returns-clause-read : goal.returns-clause-read
returns-clause-read c =
    subst (λ cut. IfOk c.other.result (λ found. plain_cut found ≡ cut))
    (other-read c.args.text.now c.args.first c.number_length-digits.result c.requires.here c.requires.first
    (sym c.begins_word.ensures ∙ c.if-begins_word.false) c.number_length-digits.ensures.count (omega (arith, c.if-digits-gt0.false)))
    c.other.ensures.read
