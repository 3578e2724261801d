use Rattle.std.proofs.Common.{◌+◌, ◌-◌, length, drop, ap, sym, subst, ◌∙◌, arith}
use Rattle.tt_exprs.specs.inside.Cutting.{whole, comes_to}
use Rattle.tt_exprs.specs.inside.CutTokens.{plain_cut, plain_token, TakesWithin}
use Rattle.tt_exprs.specs.inside.Stacks.{plain_state}
use Rattle.tt_exprs.specs.Tokens.{tokens}
use Rattle.tt_exprs.proofs.TokenSteps.{white-at, one-at, refused-at, stopped-at, end-at, comes_to-one}
use Rattle.tt_exprs.proofs.reading.read_tokens.Goals as goal

pub loop-at-preserved-then-is_white_space : goal.loop-at-preserved-then-is_white_space
loop-at-preserved-then-is_white_space c =
    let state = plain_state c.loop-at.state in
    record {
      within = omega arith;
      read = ap (comes_to state) (sym (white-at c.args.text.now c.loop-at.at (omega arith) (sym c.is_white_space.ensures ∙ c.if-is_white_space.true)))
          ∙ c.loop-at.invariant.read;
    }

pub loop-at-preserved : goal.loop-at-preserved
loop-at-preserved c =
    let state = plain_state c.loop-at.state in
    let text = c.args.text.now in
    let at = c.loop-at.at in
    let later = tokens 0 (drop (at + c.in-One.n) text) in
    let sized = subst (λ cut. TakesWithin cut (length c.args.text.now - c.loop-at.at)) c.in-One.is c.in_ok-token.ensures.within in
    record {
      within = omega (arith, sized.1);
      read =
          ap (λ next. comes_to next later) c.in_ok-step-in-One.ensures
          ∙ sym (comes_to-one state (plain_token c.in-One.token) later)
          ∙ ap (comes_to state)
          (sym (one-at text at (plain_token c.in-One.token) c.in-One.n (omega arith) (sym c.is_white_space.ensures ∙ c.if-is_white_space.false)
          (sym c.in_ok-token.ensures.read ∙ ap plain_cut c.in-One.is) sized.0))
          ∙ c.loop-at.invariant.read;
    }

pub returns-in-Refused : goal.returns-in-Refused
returns-in-Refused c =
    let state = plain_state c.loop-at.state in
    ap (comes_to state)
    (sym (refused-at c.args.text.now c.loop-at.at c.in-Refused.word (omega arith) (sym c.is_white_space.ensures ∙ c.if-is_white_space.false)
    (sym c.in_ok-token.ensures.read ∙ ap plain_cut c.in-Refused.is)))
    ∙ c.loop-at.invariant.read

pub returns-in-NoneHere : goal.returns-in-NoneHere
returns-in-NoneHere c =
    let state = plain_state c.loop-at.state in
    ap (comes_to state)
    (sym (stopped-at c.args.text.now c.loop-at.at (omega arith) (sym c.is_white_space.ensures ∙ c.if-is_white_space.false)
    (sym c.in_ok-token.ensures.read ∙ ap plain_cut c.in-NoneHere.is)))
    ∙ c.loop-at.invariant.read

pub returns : goal.returns
returns c =
    ap whole c.in_ok-outcome.ensures
    ∙ ap (comes_to (plain_state c.loop-at.state)) (sym (end-at c.args.text.now c.loop-at.at (omega arith)))
    ∙ c.loop-at.invariant.read
