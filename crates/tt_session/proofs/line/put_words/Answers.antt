use Rattle.tt_session.proofs.LineLemmas.{all-four, first-fails, fourth-fails, on-err, second-fails, third-fails}
use Rattle.tt_session.proofs.line.put_words.Goals as goal

pub returns-in_err-put-clause-part : goal.returns-in_err-put-clause-part
returns-in_err-put-clause-part g c = on-err _ _ (first-fails _ _ _ c.args.words.now c.args.more.now _ c.in_err-put.ensures.part)

pub returns-in_err-put-2-clause-part : goal.returns-in_err-put-2-clause-part
returns-in_err-put-2-clause-part g c = on-err _ _ (second-fails _ _ _ _ c.args.words.now c.args.more.now _ c.in_ok-put.ensures.put c.in_err-put-2.ensures.part)

pub returns-in_err-put-3-clause-part : goal.returns-in_err-put-3-clause-part
returns-in_err-put-3-clause-part g c =
    on-err _ _ (third-fails _ _ _ _ _ c.args.words.now c.args.more.now _ c.in_ok-put.ensures.put c.in_ok-put-2.ensures.put c.in_err-put-3.ensures.part)

pub returns-in_err-put-4-clause-part : goal.returns-in_err-put-4-clause-part
returns-in_err-put-4-clause-part g c =
    on-err _ _ (fourth-fails _ _ _ _ _ _ c.args.words.now c.args.more.now _ c.in_ok-put.ensures.put c.in_ok-put-2.ensures.put
    c.in_ok-put-3.ensures.put c.in_err-put-4.ensures.part)

pub returns-clause-put : goal.returns-clause-put
returns-clause-put g c =
    all-four _ _ _ _ _ _ c.args.words.now c.args.more.now _ c.in_ok-put.ensures.put c.in_ok-put-2.ensures.put c.in_ok-put-3.ensures.put
    c.in_ok-put-4.ensures.put
