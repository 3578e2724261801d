use Rattle.tt_session.proofs.LineLemmas.{on-err, part-after, part-front}
use Rattle.tt_session.specs.Lines.{line_of}
use Rattle.tt_session.proofs.line.put_all.Goals as goal

pub returns-in_err-put_line-clause-part : goal.returns-in_err-put_line-clause-part
returns-in_err-put_line-clause-part g c = on-err _ _ (part-front _ _ (line_of c.args.status.now) c.args.more.now c.in_err-put_line.ensures.part)

pub returns-in_err-put-clause-part : goal.returns-in_err-put-clause-part
returns-in_err-put-clause-part g c =
    on-err _ _ (part-after _ _ _ (line_of c.args.status.now) c.args.more.now c.in_ok-put_line.ensures.put c.in_err-put.ensures.part)
