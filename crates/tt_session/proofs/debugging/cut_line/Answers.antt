use Rattle.std.proofs.Common.{sym}
use Rattle.tt_session.proofs.DebugLemmas.{cut-line, only-line}
use Rattle.tt_session.proofs.debugging.cut_line.Goals as goal

pub returns-in-Some-clause-lines : goal.returns-in-Some-clause-lines
returns-in-Some-clause-lines c = cut-line c.args.text.now c.in-Some.place (sym (rw c.in-Some.is at c.newline.ensures.place))

pub returns-in-None-clause-lines : goal.returns-in-None-clause-lines
returns-in-None-clause-lines c = only-line c.args.text.now c.requires.some (sym (rw c.in-None.is at c.newline.ensures.place))
