use Rattle.std.proofs.Common.{ap, ◌∙◌, arith}
use Rattle.tt_script.specs.Words.{none}
use Rattle.tt_script.specs.Reading.{after, takes, parts_at_end, level}
use Rattle.tt_script.proofs.PartSteps.{parts_at-end, parts_at-all}
use Rattle.tt_script.proofs.parser.must_end.Goals as goal

pub returns-then-at-text-clause-ok : goal.returns-then-at-text-clause-ok
returns-then-at-text-clause-ok c level = parts_at-end level c.args.ending c.args.text.now c.args.at c.if-at-text.true (c.requires.ends c.if-at-text.true)

pub returns-in-Word-clause-ok : goal.returns-in-Word-clause-ok
returns-in-Word-clause-ok c level =
    parts_at-all level c.args.ending c.args.text.now c.args.at (omega arith) ∙ ap (λ e. after c.args.at (parts_at_end e)) c.in-Word.is
    ∙ ap (takes none) (omega arith)

pub returns-in-Quote-clause-fault : goal.returns-in-Quote-clause-fault
returns-in-Quote-clause-fault c level =
    parts_at-all level c.args.ending c.args.text.now c.args.at (omega arith) ∙ ap (λ e. after c.args.at (parts_at_end e)) c.in-Quote.is

pub returns-in-Parenthesis-clause-fault : goal.returns-in-Parenthesis-clause-fault
returns-in-Parenthesis-clause-fault c level =
    parts_at-all level c.args.ending c.args.text.now c.args.at (omega arith) ∙ ap (λ e. after c.args.at (parts_at_end e)) c.in-Parenthesis.is
