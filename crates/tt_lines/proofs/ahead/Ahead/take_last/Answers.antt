use Rattle.std.proofs.Common.{refl}
use Rattle.tt_lines.proofs.LineLemmas.{last-line, last-none}
use Rattle.tt_lines.proofs.ahead.Ahead.take_last.Goals as goal

pub returns-then-count-eq0-clause-line : goal.returns-then-count-eq0-clause-line
returns-then-count-eq0-clause-line c = last-none c.args.self.now (rw c.unused-count.ensures at c.if-count-eq0.true)

pub returns-clause-line : goal.returns-clause-line
returns-clause-line c =
    last-line c.args.self.now _ _ c.take_line.result
    (rw c.unused-count.ensures refl) c.if-count-eq0.false c.requires.in_line c.requires.few c.take_line.ensures.line c.take_line.ensures.left
