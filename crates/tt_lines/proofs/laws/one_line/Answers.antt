use Rattle.tt_lines.proofs.LineLemmas.{one-line}
use Rattle.tt_lines.proofs.laws.one_line.Goals as goal

pub returns : goal.returns
returns c = one-line
