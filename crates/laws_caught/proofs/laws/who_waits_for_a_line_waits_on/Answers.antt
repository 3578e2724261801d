use Rattle.laws_caught.proofs.Lines.{line_wait}
use Rattle.laws_caught.proofs.laws.who_waits_for_a_line_waits_on.Goals as goal

pub returns : goal.returns
returns c = line_wait
