use Rattle.tt_chans.proofs.LineLaw.{line}
use Rattle.tt_chans.proofs.laws.lines_are_taken_from_the_front.Goals as goal

pub returns : goal.returns
returns c = line
