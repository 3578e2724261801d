use Rattle.laws_working.proofs.Runs.{handing_in_law}
use Rattle.laws_working.proofs.laws.runs_hand_in_what_they_began.Goals as goal

pub returns : goal.returns
returns c = handing_in_law
