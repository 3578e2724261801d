use Rattle.tt_number.proofs.Division.{division_rounds_down}
use Rattle.tt_number.proofs.laws.division_rounds_down.Goals as goal

pub returns : goal.returns
returns c = division_rounds_down
