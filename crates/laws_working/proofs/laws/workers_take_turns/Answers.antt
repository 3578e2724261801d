use Rattle.laws_working.proofs.Turns.{turn_law}
use Rattle.laws_working.proofs.laws.workers_take_turns.Goals as goal

pub returns : goal.returns
returns c = turn_law
