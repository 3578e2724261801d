use Rattle.laws_working.proofs.TurnExamples.{worked}
use Rattle.laws_working.proofs.laws.worked_turns.Goals as goal

pub returns : goal.returns
returns c = worked
