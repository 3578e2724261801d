use Rattle.laws_serving.proofs.Events.{tcl_keeps}
use Rattle.laws_serving.proofs.laws.plans_keep_duties.Goals as goal

pub returns : goal.returns
returns c = tcl_keeps
