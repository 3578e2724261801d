use Rattle.laws_shared.proofs.HeldAlone.{held_alone}
use Rattle.laws_shared.proofs.laws.held_arrays_are_alone.Goals as goal

pub returns : goal.returns
returns c = held_alone
