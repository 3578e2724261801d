use Rattle.laws_shared.proofs.ArraysAlone.{arrays_alone}
use Rattle.laws_shared.proofs.laws.arrays_stand_alone.Goals as goal

pub returns : goal.returns
returns c = arrays_alone
