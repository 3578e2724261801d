use Rattle.std.proofs.Common.{refl}
use Rattle.std.specs.Fmt.{digits}
use Rattle.laws_shared.proofs.laws.worked_happenings.Goals as goal

-- they are computed
pub returns : goal.returns
unfolding digits
returns c = record { sent = refl; locked = refl; moved = refl; put = refl; taken = refl }
