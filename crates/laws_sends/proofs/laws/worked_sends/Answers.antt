use Rattle.std.proofs.Common.{refl}
use Rattle.std.specs.Fmt.{digits}
use Rattle.laws_sends.proofs.laws.worked_sends.Goals as goal

-- they are computed
pub returns : goal.returns
unfolding digits
returns c = record { in_order = refl; died = refl; inside_out = refl; between = refl }
