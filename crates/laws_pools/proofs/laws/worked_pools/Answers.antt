use Rattle.std.proofs.Common.{refl}
use Rattle.std.specs.Fmt.{digits}
use Rattle.laws_pools.proofs.Worked.{asks_so}
use Rattle.laws_pools.proofs.laws.worked_pools.Goals as goal

-- they are computed
pub returns : goal.returns
unfolding digits
returns c = record { asks = asks_so; died = refl; in_order = refl; no_other = refl; dropped = refl }
