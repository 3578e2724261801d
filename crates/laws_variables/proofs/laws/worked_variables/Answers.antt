use Rattle.std.proofs.Common.{refl}
use Rattle.std.specs.Fmt.{digits}
use Rattle.laws_variables.proofs.laws.worked_variables.Goals as goal

-- they are computed
pub returns : goal.returns
unfolding digits
returns c = record {
  delivered_replies = refl;
  delivered_once = refl;
  left_replies = refl;
  left_once = refl;
  awaited_replies = refl;
  awaited_once = refl;
}
