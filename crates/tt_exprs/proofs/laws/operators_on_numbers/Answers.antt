use Rattle.tt_exprs.proofs.OnNumbers.{numbers_law}
use Rattle.tt_exprs.proofs.laws.operators_on_numbers.Goals as goal

pub returns : goal.returns
returns c = record { numbers = numbers_law }
