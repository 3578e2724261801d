use Rattle.std.proofs.Common.{refl}
use Rattle.tt_evaluation.specs.Evaluation.{eval}
use Rattle.example_language.proofs.laws.worked_plans.Goals as goal

-- they are computed
pub returns : goal.returns
unfolding eval
returns c =
    record { stops = refl; finishes = refl; serves = refl; delivers = refl; served = refl; nested = refl; spent = refl }
