use Rattle.tt_evaluation.proofs.Evaluations.{eval_is, only_eval}
use Rattle.tt_evaluation.proofs.MoreSteps.{finishes_again, one_want, stops_again}
use Rattle.tt_evaluation.proofs.laws.evaluation_follows_plans.Goals as goal

pub returns : goal.returns
returns g c =
    let plan = g.L.Language.plan in
    record {
      equation = record { follows = eval_is plan; only = only_eval plan };
      more = record { stops = stops_again plan; finishes = finishes_again plan };
      one = one_want plan;
    }
