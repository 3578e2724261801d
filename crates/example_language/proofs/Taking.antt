-- What is delivered is taken.
use Rattle.std.proofs.Common.{◌≡◌, ℕ, List, [], ap, Option, Some, ◌∙◌}
use Rattle.tt_evaluation.specs.Plans.{Course, Stop}
use Rattle.tt_hosting.specs.Hosting.{having}
use Rattle.example_language.specs.Deliveries.{JobComing, LeadsOn, delivered}
use Rattle.example_language.specs.declared.language.Want.{Want}
use Rattle.example_language.specs.declared.language.Want.TheVariants.{Deliver}

pub taken : (want : Want) (number : ℕ) (coming : JobComing) (serving : List ℕ) (old : Option ℕ) → want ≡ Deliver number →
    coming [] ≡ Stop want serving → LeadsOn (having 0 coming) (Some number) coming old
taken want number coming serving old is stops numbers outcome last all =
    let stop : Want → Course Want ℕ ℕ ℕ = λ w. Stop w serving in
    delivered (stops ∙ ap stop is) all
