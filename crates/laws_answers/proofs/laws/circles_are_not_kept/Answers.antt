use Rattle.laws_answers.proofs.Circles.{circles}
use Rattle.laws_answers.proofs.laws.circles_are_not_kept.Goals as goal

pub returns : goal.returns
returns c = circles
