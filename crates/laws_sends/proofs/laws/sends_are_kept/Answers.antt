use Rattle.laws_sends.proofs.Kept.{sends_kept}
use Rattle.laws_sends.proofs.laws.sends_are_kept.Goals as goal

pub returns : goal.returns
returns c = sends_kept
