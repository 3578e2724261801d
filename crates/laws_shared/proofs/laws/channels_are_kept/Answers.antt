use Rattle.laws_shared.proofs.KeptActions.{channels_kept}
use Rattle.laws_shared.proofs.laws.channels_are_kept.Goals as goal

pub returns : goal.returns
returns c = channels_kept
