use Rattle.std.proofs.Common.{refl}
use Rattle.tt_session.proofs.DebugLemmas.{nothing-shown}
use Rattle.tt_session.proofs.debugging.show.Goals as goal

pub returns-in_default : goal.returns-in_default
returns-in_default g c = (nothing-shown g.K.Sink _ _ _ _, refl)
