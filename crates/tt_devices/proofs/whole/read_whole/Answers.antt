use Rattle.tt_devices.proofs.StreamLemmas.{loses-more}
use Rattle.tt_devices.proofs.whole.read_whole.Goals as goal

pub returns-then-is_err-clause-part : goal.returns-then-is_err-clause-part
returns-then-is_err-clause-part g c = loses-more _ _ _ _ _ c.loop-chunk.invariant.0 c.in-Ok.ensures.taken.0
