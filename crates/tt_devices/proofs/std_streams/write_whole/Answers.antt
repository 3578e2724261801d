use Rattle.tt_devices.proofs.StreamLemmas.{put-more}
use Rattle.tt_devices.proofs.std_streams.write_whole.Goals as goal

pub loop-rest-preserved : goal.loop-rest-preserved
loop-rest-preserved g c = rw c.split_at.ensures.back (put-more _ _ _ _ _ _ c.loop-rest.invariant c.in_ok-count.ensures.put)
