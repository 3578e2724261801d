use Rattle.std.proofs.Common.{◌-◌}
use Rattle.tt_search.proofs.hunt.Hunt.share.Given as goal

abbrev pub decreases-loop-run : goal.decreases-loop-run
decreases-loop-run l = l.end - l.run
