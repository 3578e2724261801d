use Rattle.std.proofs.Common.{◌-◌, length}
use Rattle.tt_session.proofs.along.next_along.Given as goal

abbrev pub decreases-loop-place : goal.decreases-loop-place
decreases-loop-place g l = length l.given.threads - l.place
