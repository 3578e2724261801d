use Rattle.std.proofs.Common.{length, ◌≡◌}
use Rattle.tt_thread_commands.specs.Configuring.{first_bad}
use Rattle.tt_thread_commands.proofs.configuring.first_bad.Given as goal

abbrev pub invariant-loop-rest : goal.invariant-loop-rest
invariant-loop-rest l = first_bad l.words ≡ first_bad l.rest

abbrev pub decreases-loop-rest : goal.decreases-loop-rest
decreases-loop-rest l = length l.rest
