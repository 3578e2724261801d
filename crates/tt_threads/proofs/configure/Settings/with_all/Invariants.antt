use Rattle.std.proofs.Common.{◌≡◌, length}
use Rattle.tt_threads.specs.Requests.{with_settings}
use Rattle.tt_threads.proofs.configure.Settings.with_all.Given as goal

abbrev pub invariant-loop-option : goal.invariant-loop-option
invariant-loop-option l = with_settings l.rest l.settings ≡ with_settings l.fn.words l.fn.self

abbrev pub decreases-loop-option : goal.decreases-loop-option
decreases-loop-option l = length l.rest
