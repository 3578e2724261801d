use Rattle.std.proofs.Common.{◌<◌, ◌≤◌, ℕ, IsFalse}
use Rattle.tt_core.specs.inside.Crew.{is_ready}
use Rattle.tt_core.proofs.system.first_ready.Given as goal

abbrev pub invariant-loop-number : goal.invariant-loop-number
invariant-loop-number g l =
    (l.fn.from ≤ l.number)
    × ((number : ℕ) → l.fn.from ≤ number → number < l.number → IsFalse (is_ready l.fn.desk l.fn.crew number))
