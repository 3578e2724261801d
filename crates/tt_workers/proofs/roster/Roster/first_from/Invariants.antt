use Rattle.std.proofs.Common.{◌<◌, ◌≤◌, ℕ, IsFalse}
use Rattle.tt_workers.specs.inside.Places.{can_go}
use Rattle.tt_workers.proofs.roster.Roster.first_from.Given as goal

abbrev pub invariant-loop-number : goal.invariant-loop-number
invariant-loop-number g l = (number : ℕ) → l.from ≤ number → number < l.number → IsFalse (can_go l.desk l.self number)
