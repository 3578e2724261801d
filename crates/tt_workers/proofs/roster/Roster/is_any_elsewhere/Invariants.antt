use Rattle.std.proofs.Common.{◌<◌, ℕ, IsFalse}
use Rattle.tt_calls.specs.Numbers.{at_number}
use Rattle.tt_workers.specs.inside.Rosters.{is_elsewhere_at}
use Rattle.tt_workers.proofs.roster.Roster.is_any_elsewhere.Given as goal

abbrev pub invariant-loop-number : goal.invariant-loop-number
invariant-loop-number l = (number : ℕ) → number < l.number → IsFalse (is_elsewhere_at l.pass (at_number l.self number))
