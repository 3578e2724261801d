use Rattle.std.proofs.Common.{ℕ, ◌-◌, ◌<◌, ◌≤◌, length}
use Rattle.tt_strings.specs.inside.Whole.{IsWholeAt}
use Rattle.tt_strings.proofs.finding.first_whole.Given as goal

abbrev pub invariant-starts : goal.invariant-starts
invariant-starts l = record {
  within : l.from ≤ length l.text;
  none : (k : ℕ) → k < l.from → ¬ IsWholeAt l.needle l.text k;
}

abbrev pub decreases-starts : goal.decreases-starts
decreases-starts l = length l.text - l.from
