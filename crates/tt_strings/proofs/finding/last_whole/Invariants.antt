use Rattle.std.proofs.Common.{ℕ, ◌+◌, ◌<◌, ◌≤◌, length}
use Rattle.tt_strings.specs.inside.Whole.{IsWholeAt}
use Rattle.tt_strings.proofs.finding.last_whole.Given as goal

abbrev pub invariant-starts : goal.invariant-starts
invariant-starts l = record {
  within : l.end ≤ length l.text;
  none : (k : ℕ) → l.end < k + length l.needle → ¬ IsWholeAt l.needle l.text k;
}

abbrev pub decreases-starts : goal.decreases-starts
decreases-starts l = l.end
