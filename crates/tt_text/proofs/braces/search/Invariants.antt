use Rattle.std.proofs.Common.{◌≡◌, ◌+◌, ◌-◌, ◌≤◌, List, ◌++◌, ℕ, length, drop, false}
use Rattle.tt_text.specs.Braces.{closing_brace, further, matching_brace}
use Rattle.tt_text.proofs.braces.search.Given as goal

abbrev pub invariant-loop-at : goal.invariant-loop-at
invariant-loop-at l = record {
  within : l.at ≤ length l.text + 1;
  depth : l.depth ≤ l.at;
  place : (more : List ℕ) → matching_brace (l.text ++ more) ≡ further l.at (closing_brace false l.depth (drop l.at (l.text ++ more)));
}

abbrev pub decreases-loop-at : goal.decreases-loop-at
decreases-loop-at l = length l.text + 1 - l.at
