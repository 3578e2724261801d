use Rattle.std.proofs.Common.{◌≡◌, ◌-◌, ◌≤◌, length, drop}
use Rattle.tt_lists.specs.Reading.{front_run, stops}
use Rattle.tt_lists.proofs.Runs.{joined}
use Rattle.tt_lists.proofs.run.read_run.Given as goal

abbrev pub invariant-loop-at : goal.invariant-loop-at
invariant-loop-at l = record {
  within : l.at ≤ length l.text;
  run : front_run (stops l.stop) 0 l.text ≡ joined l.value l.at (front_run (stops l.stop) 0 (drop l.at l.text));
}

abbrev pub decreases-loop-at : goal.decreases-loop-at
decreases-loop-at l = length l.text - l.at
