use Rattle.std.proofs.Common.{◌≡◌, ◌-◌, ◌<◌, ◌≤◌, length, take, drop, false}
use Rattle.tt_text.specs.Braces.{closing_brace, further}
use Rattle.tt_script.proofs.Joining.{IsPlain}
use Rattle.tt_script.proofs.braces.closing_brace.Given as goal

abbrev pub invariant-loop-at : goal.invariant-loop-at
invariant-loop-at l = record {
  begun : l.from ≤ l.at;
  within : l.at ≤ length l.text;
  depth : l.depth ≤ l.at;
  plain : l.joins ≡ false → l.at < length l.text → IsPlain (take (l.at - l.from) (drop l.from l.text));
  place : further l.from (closing_brace false 0 (drop l.from l.text)) ≡ further l.at (closing_brace false l.depth (drop l.at l.text));
}

abbrev pub decreases-loop-at : goal.decreases-loop-at
decreases-loop-at l = length l.text - l.at
