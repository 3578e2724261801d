use Rattle.std.proofs.Common.{◌≡◌, ◌≤◌, ◌-◌, [], length, drop}
use Rattle.tt_exprs.specs.inside.Cutting.{comes_to}
use Rattle.tt_exprs.specs.Parsing.{wants}
use Rattle.tt_exprs.specs.inside.Stacks.{plain_state}
use Rattle.tt_exprs.specs.Tokens.{tokens}
use Rattle.tt_exprs.proofs.reading.read_tokens.Given as goal

abbrev pub invariant-loop-at : goal.invariant-loop-at
invariant-loop-at l = record {
  within : l.at ≤ length l.text;
  read : comes_to (plain_state l.state) (tokens 0 (drop l.at l.text)) ≡ comes_to (wants []) (tokens 0 l.text);
}

abbrev pub decreases-loop-at : goal.decreases-loop-at
decreases-loop-at l = length l.text - l.at
