use Rattle.std.proofs.Common.{◌≡◌, ◌+◌, length}
use Rattle.tt_exprs.specs.Tokens.{digit_count}
use Rattle.tt_exprs.proofs.numbers.run.Given as goal

abbrev pub invariant-loop-rest : goal.invariant-loop-rest
invariant-loop-rest l = record {
  within : l.n + length l.rest ≡ length l.text;
  count : l.n + digit_count l.base l.rest ≡ digit_count l.base l.text;
}

abbrev pub decreases-loop-rest : goal.decreases-loop-rest
decreases-loop-rest l = length l.rest
