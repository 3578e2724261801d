use Rattle.std.proofs.Common.{◌≤◌, [], length}
use Rattle.tt_format.specs.Formatting.{IsFormatted, longest}
use Rattle.tt_format.specs.declared.Formatted.{Formatted}
use Rattle.tt_format.proofs.format.Given as goal

abbrev pub invariant-pieces : goal.invariant-pieces
invariant-pieces l = record {
  goes_on : (answer : Formatted) → IsFormatted l.made.items l.left l.later answer → IsFormatted [] l.template l.values answer;
  short : length l.made.items ≤ longest;
}

abbrev pub decreases-pieces : goal.decreases-pieces
decreases-pieces l = length l.left
