use Rattle.std.proofs.Common.{◌≡◌, ◌++◌, take}
use Rattle.tt_value.proofs.values.push_values.Given as goal

abbrev pub invariant-loop-text : goal.invariant-loop-text
invariant-loop-text l = l.values.items ≡ l.fn.values.items ++ take l.text-index l.texts
