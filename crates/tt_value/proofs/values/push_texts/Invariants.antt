use Rattle.std.proofs.Common.{◌≡◌, ◌++◌, take}
use Rattle.tt_value.proofs.values.push_texts.Given as goal

abbrev pub invariant-loop-value : goal.invariant-loop-value
invariant-loop-value l = l.texts.items ≡ l.fn.texts.items ++ take l.value-index l.values
