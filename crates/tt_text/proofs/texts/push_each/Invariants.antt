use Rattle.std.proofs.Common.{◌≡◌, ◌+◌, ◌++◌, take}
use Rattle.std.specs.Prelude.{vec_len, vec_capacity}
use Rattle.tt_text.proofs.texts.push_each.Given as goal

abbrev pub invariant-loop-text : goal.invariant-loop-text
invariant-loop-text l =
    (l.items.items ≡ l.fn.items.items ++ take l.text-index l.texts)
    × (vec_len l.items ≡ vec_len l.fn.items + l.text-index)
    × (vec_capacity l.items ≡ vec_capacity l.fn.items)
