-- What the first two words of a list do where words are read by pairs.
use Rattle.std.proofs.Common.{◌≡◌, ◌≤◌, ℕ, ◌-◌, true, List, [], ◌∷◌, length, get_or, take, drop, Option, Some, rules}
use Rattle.std.proofs.Common.{arith}
use Rattle.std.proofs.lemmas.Grind.{common_steps}
use Rattle.tt_pool_commands.specs.Pools.{last_value, newer}
use Rattle.tt_pool_commands.specs.declared.making.Setting.{Setting}

pub setting_read :
    (setting : Setting) (value option next last : List ℕ) (words : List (List ℕ)) →
    2 ≤ length words →
    option ≡ get_or words 0 option →
    next ≡ get_or words 1 next →
    last ≡ newer setting value option next →
    last_value setting value words ≡ last_value setting last (take (length words - 2) (drop 2 words))
setting_read setting value option next last [] long first second chosen = search rules
setting_read setting value option next last (a ∷ []) long first second chosen = search (rules, long)
setting_read setting value option next last (a ∷ b ∷ later) long first second chosen = grind (arith, common_steps)
