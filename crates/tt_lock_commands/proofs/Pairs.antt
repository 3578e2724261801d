-- What the first two words of a list do where words are read by pairs.
use Rattle.std.proofs.Common.{◌≡◌, ◌≤◌, ℕ, ◌-◌, true, List, [], ◌∷◌, length, get_or, take, drop, Option, Some, rules}
use Rattle.std.proofs.Common.{arith}
use Rattle.std.proofs.lemmas.Grind.{common_steps}
use Rattle.tt_lock_commands.specs.Locks.{eval_from, is_lock}
use Rattle.tt_command_tables.specs.declared.call.Call.{Call}

pub lock_read :
    (id : Option (List ℕ)) (wrong : Call) (option value : List ℕ) (words : List (List ℕ)) →
    2 ≤ length words →
    option ≡ get_or words 0 option →
    value ≡ get_or words 1 value →
    is_lock option ≡ true →
    eval_from id wrong words ≡ eval_from (Some value) wrong (take (length words - 2) (drop 2 words))
lock_read id wrong option value [] long first second known = search rules
lock_read id wrong option value (a ∷ []) long first second known = search (rules, long)
lock_read id wrong option value (a ∷ b ∷ later) long first second known = grind (arith, common_steps)
