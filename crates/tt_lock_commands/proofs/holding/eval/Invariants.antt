use Rattle.std.proofs.Common.{length, ◌≡◌, None}
use Rattle.std.specs.Option.{option_copied}
use Rattle.tt_lock_commands.specs.Locks.{eval_from}
use Rattle.tt_command_tables.specs.Usages.{wrong_number}
use Rattle.tt_lock_commands.proofs.holding.eval.Given as goal

abbrev pub invariant-loop-rest : goal.invariant-loop-rest
invariant-loop-rest l =
    eval_from None (wrong_number l.usage) l.words ≡ eval_from (option_copied l.id) (wrong_number l.usage) l.rest

abbrev pub decreases-loop-rest : goal.decreases-loop-rest
decreases-loop-rest l = length l.rest
