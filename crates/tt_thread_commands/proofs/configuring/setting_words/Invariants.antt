use Rattle.std.proofs.Common.{length, ◌≡◌, ◌++◌}
use Rattle.tt_thread_commands.specs.Configuring.{setting_words}
use Rattle.tt_thread_commands.proofs.configuring.setting_words.Given as goal

abbrev pub invariant-loop-rest : goal.invariant-loop-rest
invariant-loop-rest l = l.settings ++ setting_words l.rest ≡ setting_words l.words

abbrev pub decreases-loop-rest : goal.decreases-loop-rest
decreases-loop-rest l = length l.rest
