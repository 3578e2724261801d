-- What the words of every command ask is fine.
use Rattle.std.proofs.Common.{ℕ, List, [], ◌∷◌, subst}
use Rattle.laws_tables.proofs.ChannelWords.{channel_asks}
use Rattle.laws_tables.proofs.LockWords.{lock_asks}
use Rattle.laws_tables.proofs.PoolWords.{pool_asks}
use Rattle.laws_tables.proofs.SharedWords.{shared_asks}
use Rattle.laws_tables.proofs.ThreadWords.{thread_asks}
use Rattle.laws_tables.proofs.Asked.{IsFine}
use Rattle.laws_tables.proofs.Words.{Asks, by_any, by_found}
use Rattle.laws_tables.specs.Refusals.{IsAsked}
use Rattle.tt_calls.specs.declared.request.Request.{Request}
use Rattle.tt_channel_commands.specs.Channels as channels
use Rattle.tt_command_tables.specs.Rows.{meaning_by}
use Rattle.tt_command_tables.specs.declared.call.Call.TheVariants.{Other}
use Rattle.tt_commands.specs.Calls.{call_of, channel_call, lock_call, pool_call, shared_call, thread_call}
use Rattle.tt_lock_commands.specs.Locks as locks
use Rattle.tt_pool_commands.specs.Pools as pools
use Rattle.tt_script.specs.Names.{plain_name}
use Rattle.tt_shared_commands.specs.Shared as shared_words
use Rattle.tt_thread_commands.specs.Threads as threads

module _ (me : ℕ) where
  named : (name : List ℕ) (words : List (List ℕ)) → Asks me (thread_call me name words)
  named name words =
      by_found me (threads.thread_command name) (λ one. meaning_by (threads.thread_row one) me words) (channel_call me name words)
      (λ one. thread_asks me one words)
      (by_found me (channels.channel_command name) (λ one. meaning_by (channels.channel_row one) me words) (shared_call me name words)
      (λ one. channel_asks me one words)
      (by_any me shared_words.shared_commands (λ one. (shared_words.shared_row one).name) name (λ one. shared_words.shared_meaning one name words)
      (lock_call me name words)
      (λ one is. shared_asks me one name is words)
      (by_found me (locks.lock_command name) (λ one. meaning_by (locks.lock_row one) me words) (pool_call me name words)
      (λ one. lock_asks me one words)
      (by_found me (pools.pool_command name) (λ one. meaning_by (pools.pool_row one) me words) Other
      (λ one. pool_asks me one words) tt))))

  command_asks : (words : List (List ℕ)) → Asks me (call_of words me)
  command_asks [] = tt
  command_asks (name ∷ words) = named (plain_name name) words

  pub asked_fine : (request : Request) → IsAsked me request → IsFine me request
  asked_fine request asked = subst (Asks me) asked.asks (command_asks asked.words)
