-- What the words of commands on locks ask is fine.
use Rattle.std.proofs.Common.{ℕ, List, [], ◌∷◌, Option, Some, None, refl}
use Rattle.laws_tables.proofs.Asked.{IsFineLock}
use Rattle.laws_tables.proofs.Words.{Asks, by_either, by_flags, by_table}
use Rattle.tt_calls.specs.declared.lock_call.Kind.{Kind}
use Rattle.tt_calls.specs.declared.lock_call.LockCall.{LockCall}
use Rattle.tt_command_tables.specs.Flags.{is_meant}
use Rattle.tt_command_tables.specs.Rows.{meaning_by}
use Rattle.tt_command_tables.specs.Usages.{bad_option}
use Rattle.tt_command_tables.specs.declared.call.Call.{Call}
use Rattle.tt_command_tables.specs.declared.call.Then.{Then}
use Rattle.tt_command_tables.specs.declared.flags.Flag.TheVariants.{Recursive}
use Rattle.tt_lock_commands.specs.Locks as locks
use Rattle.tt_lock_commands.specs.declared.command.LockCommand.TheVariants as lock
use Rattle.tt_lock_commands.specs.declared.command.LockCommand.{LockCommand}

module _ (me : ℕ) where
  on_mutex : (id : List ℕ) (call : List ℕ → LockCall) (follow : Then) → ((b : ℕ) (id : List ℕ) → IsFineLock (call (b ∷ id))) →
      Asks me (locks.on_mutex id (call id) follow)
  on_mutex [] call follow fine = tt
  on_mutex (b ∷ id) call follow fine = fine b id

  holds : (id : Option (List ℕ)) (args : List (List ℕ)) → Asks me (locks.holds id args)
  holds None args = tt
  holds (Some []) args = tt
  holds (Some (b ∷ id)) args = tt

  module _ (wrong : Call) (so : Asks me wrong) where
    of_mutex : (call : List ℕ → LockCall) → ((b : ℕ) (id : List ℕ) → IsFineLock (call (b ∷ id))) → (words : List (List ℕ)) →
        Asks me (locks.of_mutex call wrong words)
    of_mutex call fine (id ∷ []) = on_mutex id call _ fine
    of_mutex call fine words = so

    of_condition : (call : List ℕ → LockCall) → ((id : List ℕ) → IsFineLock (call id)) → (words : List (List ℕ)) →
        Asks me (locks.of_condition call wrong words)
    of_condition call fine (id ∷ []) = fine id
    of_condition call fine words = so

    create : (which : Kind) (words : List (List ℕ)) → Asks me (locks.create which wrong words)
    create which [] = tt
    create which words = so

    create_mutex : (words : List (List ℕ)) → Asks me (locks.create_mutex wrong words)
    create_mutex words = by_flags me (Recursive ∷ []) 0 words (locks.mutex_words wrong) (λ options words. create (locks.mutex_kind options) words)

    wait : (words : List (List ℕ)) → Asks me (locks.wait wrong words)
    wait (cond ∷ [] ∷ []) = tt
    wait (cond ∷ (b ∷ id) ∷ []) = tt
    wait words = so

    eval_from : (id : Option (List ℕ)) (words : List (List ℕ)) → Asks me (locks.eval_from id wrong words)
    eval_from id [] = so
    eval_from id (arg ∷ []) = holds id (arg ∷ [])
    eval_from id (word ∷ next ∷ words) =
        by_either me (locks.is_lock word) _ _ (eval_from (Some next) words)
        (by_either me (is_meant word) _ _ tt (holds id (word ∷ next ∷ words)))

    evals : (words : List (List ℕ)) → Asks me (locks.eval wrong words)
    unfolding locks.eval
    evals words = eval_from None words

  module _ (wrong : Call) (so : Asks me wrong) where
    mutexes : (words : List (List ℕ)) → Asks me (locks.mutexes me wrong words)
    mutexes [] = so
    mutexes (sub ∷ words) =
        by_table me locks.mutex_commands (λ one. (locks.mutex_row one).name) sub (λ one. meaning_by (locks.mutex_row one) me words) (bad_option sub) (
          create_mutex _ tt words,
          (of_mutex _ tt _ (λ b id. refl) words, (of_mutex _ tt _ (λ b id. tt) words, (of_mutex _ tt _ (λ b id. tt) words, tt))),
        ) tt

    read_writes : (words : List (List ℕ)) → Asks me (locks.read_writes me wrong words)
    read_writes [] = so
    read_writes (sub ∷ words) =
        by_table me locks.read_write_commands (λ one. (locks.read_write_row one).name) sub (λ one. meaning_by (locks.read_write_row one) me words)
        (bad_option sub) (
          create _ tt _ words,
          (
            of_mutex _ tt _ (λ b id. refl) words,
            (of_mutex _ tt _ (λ b id. tt) words, (of_mutex _ tt _ (λ b id. tt) words, (of_mutex _ tt _ (λ b id. tt) words, tt))),
          ),
        ) tt

    conditions : (words : List (List ℕ)) → Asks me (locks.conditions me wrong words)
    conditions [] = so
    conditions (sub ∷ words) =
        by_table me locks.condition_commands (λ one. (locks.condition_row one).name) sub (λ one. meaning_by (locks.condition_row one) me words)
        (bad_option sub)
        (create _ tt _ words, (of_condition _ tt _ (λ id. refl) words, (of_condition _ tt _ (λ id. tt) words, (wait _ tt words, tt)))) tt

  pub lock_asks : (command : LockCommand) (words : List (List ℕ)) → Asks me (meaning_by (locks.lock_row command) me words)
  lock_asks lock.Mutex words = mutexes _ tt words
  lock_asks lock.ReadWrite words = read_writes _ tt words
  lock_asks lock.Condition words = conditions _ tt words
  lock_asks lock.Eval words = evals _ tt words
