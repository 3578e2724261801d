-- What the words of commands on pools of workers ask is fine.
use Rattle.std.proofs.Common.{◌≡◌, ◌&&◌, ℕ, ℤ, Bool, true, false, pos, negsuc, nat_le, if◌then◌else◌, List, [], ◌∷◌, Some, None, refl, arith}
use Rattle.std.proofs.lemmas.Bool.Decides.{nat_tests}
use Rattle.std.specs.Prelude.{Result, Ok, Err}
use Rattle.laws_tables.proofs.Asked.{IsFinePool}
use Rattle.laws_tables.proofs.Words.{Asks, by_either, by_flags, by_found}
use Rattle.tt_calls.specs.declared.pool_call.PoolCall.{PoolCall}
use Rattle.tt_calls.specs.declared.pool_call.PoolCall.TheVariants as pool
use Rattle.tt_command_tables.specs.Rows.{meaning_by}
use Rattle.tt_command_tables.specs.Usages.{bad_option, bad_value}
use Rattle.tt_command_tables.specs.declared.call.Call.{Call}
use Rattle.tt_command_tables.specs.declared.call.Then.TheVariants as after
use Rattle.tt_command_tables.specs.declared.call.Then.{Then}
use Rattle.tt_command_tables.specs.declared.flags.Flag.TheVariants.{Detached, NoWait}
use Rattle.tt_lists.specs.Reading.{split_of}
use Rattle.tt_lists.specs.declared.items.Split.TheVariants as split
use Rattle.tt_lists.specs.declared.items.Split.{Split}
use Rattle.tt_number.specs.Numerals.{whole_of}
use Rattle.tt_number.specs.declared.numeral.NumberFault.{NumberFault}
use Rattle.tt_pool_commands.specs.Pools as pools
use Rattle.tt_pool_commands.specs.declared.command.PoolCommand.TheVariants as command
use Rattle.tt_pool_commands.specs.declared.command.PoolCommand.{PoolCommand}
use Rattle.tt_pools.specs.Pools.{is_allowed}

module _ (me : ℕ) where
  -- a number lies between what it has to
  by_number : (low high : ℕ) (word : List ℕ) (meaning : ℕ → Call)
      → ((number : ℕ) → nat_le low number && nat_le number high ≡ true → Asks me (meaning number)) → Asks me (pools.by_number low high word meaning)
  by_number low high word meaning each = go (whole_of word)
    where
      either : (number : ℕ) (b : Bool) → nat_le low number && nat_le number high ≡ b
          → Asks me (elim (if b then Some number else None) [ Some number ↦ meaning number | None ↦ bad_value word ])
      either number true is = each number is
      either number false is = tt

      go : (read : Result ℤ NumberFault)
          → Asks me (elim (pools.number_between low high read) [
            | Some number ↦ meaning number
            | None ↦ bad_value word
          ])
      go (Ok (pos number)) = either number (nat_le low number && nat_le number high) refl
      go (Ok (negsuc number)) = tt
      go (Err fault) = tt

  allowed : (least most : ℕ) → nat_le 1 most && nat_le most 900 ≡ true → nat_le 0 least && nat_le least most ≡ true → is_allowed least most ≡ true
  allowed least most one two = grind (arith, nat_tests, one, two)

  by_most : (words : List (List ℕ)) → Asks me (pools.by_most words)
  by_most words =
      by_number 1 900 _ (pools.by_least words)
      (λ most small. by_number 0 most _ (pools.by_idle_time words most)
      (λ least less. by_number 0 0 _ (λ idle. pools.new_pool words most least) (λ idle none. allowed least most small less)))

  on_jobs : (call : List (List ℕ) → PoolCall) (split : Split) (follow : Then) → ((jobs : List (List ℕ)) → IsFinePool (call jobs)) →
      Asks me (pools.on_jobs call split follow)
  on_jobs call (split.Items jobs) follow each = each jobs
  on_jobs call (split.Bad fault) follow each = tt

  module _ (wrong : Call) (so : Asks me wrong) where
    create : (words : List (List ℕ)) → Asks me (pools.create wrong words)
    create words =
        by_found me (pools.first_unknown words) bad_option (if pools.are_settings words then pools.by_most words else wrong) (λ option. tt)
        (by_either me (pools.are_settings words) _ _ (by_most words) so)

    names : (words : List (List ℕ)) → Asks me (pools.names wrong words)
    names [] = tt
    names words = so

    post_words : (options words : List (List ℕ)) → Asks me (pools.post_words wrong options words)
    post_words options (id ∷ script ∷ []) = tt
    post_words options words = so

    post : (words : List (List ℕ)) → Asks me (pools.post wrong words)
    post words = by_flags me (Detached ∷ NoWait ∷ []) 2 words (pools.post_words wrong) post_words

    wait : (words : List (List ℕ)) → Asks me (pools.wait wrong words)
    wait (id ∷ jobs ∷ []) = on_jobs (pool.Look id) (split_of jobs) _ (λ jobs. tt)
    wait (id ∷ jobs ∷ variable ∷ []) = on_jobs (pool.Look id) (split_of jobs) _ (λ jobs. tt)
    wait words = so

    cancel : (words : List (List ℕ)) → Asks me (pools.cancel wrong words)
    cancel (id ∷ jobs ∷ []) = on_jobs (pool.Cancel id) (split_of jobs) after.Value (λ jobs. tt)
    cancel (id ∷ jobs ∷ variable ∷ []) = on_jobs (pool.Cancel id) (split_of jobs) (after.Store variable) (λ jobs. tt)
    cancel words = so

    get : (words : List (List ℕ)) → Asks me (pools.get wrong words)
    get (id ∷ job ∷ []) = tt
    get words = so

    of_pool : (call : List ℕ → PoolCall) → ((id : List ℕ) → IsFinePool (call id)) → (words : List (List ℕ)) → Asks me (pools.of_pool call wrong words)
    of_pool call fine (id ∷ []) = fine id
    of_pool call fine words = so

  pub pool_asks : (command : PoolCommand) (words : List (List ℕ)) → Asks me (meaning_by (pools.pool_row command) me words)
  pool_asks command.Create words = create _ tt words
  pool_asks command.Names words = names _ tt words
  pool_asks command.Post words = post _ tt words
  pool_asks command.Wait words = wait _ tt words
  pool_asks command.Cancel words = cancel _ tt words
  pool_asks command.Get words = get _ tt words
  pool_asks command.Preserve words = of_pool _ tt pool.Preserve (λ id. tt) words
  pool_asks command.Release words = of_pool _ tt pool.Release (λ id. tt) words
  pool_asks command.Suspend words = of_pool _ tt (pools.suspension true) (λ id. tt) words
  pool_asks command.Resume words = of_pool _ tt (pools.suspension false) (λ id. tt) words
