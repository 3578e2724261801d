-- What the words of commands on pools of workers ask fits.
use Rattle.std.proofs.Common.{◌≡◌, ℕ, true, false, if◌then◌else◌, List, [], ◌∷◌, refl}
use Rattle.laws_serving.proofs.Cases.{by_flags, by_found, by_if}
use Rattle.laws_serving.proofs.Fitting.{Fits, FitsThen}
use Rattle.laws_serving.proofs.Fitting.{is_commanded}
use Rattle.tt_calls.specs.declared.pool_call.PoolCall.TheVariants as pool
use Rattle.tt_calls.specs.declared.pool_call.PoolCall.{PoolCall}
use Rattle.tt_calls.specs.declared.request.Request.TheVariants as ask
use Rattle.tt_command_tables.specs.Rows.{meaning_by}
use Rattle.tt_command_tables.specs.Usages.{bad_option, bad_value}
use Rattle.tt_command_tables.specs.declared.call.Call.{Call}
use Rattle.tt_command_tables.specs.declared.call.Then.TheVariants as after
use Rattle.tt_command_tables.specs.declared.call.Then.{Then}
use Rattle.tt_command_tables.specs.declared.flags.Flag.TheVariants.{Detached, NoWait}
use Rattle.tt_lists.specs.Reading.{split_of}
use Rattle.tt_lists.specs.declared.items.Split.TheVariants as split
use Rattle.tt_lists.specs.declared.items.Split.{Split}
use Rattle.tt_number.specs.Numerals.{whole_of}
use Rattle.tt_pool_commands.specs.Pools as pools
use Rattle.tt_pool_commands.specs.declared.command.PoolCommand.TheVariants as command
use Rattle.tt_pool_commands.specs.declared.command.PoolCommand.{PoolCommand}

by_number : (low high : ℕ) (word : List ℕ) (meaning : ℕ → Call) → ((number : ℕ) → Fits (meaning number)) → Fits (pools.by_number low high word meaning)
by_number low high word meaning each = by_found (pools.number_between low high (whole_of word)) meaning (bad_value word) each tt

by_most : (words : List (List ℕ)) → Fits (pools.by_most words)
by_most words = by_number 1 900 _ (pools.by_least words) by_least
  where
    by_idle_time : (most least : ℕ) → Fits (pools.by_idle_time words most least)
    by_idle_time most least = by_number 0 0 _ (λ idle. pools.new_pool words most least) (λ idle. refl)

    by_least : (most : ℕ) → Fits (pools.by_least words most)
    by_least most = by_number 0 most _ (pools.by_idle_time words most) (by_idle_time most)

on_jobs : (call : List (List ℕ) → PoolCall) (split : Split) (follow : Then) → ((jobs : List (List ℕ)) → FitsThen (ask.Pool (call jobs)) follow)
    → Fits (pools.on_jobs call split follow)
on_jobs call (split.Items jobs) follow each = each jobs
on_jobs call (split.Bad fault) follow each = tt

module _ (wrong : Call) (so : Fits wrong) where
  create : (words : List (List ℕ)) → Fits (pools.create wrong words)
  create words =
      by_found (pools.first_unknown words) bad_option (if pools.are_settings words then pools.by_most words else wrong) (λ option. tt)
      (by_if (pools.are_settings words) _ _ (by_most words) so)

  names : (words : List (List ℕ)) → Fits (pools.names wrong words)
  names [] = refl
  names words = so

  post_words : (options words : List (List ℕ)) → Fits (pools.post_words wrong options words)
  post_words options (id ∷ script ∷ []) = refl
  post_words options words = so

  post : (words : List (List ℕ)) → Fits (pools.post wrong words)
  post words = by_flags (Detached ∷ NoWait ∷ []) 2 words (pools.post_words wrong) post_words

  wait : (words : List (List ℕ)) → Fits (pools.wait wrong words)
  wait (id ∷ jobs ∷ []) = on_jobs (pool.Look id) (split_of jobs) _ (λ jobs. refl)
  wait (id ∷ jobs ∷ variable ∷ []) = on_jobs (pool.Look id) (split_of jobs) _ (λ jobs. refl)
  wait words = so

  cancel : (words : List (List ℕ)) → Fits (pools.cancel wrong words)
  cancel (id ∷ jobs ∷ []) = on_jobs (pool.Cancel id) (split_of jobs) after.Value (λ jobs. refl)
  cancel (id ∷ jobs ∷ variable ∷ []) = on_jobs (pool.Cancel id) (split_of jobs) (after.Store variable) (λ jobs. refl)
  cancel words = so

  get : (words : List (List ℕ)) → Fits (pools.get wrong words)
  get (id ∷ job ∷ []) = refl
  get words = so

  of_pool : (call : List ℕ → PoolCall) → ((id : List ℕ) → is_commanded (ask.Pool (call id)) ≡ true) → (words : List (List ℕ))
      → Fits (pools.of_pool call wrong words)
  of_pool call ordinary (id ∷ []) = ordinary id
  of_pool call ordinary words = so

pub pool_fits : (command : PoolCommand) (me : ℕ) (words : List (List ℕ)) → Fits (meaning_by (pools.pool_row command) me words)
pool_fits command.Create me words = create _ tt words
pool_fits command.Names me words = names _ tt words
pool_fits command.Post me words = post _ tt words
pool_fits command.Wait me words = wait _ tt words
pool_fits command.Cancel me words = cancel _ tt words
pool_fits command.Get me words = get _ tt words
pool_fits command.Preserve me words = of_pool _ tt pool.Preserve (λ id. refl) words
pool_fits command.Release me words = of_pool _ tt pool.Release (λ id. refl) words
pool_fits command.Suspend me words = of_pool _ tt (pools.suspension true) (λ id. refl) words
pool_fits command.Resume me words = of_pool _ tt (pools.suspension false) (λ id. refl) words
