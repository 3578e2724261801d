-- What the words of commands of threads ask fits.
use Rattle.std.proofs.Common.{◌≡◌, ℕ, Bool, true, false, if◌then◌else◌, ℤ, List, [], ◌∷◌, Option, Some, None, refl}
use Rattle.std.specs.Prelude.{Result, Ok, Err}
use Rattle.laws_serving.proofs.Cases.{by_flags, by_found, by_if}
use Rattle.laws_serving.proofs.Fitting.{Fits, FitsThen}
use Rattle.laws_serving.proofs.Fitting.{is_commanded}
use Rattle.tt_calls.specs.declared.request.Request.TheVariants as ask
use Rattle.tt_calls.specs.declared.request.Request.{Request}
use Rattle.tt_command_tables.specs.Flags.{has}
use Rattle.tt_command_tables.specs.Rows.{meaning_by}
use Rattle.tt_command_tables.specs.Usages.{bad_option, bad_value}
use Rattle.tt_command_tables.specs.declared.call.Call.TheVariants.{Ask}
use Rattle.tt_command_tables.specs.declared.call.Call.{Call}
use Rattle.tt_command_tables.specs.declared.call.Then.TheVariants as after
use Rattle.tt_command_tables.specs.declared.flags.Flag.TheVariants.{Async, Head, Joinable, Preserved, Wait}
use Rattle.tt_number.specs.Numerals.{whole_of}
use Rattle.tt_number.specs.declared.numeral.NumberFault.{NumberFault}
use Rattle.tt_thread_commands.specs.Configuring as configuring
use Rattle.tt_thread_commands.specs.Sending as sending
use Rattle.tt_thread_commands.specs.Threads as threads
use Rattle.tt_thread_commands.specs.declared.command.ThreadCommand.TheVariants as thread
use Rattle.tt_thread_commands.specs.declared.command.ThreadCommand.{ThreadCommand}

sends : (me : ℕ) (options : List (List ℕ)) (id script : List ℕ) (variable : Option (List ℕ)) → Fits (sending.sends me options id script variable)
sends me options id script variable = by_if (has Async options) _ _ refl (by_if (sending.is_id_of me id) _ _ tt refl)

after_awaits : (request : Request) → is_commanded request ≡ true → (found : Option ℕ) → FitsThen request (sending.awaits found)
after_awaits request is None = is
after_awaits request is (Some target) = is

after_release : (request : Request) → is_commanded request ≡ true → (me : ℕ) (waits : Bool) (id : List ℕ)
    → FitsThen request (sending.after_release me waits id)
after_release request is me true id = after_awaits request is (sending.other_thread me id)
after_release request is me false id = is

configures : (id : List ℕ) (words : List (List ℕ)) → Fits (configuring.configures id words)
configures id words =
    by_found (configuring.first_bad words) bad_value (Ask (ask.Configure id (configuring.setting_words words)) after.Value) (λ value. tt) refl

ends : (code : List ℕ) (number : Result ℤ NumberFault) → Fits (threads.ends code number)
ends code (Ok number) = refl
ends code (Err fault) = tt

exits : (code : List ℕ) (number : Result ℤ NumberFault) → Fits (threads.exits code number)
exits code (Ok number) = refl
exits code (Err fault) = tt

module _ (wrong : Call) (so : Fits wrong) where
  vwait : (words : List (List ℕ)) → Fits (threads.vwait wrong words)
  vwait (name ∷ []) = tt
  vwait words = so

  update : (words : List (List ℕ)) → Fits (threads.update wrong words)
  update [] = tt
  update words = so

  wait : (words : List (List ℕ)) → Fits (threads.wait wrong words)
  wait [] = tt
  wait words = so

  create_words : (options words : List (List ℕ)) → Fits (threads.create_words wrong options words)
  create_words options [] = refl
  create_words options (script ∷ []) = refl
  create_words options words = so

  create : (words : List (List ℕ)) → Fits (threads.create wrong words)
  create words = by_flags (Joinable ∷ Preserved ∷ []) 0 words (threads.create_words wrong) create_words

  preserve : (words : List (List ℕ)) → Fits (threads.preserve wrong words)
  preserve [] = refl
  preserve ([] ∷ []) = tt
  preserve ((b ∷ id) ∷ []) = refl
  preserve words = so

  release_words : (me : ℕ) (options words : List (List ℕ)) → Fits (sending.release_words me wrong options words)
  release_words me options [] = refl
  release_words me options ([] ∷ []) = tt
  release_words me options ((b ∷ id) ∷ []) = after_release (ask.Release (b ∷ id)) refl me (has Wait options) (b ∷ id)
  release_words me options words = so

  release : (me : ℕ) (words : List (List ℕ)) → Fits (sending.release me wrong words)
  release me words = by_flags (Wait ∷ []) 0 words (sending.release_words me wrong) (release_words me)

  id : (me : ℕ) (words : List (List ℕ)) → Fits (threads.id me wrong words)
  id me [] = tt
  id me words = so

  names : (words : List (List ℕ)) → Fits (threads.names wrong words)
  names [] = refl
  names words = so

  exists : (words : List (List ℕ)) → Fits (threads.exists wrong words)
  exists (id ∷ []) = refl
  exists words = so

  join : (words : List (List ℕ)) → Fits (threads.join wrong words)
  join (id ∷ []) = refl
  join words = so

  configure : (words : List (List ℕ)) → Fits (configuring.configure wrong words)
  configure [] = so
  configure (id ∷ words) =
      by_found (configuring.first_unknown words) bad_option (if configuring.is_number words then configuring.configures id words else wrong) (λ option. tt)
      (by_if (configuring.is_number words) _ _ (configures id words) so)

  errorproc : (words : List (List ℕ)) → Fits (threads.errorproc wrong words)
  errorproc [] = refl
  errorproc (name ∷ []) = refl
  errorproc words = so

  send_words : (me : ℕ) (options words : List (List ℕ)) → Fits (sending.send_words me wrong options words)
  send_words me options (id ∷ script ∷ []) = sends me options id script None
  send_words me options (id ∷ script ∷ variable ∷ []) = sends me options id script (Some variable)
  send_words me options words = so

  send : (me : ℕ) (words : List (List ℕ)) → Fits (sending.send me wrong words)
  send me words = by_flags (Async ∷ Head ∷ []) 2 words (sending.send_words me wrong) (send_words me)

  broadcast : (words : List (List ℕ)) → Fits (threads.broadcast wrong words)
  broadcast (script ∷ []) = refl
  broadcast words = so

  thread_exit : (words : List (List ℕ)) → Fits (threads.thread_exit wrong words)
  thread_exit [] = refl
  thread_exit (code ∷ []) = ends code (whole_of code)
  thread_exit words = so

  exit : (words : List (List ℕ)) → Fits (threads.exit wrong words)
  exit [] = refl
  exit (code ∷ []) = exits code (whole_of code)
  exit words = so

pub thread_fits : (command : ThreadCommand) (me : ℕ) (words : List (List ℕ)) → Fits (meaning_by (threads.thread_row command) me words)
thread_fits thread.Vwait me words = vwait _ tt words
thread_fits thread.Update me words = update _ tt words
thread_fits thread.Wait me words = wait _ tt words
thread_fits thread.Create me words = create _ tt words
thread_fits thread.Preserve me words = preserve _ tt words
thread_fits thread.Release me words = release _ tt me words
thread_fits thread.Id me words = id _ tt me words
thread_fits thread.Names me words = names _ tt words
thread_fits thread.Exists me words = exists _ tt words
thread_fits thread.Join me words = join _ tt words
thread_fits thread.Configure me words = configure _ tt words
thread_fits thread.ErrorProc me words = errorproc _ tt words
thread_fits thread.Send me words = send _ tt me words
thread_fits thread.Broadcast me words = broadcast _ tt words
thread_fits thread.ThreadExit me words = thread_exit _ tt words
thread_fits thread.Exit me words = exit _ tt words
