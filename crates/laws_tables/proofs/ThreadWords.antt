-- What the words of commands of threads ask is fine.
use Rattle.std.proofs.Common.{◌≡◌, ℕ, ℤ, Bool, true, false, if◌then◌else◌, List, [], ◌∷◌, Option, Some, None, refl}
use Rattle.std.specs.Prelude.{Result, Ok, Err}
use Rattle.laws_tables.proofs.Configuring.{configured}
use Rattle.laws_tables.proofs.Words.{Asks, by_either, by_flags}
use Rattle.tt_calls.specs.declared.request.Mode.TheVariants.{Waits}
use Rattle.tt_calls.specs.declared.request.Request.TheVariants as ask
use Rattle.tt_command_tables.specs.Flags.{has}
use Rattle.tt_command_tables.specs.Rows.{meaning_by}
use Rattle.tt_command_tables.specs.Usages.{bad_option, bad_value}
use Rattle.tt_command_tables.specs.declared.call.Call.TheVariants.{Ask, Here}
use Rattle.tt_command_tables.specs.declared.call.Call.{Call}
use Rattle.tt_command_tables.specs.declared.call.Here.TheVariants as here
use Rattle.tt_command_tables.specs.declared.call.Then.TheVariants as after
use Rattle.tt_command_tables.specs.declared.flags.Flag.TheVariants.{Async, Head, Joinable, Preserved, Wait}
use Rattle.tt_number.specs.Numerals.{whole_of}
use Rattle.tt_number.specs.declared.numeral.NumberFault.{NumberFault}
use Rattle.tt_thread_commands.specs.Configuring as configuring
use Rattle.tt_thread_commands.specs.Sending as sending
use Rattle.tt_thread_commands.specs.Threads as threads
use Rattle.tt_thread_commands.specs.declared.command.ThreadCommand.TheVariants as thread
use Rattle.tt_thread_commands.specs.declared.command.ThreadCommand.{ThreadCommand}

module _ (me : ℕ) where
  -- a script to oneself that is waited for is not sent
  sends : (options : List (List ℕ)) (id script : List ℕ) (variable : Option (List ℕ)) → Asks me (sending.sends me options id script variable)
  sends options id script variable = by_either me (has Async options) _ _ tt (go (sending.is_id_of me id) refl)
    where
      go : (b : Bool) → sending.is_id_of me id ≡ b
          → Asks me (if b then Here (here.Direct script variable) else Ask (ask.Send id script Waits None (has Head options)) (after.AwaitResult variable))
      go true is = tt
      go false is = (refl, is)

  configure_words : (wrong : Call) → Asks me wrong → (id : List ℕ) (words : List (List ℕ)) → Asks me (configuring.configure_words wrong id words)
  configure_words wrong so id words = go (configuring.first_unknown words) refl
    where
      last : configuring.first_unknown words ≡ None → configuring.is_number words ≡ true → (bad : Option (List ℕ)) → configuring.first_bad words ≡ bad
          → Asks me (elim bad [ Some value ↦ bad_value value | None ↦ Ask (ask.Configure id (configuring.setting_words words)) after.Value ])
      last known number (Some value) is = tt
      last known number None is = configured words known number is

      next : configuring.first_unknown words ≡ None → (b : Bool) → configuring.is_number words ≡ b
          → Asks me (if b then configuring.configures id words else wrong)
      next known true is = last known is (configuring.first_bad words) refl
      next known false is = so

      go : (unknown : Option (List ℕ)) → configuring.first_unknown words ≡ unknown
          → Asks me (elim unknown [
            | Some option ↦ bad_option option
            | None ↦ if configuring.is_number words then configuring.configures id words else wrong
          ])
      go (Some option) is = tt
      go None is = next is (configuring.is_number words) refl

  ends : (code : List ℕ) (number : Result ℤ NumberFault) → Asks me (threads.ends code number)
  ends code (Ok number) = tt
  ends code (Err fault) = tt

  exits : (code : List ℕ) (number : Result ℤ NumberFault) → Asks me (threads.exits code number)
  exits code (Ok number) = tt
  exits code (Err fault) = tt

  module _ (wrong : Call) (so : Asks me wrong) where
    vwait : (words : List (List ℕ)) → Asks me (threads.vwait wrong words)
    vwait (name ∷ []) = tt
    vwait words = so

    update : (words : List (List ℕ)) → Asks me (threads.update wrong words)
    update [] = tt
    update words = so

    wait : (words : List (List ℕ)) → Asks me (threads.wait wrong words)
    wait [] = tt
    wait words = so

    create_words : (options words : List (List ℕ)) → Asks me (threads.create_words wrong options words)
    create_words options [] = tt
    create_words options (script ∷ []) = tt
    create_words options words = so

    create : (words : List (List ℕ)) → Asks me (threads.create wrong words)
    create words = by_flags me (Joinable ∷ Preserved ∷ []) 0 words (threads.create_words wrong) create_words

    preserve : (words : List (List ℕ)) → Asks me (threads.preserve wrong words)
    preserve [] = tt
    preserve ([] ∷ []) = tt
    preserve ((b ∷ id) ∷ []) = tt
    preserve words = so

    release_words : (options words : List (List ℕ)) → Asks me (sending.release_words me wrong options words)
    release_words options [] = tt
    release_words options ([] ∷ []) = tt
    release_words options ((b ∷ id) ∷ []) = tt
    release_words options words = so

    release : (words : List (List ℕ)) → Asks me (sending.release me wrong words)
    release words = by_flags me (Wait ∷ []) 0 words (sending.release_words me wrong) release_words

    id : (words : List (List ℕ)) → Asks me (threads.id me wrong words)
    id [] = tt
    id words = so

    names : (words : List (List ℕ)) → Asks me (threads.names wrong words)
    names [] = tt
    names words = so

    exists : (words : List (List ℕ)) → Asks me (threads.exists wrong words)
    exists (id ∷ []) = tt
    exists words = so

    join : (words : List (List ℕ)) → Asks me (threads.join wrong words)
    join (id ∷ []) = tt
    join words = so

    configure : (words : List (List ℕ)) → Asks me (configuring.configure wrong words)
    configure [] = so
    configure (id ∷ words) = configure_words wrong so id words

    errorproc : (words : List (List ℕ)) → Asks me (threads.errorproc wrong words)
    errorproc [] = tt
    errorproc (name ∷ []) = tt
    errorproc words = so

    send_words : (options words : List (List ℕ)) → Asks me (sending.send_words me wrong options words)
    send_words options (id ∷ script ∷ []) = sends options id script None
    send_words options (id ∷ script ∷ variable ∷ []) = sends options id script (Some variable)
    send_words options words = so

    send : (words : List (List ℕ)) → Asks me (sending.send me wrong words)
    send words = by_flags me (Async ∷ Head ∷ []) 2 words (sending.send_words me wrong) send_words

    broadcast : (words : List (List ℕ)) → Asks me (threads.broadcast wrong words)
    broadcast (script ∷ []) = tt
    broadcast words = so

    thread_exit : (words : List (List ℕ)) → Asks me (threads.thread_exit wrong words)
    thread_exit [] = tt
    thread_exit (code ∷ []) = ends code (whole_of code)
    thread_exit words = so

    exit : (words : List (List ℕ)) → Asks me (threads.exit wrong words)
    exit [] = tt
    exit (code ∷ []) = exits code (whole_of code)
    exit words = so

  pub thread_asks : (command : ThreadCommand) (words : List (List ℕ)) → Asks me (meaning_by (threads.thread_row command) me words)
  thread_asks thread.Vwait words = vwait _ tt words
  thread_asks thread.Update words = update _ tt words
  thread_asks thread.Wait words = wait _ tt words
  thread_asks thread.Create words = create _ tt words
  thread_asks thread.Preserve words = preserve _ tt words
  thread_asks thread.Release words = release _ tt words
  thread_asks thread.Id words = id _ tt words
  thread_asks thread.Names words = names _ tt words
  thread_asks thread.Exists words = exists _ tt words
  thread_asks thread.Join words = join _ tt words
  thread_asks thread.Configure words = configure _ tt words
  thread_asks thread.ErrorProc words = errorproc _ tt words
  thread_asks thread.Send words = send _ tt words
  thread_asks thread.Broadcast words = broadcast _ tt words
  thread_asks thread.ThreadExit words = thread_exit _ tt words
  thread_asks thread.Exit words = exit _ tt words
