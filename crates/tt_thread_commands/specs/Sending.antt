-- What the words of thread::send and thread::release mean (thread(n)).
use Rattle.std.specs.Prelude.{ℕ, ◌^◌, Bool, true, false, ◌&&◌, not, ◌==◌, nat_lt, List, [], ◌∷◌, codes, Option, Some}
use Rattle.std.specs.Prelude.{None, if◌then◌else◌}
use Rattle.tt_calls.specs.declared.request.Mode.TheVariants.{Waits, Later}
use Rattle.tt_calls.specs.declared.request.Request.TheVariants as ask
use Rattle.tt_command_tables.specs.Flags.{by_options, has}
use Rattle.tt_command_tables.specs.declared.call.Call.{Call}
use Rattle.tt_command_tables.specs.declared.call.Call.TheVariants.{Ask, Bad, Here}
use Rattle.tt_command_tables.specs.declared.call.Here.TheVariants as here
use Rattle.tt_command_tables.specs.declared.call.Then.{Then}
use Rattle.tt_command_tables.specs.declared.call.Then.TheVariants as after
use Rattle.tt_command_tables.specs.declared.flags.Flag.TheVariants.{Async, Head, Wait}
use Rattle.tt_ids.specs.Ids.{id_named}
use Rattle.tt_ids.specs.declared.id.IdKind.TheVariants as kind

-- no thread has the empty id
abbrev pub by_id : (meaning : List ℕ → Call) → (id : List ℕ) → Call
by_id meaning [] = Bad (codes "thread \"\" does not exist")
by_id meaning (b ∷ id) = meaning (b ∷ id)

-- an id is that of a thread
abbrev pub is_id_of : (me : ℕ) → (id : List ℕ) → Bool
is_id_of me id = elim (id_named kind.Thread id) [ Some number ↦ number == me | None ↦ false ]

-- thread::send: a script to oneself is evaluated in place, but with -async
abbrev pub sends : (me : ℕ) → (options : List (List ℕ)) → (id script : List ℕ) → (variable : Option (List ℕ)) → Call
sends me options id script variable =
    if has Async options
    then Ask (ask.Send id script Later variable (has Head options)) after.Value else
    if is_id_of me id
    then Here (here.Direct script variable)
    else Ask (ask.Send id script Waits None (has Head options)) (after.AwaitResult variable)

abbrev pub send_words : (me : ℕ) → (wrong : Call) → (options words : List (List ℕ)) → Call
send_words me wrong options (id ∷ script ∷ []) = sends me options id script None
send_words me wrong options (id ∷ script ∷ variable ∷ []) = sends me options id script (Some variable)
send_words me wrong options words = wrong

abbrev pub send : (me : ℕ) → (wrong : Call) → (words : List (List ℕ)) → Call
send me wrong words = by_options (Async ∷ Head ∷ []) 2 words (send_words me wrong)

-- the number that an id gives another thread, of 32 bits
abbrev pub other_number : (me : ℕ) → (number : ℕ) → Option ℕ
other_number me number = if nat_lt number (2 ^ 32) && not (number == me) then Some number else None

abbrev pub other_thread : (me : ℕ) → (id : List ℕ) → Option ℕ
other_thread me id = elim (id_named kind.Thread id) [ Some number ↦ other_number me number | None ↦ None ]

-- thread::release: with -wait the end of another thread is waited for
abbrev pub awaits : Option ℕ → Then
awaits (Some thread) = after.AwaitEnd (Some thread)
awaits None = after.Value

abbrev pub after_release : (me : ℕ) → (waits : Bool) → (id : List ℕ) → Then
after_release me true id = awaits (other_thread me id)
after_release me false id = after.Value

abbrev pub releases : (me : ℕ) → (options : List (List ℕ)) → (id : List ℕ) → Call
releases me options id =
    by_id (λ id. Ask (ask.Release id) (after_release me (has Wait options) id)) id

abbrev pub release_words : (me : ℕ) → (wrong : Call) → (options words : List (List ℕ)) → Call
release_words me wrong options [] = Ask (ask.Release []) after.Value
release_words me wrong options (id ∷ []) = releases me options id
release_words me wrong options words = wrong

abbrev pub release : (me : ℕ) → (wrong : Call) → (words : List (List ℕ)) → Call
release me wrong words = by_options (Wait ∷ []) 0 words (release_words me wrong)
