-- What is put into pipes and what is taken out of them (puts(n), gets(n), chan(n)).
use Rattle.std.specs.Prelude.{◌≡◌, ℕ, Bool, false, List, [], ◌∷◌, ◌++◌, bytes_eq, Option, Some, None, IfSome}
use Rattle.std.specs.Prelude.{if◌then◌else◌}
use Rattle.std.specs.List.{flat_map}
use Rattle.tt_calls.specs.declared.chan_call.ChanCall.TheVariants as chan
use Rattle.tt_calls.specs.declared.reply.Reply.{Reply}
use Rattle.tt_calls.specs.declared.reply.Reply.TheVariants as reply
use Rattle.tt_calls.specs.declared.request.Request.{Request}
use Rattle.tt_calls.specs.declared.request.Request.TheVariants as ask
use Rattle.tt_chans.specs.Channels.{ChannelTable, channel_of}
use Rattle.tt_chans.specs.Lines.{has_line}
use Rattle.tt_chans.specs.declared.channel.Channel.{Channel}
use Rattle.tt_chans.specs.declared.channel.End.{End}
use Rattle.tt_chans.specs.declared.channel.End.TheVariants.{Reads, Writes}
use Rattle.laws_shared.specs.Actions.{Action, Moment, action_result, moments}
use Rattle.tt_shared.specs.State.{State}

-- the bytes that the read end of an id has; none if it was closed, or never made
abbrev pub bytes_of : End → Option (List ℕ)
bytes_of (Reads bytes ended) = Some bytes
bytes_of Writes = None

abbrev pub bytes_in : Option Channel → Option (List ℕ)
bytes_in None = None
bytes_in (Some channel) = bytes_of channel.end

abbrev pub bytes_at : ChannelTable → (id : List ℕ) → Option (List ℕ)
bytes_at table id = bytes_in (channel_of table id)

-- ---- puts ----

-- what a call that is answered puts into the read end of an id: the one that its channel names as the other end
abbrev pub bytes_into : (id bytes : List ℕ) → Option Channel → Reply → List ℕ
bytes_into id bytes (Some channel) reply.Go = if bytes_eq channel.other id then bytes else []
bytes_into id bytes found answered = []

abbrev pub call_puts : (id : List ℕ) → State → Request → Reply → List ℕ
call_puts id state (ask.Chan (chan.Put text bytes)) answered =
    bytes_into id bytes (channel_of state.channels text) answered
call_puts id state request answered = []

-- ---- gets ----

-- what it takes out: the line that is answered and its newline, if there was one
abbrev pub has_newline : Option (List ℕ) → Bool
has_newline None = false
has_newline (Some bytes) = has_line bytes

abbrev pub line_takes : (newline : Bool) → Reply → List ℕ
line_takes newline (reply.Line line) = if newline then line ++ 10 ∷ [] else line
line_takes newline answered = []

abbrev pub call_takes : (id : List ℕ) → State → Request → Reply → List ℕ
call_takes id state (ask.Chan (chan.GetLine text)) answered =
    if bytes_eq text id then line_takes (has_newline (bytes_at state.channels id)) answered else []
call_takes id state request answered = []

-- ---- lists of actions ----

abbrev pub action_puts : (id : List ℕ) → Moment → List ℕ
action_puts id moment =
    call_puts id moment.before moment.action.request (action_result moment.before moment.action).gives.reply

abbrev pub action_takes : (id : List ℕ) → Moment → List ℕ
action_takes id moment =
    call_takes id moment.before moment.action.request (action_result moment.before moment.action).gives.reply

-- all that was put into a read end, and all that was taken out of it
abbrev pub bytes_put : (id : List ℕ) → State → List Action → List ℕ
bytes_put id state actions = flat_map (action_puts id) (moments state actions)

abbrev pub bytes_taken : (id : List ℕ) → State → List Action → List ℕ
bytes_taken id state actions = flat_map (action_takes id) (moments state actions)

-- What a read end has, and then what is put in, is what is taken and then what it has. If it is closed, new or not
-- there, nothing is put in or taken, and a new one has no bytes.
abbrev pub Flows : (before after : Option (List ℕ)) → (put taken : List ℕ) → Type 0
Flows (Some before) (Some after) put taken = before ++ put ≡ taken ++ after
Flows before after put taken = (put ≡ []) × (taken ≡ []) × IfSome after (λ bytes. bytes ≡ [])
