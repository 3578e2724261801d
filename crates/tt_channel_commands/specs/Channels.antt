-- What the words of commands on channels mean (puts(n), gets(n), eof(n), close(n), chan(n); thread(n), thread::detach,
-- thread::attach, thread::transfer).
use Rattle.std.specs.Prelude.{ℕ, bytes_eq, List, [], ◌∷◌, ◌++◌, codes, Option, Some, None, if◌then◌else◌}
use Rattle.tt_calls.specs.declared.chan_call.ChanCall.TheVariants as chan
use Rattle.tt_calls.specs.declared.request.Request.TheVariants as ask
use Rattle.tt_command_tables.specs.Flags.{by_options, has}
use Rattle.tt_command_tables.specs.Tables.{first_named}
use Rattle.tt_command_tables.specs.Usages.{bad_option}
use Rattle.tt_command_tables.specs.declared.call.Call.{Call}
use Rattle.tt_command_tables.specs.declared.call.Call.TheVariants.{Ask, Bad, Here}
use Rattle.tt_command_tables.specs.Rows.{Row, by_words, row}
use Rattle.tt_command_tables.specs.declared.call.Here.TheVariants as here
use Rattle.tt_command_tables.specs.declared.call.Then.{Then}
use Rattle.tt_command_tables.specs.declared.call.Then.TheVariants as after
use Rattle.tt_channel_commands.specs.declared.command.ChannelCommand.{ChannelCommand}
use Rattle.tt_channel_commands.specs.declared.command.ChannelCommand.TheVariants as channel
use Rattle.tt_channel_commands.specs.declared.standard.Standard.{Standard}
use Rattle.tt_channel_commands.specs.declared.standard.Standard.TheVariants.{Input, Output, Errors}
use Rattle.tt_command_tables.specs.declared.flags.Flag.TheVariants.{NoNewline}

-- the standard channel of a name
abbrev pub standard_of : (name : List ℕ) → Option Standard
standard_of name =
    if bytes_eq name (codes "stdin") then Some Input else
    if bytes_eq name (codes "stdout") then Some Output else
    if bytes_eq name (codes "stderr") then Some Errors else None

-- the wrong end of a channel
abbrev pub wrong_end : (name text : List ℕ) → Call
wrong_end name text = Bad (codes "channel \"" ++ (name ++ text))

abbrev pub not_for_writing : (name : List ℕ) → Call
not_for_writing name = wrong_end name (codes "\" wasn't opened for writing")

abbrev pub not_for_reading : (name : List ℕ) → Call
not_for_reading name = wrong_end name (codes "\" wasn't opened for reading")

-- puts(n): a newline follows, but with -nonewline
abbrev pub line : (options : List (List ℕ)) → (text : List ℕ) → List ℕ
line options text = if has NoNewline options then text else text ++ 10 ∷ []

abbrev pub puts_to : Option Standard → (name text : List ℕ) → Call
puts_to (Some Input) name text = not_for_writing name
puts_to (Some Output) name text = Ask (ask.WriteOut text) after.Value
puts_to (Some Errors) name text = Ask (ask.WriteErr text) after.Value
puts_to None name text = Ask (ask.Chan (chan.Put name text)) after.Value

abbrev pub puts_call : (wrong : Call) → (options words : List (List ℕ)) → Call
puts_call wrong options (text ∷ []) = puts_to (Some Output) (codes "stdout") (line options text)
puts_call wrong options (name ∷ text ∷ []) = puts_to (standard_of name) name (line options text)
puts_call wrong options words = wrong

abbrev pub puts : (wrong : Call) → (words : List (List ℕ)) → Call
puts wrong words = by_options (NoNewline ∷ []) 1 words (puts_call wrong)

-- gets(n)
abbrev pub gets_from : Option Standard → (name : List ℕ) → Then → Call
gets_from (Some Input) name follow = Ask ask.ReadLine follow
gets_from (Some Output) name follow = not_for_reading name
gets_from (Some Errors) name follow = not_for_reading name
gets_from None name follow = Ask (ask.Chan (chan.GetLine name)) follow

abbrev pub gets : (wrong : Call) → (words : List (List ℕ)) → Call
gets wrong (name ∷ []) = gets_from (standard_of name) name after.Value
gets wrong (name ∷ variable ∷ []) = gets_from (standard_of name) name (after.Store variable)
gets wrong words = wrong

-- eof(n)
abbrev pub eof_of : Option Standard → (name : List ℕ) → Call
eof_of (Some Input) name = Ask ask.StdinEof after.Value
eof_of (Some Output) name = Here (here.Local (codes "0"))
eof_of (Some Errors) name = Here (here.Local (codes "0"))
eof_of None name = Ask (ask.Chan (chan.Eof name)) after.Value

abbrev pub eof : (wrong : Call) → (words : List (List ℕ)) → Call
eof wrong (name ∷ []) = eof_of (standard_of name) name
eof wrong words = wrong

-- close(n)
abbrev pub close : (wrong : Call) → (words : List (List ℕ)) → Call
close wrong (name ∷ []) = Ask (ask.Chan (chan.Close name)) after.Value
close wrong words = wrong

-- chan(n), of which there is chan pipe
abbrev pub pipe : (wrong : Call) → (words : List (List ℕ)) → Call
pipe wrong [] = Ask (ask.Chan chan.Pipe) after.Value
pipe wrong words = wrong

abbrev pub channel_pipe : (wrong : Call) → (words : List (List ℕ)) → Call
channel_pipe wrong [] = wrong
channel_pipe wrong (name ∷ words) = if bytes_eq name (codes "pipe") then pipe wrong words else bad_option name

-- thread(n), thread::detach
abbrev pub detach : (wrong : Call) → (words : List (List ℕ)) → Call
detach wrong (name ∷ []) = Ask (ask.Chan (chan.Detach name)) after.Value
detach wrong words = wrong

-- thread(n), thread::attach
abbrev pub attach : (wrong : Call) → (words : List (List ℕ)) → Call
attach wrong (name ∷ []) = Ask (ask.Chan (chan.Attach name)) after.Value
attach wrong words = wrong

-- thread(n), thread::transfer
unfoldable pub transfer : (wrong : Call) → (words : List (List ℕ)) → Call
transfer wrong (id ∷ name ∷ []) = Ask (ask.Chan (chan.Transfer id name)) after.AwaitMove
transfer wrong words = wrong

-- the table
abbrev pub channel_row : ChannelCommand → Row
channel_row channel.Puts = row (codes "puts") (codes "puts ?-nonewline? ?channelId? string") (by_words puts)
channel_row channel.Gets = row (codes "gets") (codes "gets channelId ?varName?") (by_words gets)
channel_row channel.Eof = row (codes "eof") (codes "eof channelId") (by_words eof)
channel_row channel.Close = row (codes "close") (codes "close channelId") (by_words close)
channel_row channel.Pipe = row (codes "chan") (codes "chan pipe") (by_words channel_pipe)
channel_row channel.Detach = row (codes "thread::detach") (codes "thread::detach c") (by_words detach)
channel_row channel.Attach = row (codes "thread::attach") (codes "thread::attach c") (by_words attach)
channel_row channel.Transfer = row (codes "thread::transfer") (codes "thread::transfer id c") (by_words transfer)

-- the commands of the table
abbrev pub channel_commands : List ChannelCommand
channel_commands =
    channel.Puts ∷ channel.Gets ∷ channel.Eof ∷ channel.Close ∷ channel.Pipe ∷ channel.Detach ∷ channel.Attach ∷
    channel.Transfer ∷ []

-- the command of a name
abbrev pub channel_command : (name : List ℕ) → Option ChannelCommand
channel_command name = first_named (λ command. (channel_row command).name) channel_commands name
