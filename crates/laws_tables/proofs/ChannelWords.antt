-- What the words of commands on channels ask is fine.
use Rattle.std.proofs.Common.{◌≡◌, ◌||◌, ℕ, codes, bytes_eq, Bool, true, false, if◌then◌else◌, List, [], ◌∷◌, Option, None, refl}
use Rattle.laws_tables.proofs.Words.{Asks, by_either, by_flags}
use Rattle.tt_channel_commands.specs.Channels as channels
use Rattle.tt_channel_commands.specs.declared.command.ChannelCommand.TheVariants as channel
use Rattle.tt_channel_commands.specs.declared.command.ChannelCommand.{ChannelCommand}
use Rattle.tt_chans.specs.Channels.{is_standard}
use Rattle.tt_command_tables.specs.Rows.{meaning_by}
use Rattle.tt_command_tables.specs.declared.call.Call.{Call}
use Rattle.tt_command_tables.specs.declared.call.Then.{Then}
use Rattle.tt_command_tables.specs.declared.flags.Flag.TheVariants.{NoNewline}

-- what holds of each standard channel, and of another name
of_standard : {X : Type 0} (P : Option X → Type 0) (input output errors : Option X) (name : List ℕ) → P input → P output → P errors
    → (is_standard name ≡ false → P None)
    → P (if bytes_eq name (codes "stdin") then input else
    if bytes_eq name (codes "stdout") then output else
    if bytes_eq name (codes "stderr") then errors else None)
of_standard P input output errors name first second third last =
    go (bytes_eq name (codes "stdin")) (bytes_eq name (codes "stdout")) (bytes_eq name (codes "stderr")) last
  where
    go : (one two three : Bool) → (one || (two || three) ≡ false → P None)
        → P (if one then input else if two then output else if three then errors else None)
    go true two three last = first
    go false true three last = second
    go false false true last = third
    go false false false last = last refl

module _ (me : ℕ) where
  puts_to : (name text : List ℕ) → Asks me (channels.puts_to (channels.standard_of name) name text)
  puts_to name text = of_standard (λ found. Asks me (channels.puts_to found name text)) _ _ _ name tt tt tt (λ other. other)

  eof_of : (name : List ℕ) → Asks me (channels.eof_of (channels.standard_of name) name)
  eof_of name = of_standard (λ found. Asks me (channels.eof_of found name)) _ _ _ name tt tt tt (λ other. other)

  gets_from : (name : List ℕ) (follow : Then) → Asks me (channels.gets_from (channels.standard_of name) name follow)
  gets_from name follow = of_standard (λ found. Asks me (channels.gets_from found name follow)) _ _ _ name tt tt tt (λ other. other)

  module _ (wrong : Call) (so : Asks me wrong) where
    puts_call : (options words : List (List ℕ)) → Asks me (channels.puts_call wrong options words)
    puts_call options (text ∷ []) = tt
    puts_call options (name ∷ text ∷ []) = puts_to name (channels.line options text)
    puts_call options words = so

    puts : (words : List (List ℕ)) → Asks me (channels.puts wrong words)
    puts words = by_flags me (NoNewline ∷ []) 1 words (channels.puts_call wrong) puts_call

    gets : (words : List (List ℕ)) → Asks me (channels.gets wrong words)
    gets (name ∷ []) = gets_from name _
    gets (name ∷ variable ∷ []) = gets_from name _
    gets words = so

    eof : (words : List (List ℕ)) → Asks me (channels.eof wrong words)
    eof (name ∷ []) = eof_of name
    eof words = so

    close : (words : List (List ℕ)) → Asks me (channels.close wrong words)
    close (name ∷ []) = tt
    close words = so

    pipe : (words : List (List ℕ)) → Asks me (channels.pipe wrong words)
    pipe [] = tt
    pipe words = so

    channel_pipe : (words : List (List ℕ)) → Asks me (channels.channel_pipe wrong words)
    channel_pipe [] = so
    channel_pipe (name ∷ words) = by_either me (bytes_eq name (codes "pipe")) _ _ (pipe words) tt

    detach : (words : List (List ℕ)) → Asks me (channels.detach wrong words)
    detach (name ∷ []) = tt
    detach words = so

    attach : (words : List (List ℕ)) → Asks me (channels.attach wrong words)
    attach (name ∷ []) = tt
    attach words = so

    transfer : (words : List (List ℕ)) → Asks me (channels.transfer wrong words)
    unfolding channels.transfer
    transfer (id ∷ name ∷ []) = tt
    transfer words = so

  pub channel_asks : (command : ChannelCommand) (words : List (List ℕ)) → Asks me (meaning_by (channels.channel_row command) me words)
  channel_asks channel.Puts words = puts _ tt words
  channel_asks channel.Gets words = gets _ tt words
  channel_asks channel.Eof words = eof _ tt words
  channel_asks channel.Close words = close _ tt words
  channel_asks channel.Pipe words = channel_pipe _ tt words
  channel_asks channel.Detach words = detach _ tt words
  channel_asks channel.Attach words = attach _ tt words
  channel_asks channel.Transfer words = transfer _ tt words
