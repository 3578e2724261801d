-- What a command asks is never refused with the empty text, by which the tables refuse what no command asks (puts(n),
-- gets(n), eof(n), thread(n), tsv(n), tpool(n), chan(n)).
use Rattle.std.specs.Prelude.{◌≡◌, ◌≢◌, ◌<◌, ◌^◌, ℕ, List, [], ⊤}
use Rattle.laws_shared.specs.Actions.{Action, CanHappen, NumbersFit, Reached, action_result}
use Rattle.tt_calls.specs.declared.reply.Reply.TheVariants.{Refused}
use Rattle.tt_calls.specs.declared.request.Request.{Request}
use Rattle.tt_calls.specs.declared.request.Request.TheVariants as ask
use Rattle.tt_command_tables.specs.declared.call.Call.TheVariants.{Ask}
use Rattle.tt_command_tables.specs.declared.call.Then.{Then}
use Rattle.tt_commands.specs.Calls.{call_of}
use Rattle.tt_shared.specs.State.{State}
use Rattle.tt_shared.specs.declared.applied.Line.{Line}
use Rattle.tt_shared.specs.declared.applied.Line.TheVariants.{NotRead}

-- in a thread, the words of a command ask this first
pub record IsAsked (me : ℕ) (request : Request) : Type 0 where
  pub words : List (List ℕ)
  pub next : Then
  pub asks : call_of words me ≡ Ask request next

-- standard input was read for a request that reads it (gets(n))
abbrev pub HasRead : Request → Line → Type 0
HasRead ask.ReadLine line = line ≢ NotRead
HasRead request line = ⊤

-- An action of a run, whose request the words of a command asked, is not refused with the empty text. The number of its
-- thread fits in 64 bits, as those of channels do.
abbrev pub RefusalLaw : Type 0
RefusalLaw =
    (state : State) (action : Action) →
    Reached state →
    NumbersFit state →
    action.thread < 2 ^ 64 →
    CanHappen state action →
    IsAsked action.thread action.request →
    HasRead action.request action.line →
    (action_result state action).gives.reply ≢ Refused []
