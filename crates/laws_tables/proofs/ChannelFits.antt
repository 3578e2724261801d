-- What calls on channels are answered fits them.
use Rattle.std.proofs.Common.{◌≡◌, ℕ, true, not, Option, refl}
use Rattle.laws_tables.proofs.ChannelRows.{by_attaches, by_closes, by_detaches, by_eof, by_gets, by_id, by_moves, by_puts, by_transfers}
use Rattle.laws_tables.proofs.Shapes.{first, second, third}
use Rattle.laws_tables.proofs.Steps.{by_step}
use Rattle.laws_tables.specs.Fitting.{Fits}
use Rattle.tt_calls.specs.declared.chan_call.ChanCall.{ChanCall}
use Rattle.tt_calls.specs.declared.chan_call.ChanCall.TheVariants as chan
use Rattle.tt_calls.specs.declared.reply.Reply.{Reply}
use Rattle.tt_calls.specs.declared.request.Request.TheVariants as ask
use Rattle.tt_chans.specs.Calls as channels
use Rattle.tt_chans.specs.Channels.{ChannelTable}
use Rattle.tt_shared.specs.State.{reply_of}

module _ (table : ChannelTable) (t : ℕ) (target : Option ℕ) where
  abbrev Answers : ChanCall → Reply → Type 0
  Answers call answered = Fits (ask.Chan call) answered

  by_act : (call : ChanCall) → Answers call (channels.act table t target call).reply
  by_act chan.Pipe = (0, first, refl)
  by_act (chan.Put text bytes) =
      by_id (Answers (chan.Put text bytes)) table t target (chan.Put text bytes) (λ is. (1, second, refl))
      (λ is. by_puts (Answers (chan.Put text bytes)) table t target (λ b rest. (1, second, refl)) text bytes (0, first, refl)
      (λ channel reader mine writes there also. (1, second, refl)))
  by_act (chan.GetLine text) =
      by_id (Answers (chan.GetLine text)) table t target (chan.GetLine text) (λ is. (2, third, refl))
      (λ is. by_gets (Answers (chan.GetLine text)) table t target (λ b rest. (2, third, refl)) text (λ line. (0, first, refl)) (1, second, refl))
  by_act (chan.Eof text) =
      by_id (Answers (chan.Eof text)) table t target (chan.Eof text) (λ is. (1, second, refl))
      (λ is. by_eof (Answers (chan.Eof text)) table t target (λ b rest. (1, second, refl)) text (λ value. (0, first, refl)))
  by_act (chan.Close text) =
      by_id (Answers (chan.Close text)) table t target (chan.Close text) (λ is. (1, second, refl))
      (λ is. by_closes (Answers (chan.Close text)) table t target (λ b rest. (1, second, refl)) text (0, first, refl))
  by_act (chan.Detach text) =
      by_id (Answers (chan.Detach text)) table t target (chan.Detach text) (λ is. (1, second, refl))
      (λ is. by_detaches (Answers (chan.Detach text)) table t target (λ b rest. (1, second, refl)) text (0, first, refl))
  by_act (chan.Attach text) =
      by_id (Answers (chan.Attach text)) table t target (chan.Attach text) (λ is. (1, second, refl))
      (λ is. by_attaches (Answers (chan.Attach text)) table t target (λ b rest. (1, second, refl)) text (0, first, refl))
  by_act (chan.Transfer thread text) =
      by_id (Answers (chan.Transfer thread text)) table t target (chan.Transfer thread text) (λ is. (2, third, refl))
      (λ is. by_transfers (Answers (chan.Transfer thread text)) table t target (λ b rest. (2, third, refl)) thread text (0, first, refl)
      (λ value. (1, second, refl)))
  by_act (chan.AwaitMove text) =
      by_id (Answers (chan.AwaitMove text)) table t target (chan.AwaitMove text) (λ is. (2, third, refl))
      (λ is. by_moves (Answers (chan.AwaitMove text)) table t target text (0, first, refl) (1, second, refl))

  pub channel_fits : (call : ChanCall) → not (channels.waits table t call) ≡ true → Fits (ask.Chan call) (reply_of (channels.step_after table t target call))
  channel_fits call ready = by_step (Fits (ask.Chan call)) (channels.waits table t call) (channels.act table t target call) ready (by_act call)
