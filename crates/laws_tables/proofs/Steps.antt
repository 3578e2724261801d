-- The reply of a call that need not wait.
use Rattle.std.proofs.Common.{◌≡◌, Bool, true, false, not}
use Rattle.tt_calls.specs.Replies.{Answered, step_after}
use Rattle.tt_calls.specs.declared.reply.Reply.{Reply}
use Rattle.tt_shared.specs.State.{reply_of}

pub by_step : {Table : Type 0} (P : Reply → Type 0) (waits : Bool) (answered : Answered Table) → not waits ≡ true → P answered.reply →
    P (reply_of (step_after waits answered))
by_step P true answered ready is = absurd (cc ready)
by_step P false answered ready is = is
