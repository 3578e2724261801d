-- What a run was: its entries, each a step of a thread or a tick.
use Rattle.std.specs.Prelude.{ℕ, Bool, true, false}
use Rattle.tt_calls.specs.declared.reply.Reply.{Reply}
use Rattle.tt_calls.specs.declared.reply.Reply.TheVariants as reply
use Rattle.tt_calls.specs.declared.request.Request.{Request}

-- a step of a thread: what it asked, what it was answered, and how many threads were made by it
pub record Step : Type 0 where
  pub thread : ℕ
  pub request : Request
  pub reply : Reply
  pub made : ℕ

pub data Entry : Type 0 where
  Tick : Entry
  Stepped : Step → Entry

abbrev pub step : (thread : ℕ) → Request → Reply → (made : ℕ) → Step
step thread request reply made = record { thread = thread; request = request; reply = reply; made = made }

-- what was asked was done: it was neither refused nor cancelled
abbrev pub is_done : Reply → Bool
is_done (reply.Refused message) = false
is_done (reply.Cancelled unwinds) = false
is_done answer = true
