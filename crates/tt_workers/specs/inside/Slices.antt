-- A thread as a worker resumes it.
use Rattle.std.specs.Prelude.{◌≡◌, ℕ, Bool, true, false, IsTrue, Option}
use Rattle.tt_calls.specs.declared.reply.Reply.{Reply}
use Rattle.tt_interp.specs.Interps as interps
use Rattle.tt_interp.specs.Interps.{Interpreter}
use Rattle.tt_workers.specs.inside.Turns.{IsBack}
use Rattle.tt_workers.specs.declared.next.Done.{Done}
use Rattle.tt_workers.specs.declared.next.Resumption.{Resumption}
use Rattle.tt_workers.specs.declared.next.Task.{Task}

-- whether it was resumed, how it was handed out, and how it is now
pub record Piece : Type 0 where
  pub gone : Bool
  pub given : Task
  pub done : Done

-- it is as it was handed out, until it was resumed, and then it is as it may come back
abbrev pub IsResuming : (gone : Bool) → (thread : ℕ) → Interpreter → Option Reply → Resumption → Task → Type 0
IsResuming true thread interp reply resumption given =
    IsBack given (record { thread = thread; interp = interp; resumption = resumption })
IsResuming false thread interp reply resumption given =
    (given ≡ record { thread = thread; interp = interp; reply = reply })
    × IsTrue (interps.fits interp.standing reply)
