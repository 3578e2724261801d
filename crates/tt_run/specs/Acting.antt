-- What an action does: a request is answered, its step is added to the schedule, and what it writes is put.
use Rattle.std.specs.Prelude.{◌≡◌, ◌≢◌, ◌⊎◌, ℕ, Bool, true, false, List, [], ◌∷◌, ◌++◌, Option}
use Rattle.std.specs.Io.KnownBytes.{Keeps}
use Rattle.tt_calls.specs.declared.request.Request.{Request}
use Rattle.tt_run.specs.Desk.{Devices, Ground, input_left}
use Rattle.tt_run.specs.declared.desk.Acted.{Acted}
use Rattle.tt_lines.specs.Lines.{ReadsKnown, reads_line}
use Rattle.tt_shared.specs.Acts.{act}
use Rattle.tt_shared.specs.declared.applied.Applied.{Applied}
use Rattle.tt_shared.specs.declared.applied.Line.{Line}
use Rattle.tt_shared.specs.declared.applied.Line.TheVariants.{NotRead}

-- a line is read for the request that asks for one; any other leaves standard input as it is
abbrev pub ReadsBy : {S K E : Type 0} → Bool → (held : S → Option (List ℕ)) → (old new : Devices S K E) → Line → Type 0
ReadsBy true held old new line = ReadsKnown (input_left held old) (input_left held new) line
ReadsBy false held old new line = (line ≡ NotRead) × (new.input ≡ old.input) × (new.ahead ≡ old.ahead)

-- what a sink got grew by a piece, or by a part of it
abbrev pub Growth : Type 1
Growth = (old new : Option (List ℕ)) → (piece : List ℕ) → Type 0

-- a thread's request is answered, by what was read for it
pub record Happens {S K E : Type 0}
    (held : S → Option (List ℕ)) (got_out : K → Option (List ℕ)) (got_err : E → Option (List ℕ)) (grows : Growth)
    (old : Ground S K E) (thread : ℕ) (request : Request) (line : Line) (new : Ground S K E) : Type 0 where
  pub read : ReadsBy (reads_line request) held old.devices new.devices line
  pub shared : new.shared ≡ (act old.shared thread request line).state
  pub entry : new.schedule ≡ old.schedule ++ thread ∷ []
  pub out :
      grows (got_out old.devices.output) (got_out new.devices.output) (act old.shared thread request line).gives.out
  pub err :
      grows (got_err old.devices.errors) (got_err new.devices.errors) (act old.shared thread request line).gives.err

-- the answer: the thread's reply, how many threads were made, and the exit code of the run if it is over
pub record IsAnswer (acted : Acted) (gives : Applied) : Type 0 where
  pub reply : acted.reply ≡ gives.reply
  pub made : acted.made ≡ gives.made
  pub over : acted.over ≡ gives.over

-- something is to be written
abbrev pub Writes : Applied → Type 0
Writes gives = (gives.out ≢ []) ⊎ (gives.err ≢ [])

-- a failed read changed nothing but how much is read ahead: standard input still has what it had
pub record ReadsNothing {S K E : Type 0} (held : S → Option (List ℕ)) (old new : Ground S K E) : Type 0 where
  pub shared : new.shared ≡ old.shared
  pub schedule : new.schedule ≡ old.schedule
  pub unread : Keeps (input_left held old.devices) (input_left held new.devices)
  pub output : new.devices.output ≡ old.devices.output
  pub errors : new.devices.errors ≡ old.devices.errors
