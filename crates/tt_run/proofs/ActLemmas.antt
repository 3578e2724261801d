-- What an action does, put together of what its parts do.
use Rattle.std.proofs.Common.{◌≡◌, ◌≢◌, ◌⊎◌, ◌∙◌, ℕ, Bool, true, false, List, [], ◌∷◌, ◌++◌, Option, inl, inr}
use Rattle.tt_calls.specs.declared.request.Request.{Request}
use Rattle.tt_run.specs.Acting.{Growth, Happens, ReadsBy, Writes}
use Rattle.tt_run.specs.Desk.{Devices, Ground}
use Rattle.tt_run.specs.declared.fault.StepFault.{StepFault}
use Rattle.tt_lines.specs.Lines.{reads_line}
use Rattle.tt_shared.specs.Acts.{act}
use Rattle.tt_shared.specs.State.{State}
use Rattle.tt_shared.specs.declared.applied.Applied.{Applied}
use Rattle.tt_shared.specs.declared.applied.Line.{Line}

-- what was read stays read if standard input stays
reads-same : {S K E : Type 0} (reads : Bool) (held : S → Option (List ℕ)) (old mid new : Devices S K E) (line : Line)
    → ReadsBy reads held old mid line → new.input ≡ mid.input → new.ahead ≡ mid.ahead → ReadsBy reads held old new line
reads-same true held old mid new line read input ahead = rw (input, ahead) read
reads-same false held old mid new line read input ahead = (read.0, input ∙ read.1, ahead ∙ read.2)

module _ {S K E : Type 0} (held : S → Option (List ℕ)) (got_out : K → Option (List ℕ)) (got_err : E → Option (List ℕ)) (grows : Growth)
    (old new : Ground S K E) (thread : ℕ) (request : Request) (line : Line) where
  -- what the parts of an action did: a line was read, which left the devices so, and then these pieces were put
  pub record Parts (mid : Devices S K E) (out err : List ℕ) : Type 0 where
    pub read : ReadsBy (reads_line request) held old.devices mid line
    pub input : (new.devices.input ≡ mid.input) × (new.devices.ahead ≡ mid.ahead)
    pub others : (mid.output ≡ old.devices.output) × (mid.errors ≡ old.devices.errors)
    pub shared : new.shared ≡ (act old.shared thread request line).state
    pub entry : new.schedule ≡ old.schedule ++ thread ∷ []
    pub is_out : out ≡ (act old.shared thread request line).gives.out
    pub is_err : err ≡ (act old.shared thread request line).gives.err
    pub put_out : grows (got_out mid.output) (got_out new.devices.output) out
    pub put_err : grows (got_err mid.errors) (got_err new.devices.errors) err

  pub happens : (mid : Devices S K E) (out err : List ℕ) → Parts mid out err
      → Happens held got_out got_err grows old thread request line new
  happens mid out err parts = record {
    read = reads-same (reads_line request) held old.devices mid new.devices line parts.read parts.input.0 parts.input.1;
    shared = parts.shared;
    entry = parts.entry;
    out = rw (← parts.is_out, ← parts.others.0) parts.put_out;
    err = rw (← parts.is_err, ← parts.others.1) parts.put_err;
  }

pub writes-of : (gives : Applied) (out err : List ℕ) → out ≡ gives.out → err ≡ gives.err → (out ≢ []) ⊎ (err ≢ []) → Writes gives
writes-of gives out err is_out is_err (inl some) = inl (λ none. some (is_out ∙ none))
writes-of gives out err is_out is_err (inr some) = inr (λ none. some (is_err ∙ none))

-- a fault that is recorded changes nothing else
pub kept-too : {S K E : Type 0} (held : S → Option (List ℕ)) (got_out : K → Option (List ℕ)) (got_err : E → Option (List ℕ)) (grows : Growth)
    (old new : Ground S K E) (thread : ℕ) (request : Request) (line : Line)
    (shared : State) (schedule : List ℕ) (devices : Devices S K E) (kept later : Option StepFault)
    → record { shared = shared; schedule = schedule; devices = devices; kept = kept } ≡ new
    → Happens held got_out got_err grows old thread request line new
    → Happens held got_out got_err grows old thread request line
    (record { shared = shared; schedule = schedule; devices = devices; kept = later })
kept-too {S = S} {K = K} {E = E} held got_out got_err grows old new thread request line shared schedule devices kept later same happened =
    let desk : Ground S K E = record { shared = shared; schedule = schedule; devices = devices; kept = kept } in
    let is : Happens held got_out got_err grows old thread request line desk = rw same happened in
    record { read = is.read; shared = is.shared; entry = is.entry; out = is.out; err = is.err }
