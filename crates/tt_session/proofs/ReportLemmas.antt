-- From what a system leaves to what a replay reports of itself.
use Rattle.std.proofs.Common.{◌≡◌, ◌≢◌, ◌∙◌, ◌⊎◌, ℕ, Bool, false, List, [], Option, None, Some, IfSome, IfOk, IfErr, Result, Ok, Err}
use Rattle.std.proofs.Common.{refl, sym, ap, subst, inl, inr}
use Rattle.tt_before.specs.declared.order.Order.{Order}
use Rattle.tt_core.specs.Faithful.{IsFaithful, is_cut}
use Rattle.tt_core.specs.Stage.{Began, Stage}
use Rattle.tt_devices.specs.declared.sink.Sink.{Ghosts as OfSink}
use Rattle.tt_devices.specs.declared.source.Source.{Ghosts as OfSource}
use Rattle.tt_kept.specs.declared.setup.Setup.{Setup}
use Rattle.tt_machine.specs.Machine.{Machine, Runs, start_machine}
use Rattle.tt_waiting.specs.Report.{IsWaitsReport}
use Rattle.tt_run.specs.declared.fault.StepFault.{StepFault}
use Rattle.tt_session.specs.Choosing.{Chooses, Mode, Replaying}
use Rattle.tt_session.specs.Ending.{EndsAs, cause_of}
use Rattle.tt_session.specs.Reporting.{RacesAfter, ReportsRaces, ReportsWaits, WaitsAfter}
use Rattle.tt_session.specs.Running.{HasMachine, RunLeaves}
use Rattle.tt_session.specs.Status.{ended_status}
use Rattle.tt_session.specs.Telling.{IsFollowed, ToldAs}
use Rattle.tt_session.specs.declared.ended.Finish.{Finish}
use Rattle.tt_session.specs.declared.status.End.{End}
use Rattle.tt_session.specs.declared.status.End.TheVariants as ends
use Rattle.tt_session.specs.inside.Following.{AtRun}
use Rattle.tt_session.specs.inside.Saying.{SaysRaces, SaysRacesOf, SaysWaits, without_memory}

-- nothing is cut short but by a failed write
pub whole-unless : (end : End) → end ≢ ends.WriteFault → is_cut (cause_of end) ≡ false
whole-unless (ends.Done code) other = refl
whole-unless ends.ScheduleEnded other = refl
whole-unless (ends.Barred entry) other = refl
whole-unless ends.Stalled other = refl
whole-unless (ends.StepLimit steps) other = refl
whole-unless ends.ReadFault other = refl
whole-unless ends.WriteFault other = absurd (other refl)
whole-unless ends.NoMemory other = refl

module _ {S K E : Type 0} (source : OfSource S) (output : OfSink K) (errors : OfSink E) where
  lost-machine : (setup : Setup) (mode : Mode) (began : Began S K E) (finish : Finish S K E) (input : List ℕ) → finish.end ≢ ends.WriteFault
      → HasMachine source output errors setup mode began finish input
      → HasMachine source output errors setup mode began (without_memory finish) input
  lost-machine setup mode began finish input other has = record {
    machine = has.machine;
    ran = has.ran;
    chosen = has.chosen;
    faithful =
        let Faithful : Bool → Type 0 =
        λ b. IsFaithful b (start_machine setup input) finish.schedule.threads (output.got began.output) (output.got finish.output)
        (errors.got began.errors) (errors.got finish.errors) has.machine in
        subst Faithful (whole-unless finish.end other) has.faithful;
    unread = has.unread;
    ends = tt;
  }

  lost-known : (setup : Setup) (mode : Mode) (began : Began S K E) (finish : Finish S K E) (held : Option (List ℕ)) → finish.end ≢ ends.WriteFault
      → IfSome held (λ input. HasMachine source output errors setup mode began finish input)
      → IfSome held (λ input. HasMachine source output errors setup mode began (without_memory finish) input)
  lost-known setup mode began finish None other has = tt
  lost-known setup mode began finish (Some input) other has = lost-machine setup mode began finish input other has

  -- a run may end so too, for want of memory for its report
  pub lost-leaves : (setup : Setup) (mode : Mode) (began : Began S K E) (finish : Finish S K E)
      → finish.end ≢ ends.ReadFault → finish.end ≢ ends.WriteFault
      → RunLeaves source output errors setup mode began finish
      → RunLeaves source output errors setup mode began (without_memory finish)
  lost-leaves setup mode began finish not_read not_write is = record {
    allowed = is.allowed;
    no_output = is.no_output;
    no_errors = is.no_errors;
    read_fault = λ same. absurd (cc same);
    reads_steady = λ other. is.reads_steady not_read;
    write_fault = λ same. absurd (cc same);
    writes_steady = λ other. is.writes_steady not_write;
    has_machine = lost-known setup mode began finish (source.held began.input) not_write is.has_machine;
    lawful = is.lawful;
  }

-- ---- who waits for whom

module _ {S K E : Type 0} (source : OfSource S) (setup : Setup) (began : Began S K E) (stage : Stage S K E) (schedule more : List ℕ)
    (setup_is : stage.setup ≡ setup) (began_is : stage.began ≡ began) (steps : schedule ≡ stage.desk.schedule) where
  known-waits : (input : Option (List ℕ))
      → IfSome input (λ bytes. (machine : Machine) × Runs (start_machine stage.setup bytes) stage.desk.schedule machine × IsWaitsReport more machine)
      → IfSome input (λ bytes. ReportsWaits setup bytes schedule more)
  known-waits None says = tt
  known-waits (Some bytes) says = record { machine = says.0; ran = rw (steps, ← setup_is) says.1; report = says.2 }

  pub waits-said : (end : End) → SaysWaits source.held end stage more → WaitsAfter (ended_status end) setup (source.held began.input) schedule more
  waits-said (ends.Done code) says = says
  waits-said ends.ScheduleEnded says =
      subst (λ (b : Began S K E). IfSome (source.held b.input) (λ bytes. ReportsWaits setup bytes schedule more)) began_is
      (known-waits (source.held stage.began.input) says)
  waits-said (ends.Barred entry) says = says
  waits-said ends.Stalled says = says
  waits-said (ends.StepLimit steps) says = says
  waits-said ends.ReadFault says = says
  waits-said ends.WriteFault says = says
  waits-said ends.NoMemory says = says

  -- ---- races

  module _ (output : OfSink K) (errors : OfSink E) (mode : Mode) (finish : Finish S K E) (order : Order)
      (followed : finish.schedule.threads ≡ schedule) where
    abbrev IsTold : Option (List ℕ) → Type 0
    IsTold input =
        IfSome input (λ bytes. (machine : Machine) → Runs (start_machine stage.setup bytes) stage.desk.schedule machine
        → ToldAs (start_machine stage.setup bytes) machine stage.desk.schedule order)

    known-races : (input : Option (List ℕ)) → SaysRacesOf order more → IsTold input
        → IfSome input (λ bytes. HasMachine source output errors setup mode began finish bytes)
        → IfSome input (λ bytes. ReportsRaces setup bytes schedule more)
    known-races None says told has = tt
    known-races (Some bytes) says told has =
        let ran : Runs (start_machine stage.setup bytes) stage.desk.schedule has.machine = rw (← steps, ← followed, setup_is) has.ran in
        let is = told has.machine ran in
        record {
          machine = has.machine;
          entries = is.entries;
          races = says.races;
          are = rw (steps, ← setup_is) is.are;
          found = says.found is.entries is.order;
          text = says.text;
        }

    all-races : SaysRacesOf order more → IsTold (source.held stage.began.input)
        → IfSome (source.held began.input) (λ bytes. HasMachine source output errors setup mode began finish bytes)
        → IfSome (source.held began.input) (λ bytes. ReportsRaces setup bytes schedule more)
    all-races says told has =
        known-races (source.held began.input) says
        (subst (λ (b : Began S K E). IsTold (source.held b.input)) began_is told) has

    pub races-said : (end : End) → SaysRaces end order more
        → (IsFollowed end → AtRun source.held stage (λ begun machine. ToldAs begun machine stage.desk.schedule order))
        → IfSome (source.held began.input) (λ bytes. HasMachine source output errors setup mode began finish bytes)
        → RacesAfter (ended_status end) setup (source.held began.input) schedule more
    races-said (ends.Done code) says told has = all-races says (told tt) has
    races-said ends.ScheduleEnded says told has = all-races says (told tt) has
    races-said (ends.Barred entry) says told has = says
    races-said ends.Stalled says told has = says
    races-said (ends.StepLimit steps) says told has = says
    races-said ends.ReadFault says told has = says
    races-said ends.WriteFault says told has = says
    races-said ends.NoMemory says told has = says

-- ---- what a run leaves with its report

-- what is kept of a fault cuts nothing short but a failed write
pub cut-of : (end : End) (kept : Option StepFault) → (end ≢ ends.NoMemory → kept ≡ cause_of end)
    → (end ≡ ends.NoMemory → (kept ≡ None) ⊎ (kept ≡ cause_of end)) → is_cut kept ≡ is_cut (cause_of end)
cut-of (ends.Done code) kept is other = ap is_cut (is (λ same. cc same))
cut-of ends.ScheduleEnded kept is other = ap is_cut (is (λ same. cc same))
cut-of (ends.Barred entry) kept is other = ap is_cut (is (λ same. cc same))
cut-of ends.Stalled kept is other = ap is_cut (is (λ same. cc same))
cut-of (ends.StepLimit steps) kept is other = ap is_cut (is (λ same. cc same))
cut-of ends.ReadFault kept is other = ap is_cut (is (λ same. cc same))
cut-of ends.WriteFault kept is other = ap is_cut (is (λ same. cc same))
cut-of ends.NoMemory kept is other = either (other refl)
  where
    either : (kept ≡ None) ⊎ (kept ≡ cause_of ends.NoMemory) → is_cut kept ≡ false
    either (inl none) = ap is_cut none
    either (inr some) = ap is_cut some

-- a list that is given may be followed as it is
pub given-chosen : {S K E : Type 0} (held : S → Option (List ℕ)) (stage : Stage S K E) (given : List ℕ) (end : End)
    → AtRun held stage (λ begun machine. EndsAs end (Replaying given) machine stage.desk.schedule)
    → AtRun held stage (λ begun machine. Chooses (Replaying given) begun stage.desk.schedule
    × EndsAs end (Replaying given) machine stage.desk.schedule)
given-chosen held stage given end is = go (held stage.began.input) is
  where
    go : (told : Option (List ℕ))
        → IfSome told (λ input. (machine : Machine) → Runs (start_machine stage.setup input) stage.desk.schedule machine
        → EndsAs end (Replaying given) machine stage.desk.schedule)
        → IfSome told (λ input. (machine : Machine) → Runs (start_machine stage.setup input) stage.desk.schedule machine
        → Chooses (Replaying given) (start_machine stage.setup input) stage.desk.schedule × EndsAs end (Replaying given) machine stage.desk.schedule)
    go None is = tt
    go (Some input) is = λ machine ran. (tt, is machine ran)

module _ {S K E X : Type 0} (source : OfSource S) (output : OfSink K) (errors : OfSink E) (setup : Setup) (mode : Mode) (began : Began S K E)
    (stage : Stage S K E) (setup_is : stage.setup ≡ setup) (began_is : stage.began ≡ began) (finish last : Finish S K E) (more : List ℕ)
    (steps : finish.schedule.threads ≡ stage.desk.schedule) where
  -- the run is left as it is, or as one that ended for want of memory
  pub waits-left : RunLeaves source output errors setup mode began finish
      → (report : Result (List ℕ) X) → IfOk report (λ text. (last ≡ finish) × (more ≡ text))
      → IfErr report (λ fault. (last ≡ without_memory finish) × (more ≡ []))
      → IfOk report (SaysWaits source.held finish.end stage) → IfErr report (λ fault. finish.end ≡ ends.ScheduleEnded)
      → RunLeaves source output errors setup mode began last
  waits-left leaves (Ok text) one other says late = rw one.0 leaves
  waits-left leaves (Err fault) one other says late =
      rw other.0 (lost-leaves source output errors setup mode began finish (λ is. cc (sym late ∙ is)) (λ is. cc (sym late ∙ is)) leaves)

  pub waits-reported : (report : Result (List ℕ) X) → IfOk report (λ text. (last ≡ finish) × (more ≡ text))
      → IfErr report (λ fault. (last ≡ without_memory finish) × (more ≡ []))
      → IfOk report (SaysWaits source.held finish.end stage) → IfErr report (λ fault. finish.end ≡ ends.ScheduleEnded)
      → WaitsAfter (ended_status last.end) setup (source.held began.input) last.schedule.threads more
  waits-reported (Ok text) one other says late =
      rw (one.0, one.1) (waits-said source setup began stage finish.schedule.threads text setup_is began_is steps finish.end says)
  waits-reported (Err fault) one other says late = rw (other.0, other.1) refl

  pub races-left : RunLeaves source output errors setup mode began finish
      → (order : Order) (report : Result (List ℕ) X) → IfOk report (λ text. (last ≡ finish) × (more ≡ text))
      → IfErr report (λ fault. (last ≡ without_memory finish) × (more ≡ []))
      → IfOk report (SaysRaces finish.end order) → IfErr report (λ fault. IsFollowed finish.end)
      → RunLeaves source output errors setup mode began last
  races-left leaves order (Ok text) one other says late = rw one.0 leaves
  races-left leaves order (Err fault) one other says late =
      rw other.0 (lost-leaves source output errors setup mode began finish (λ is. subst IsFollowed is late) (λ is. subst IsFollowed is late) leaves)

  pub races-reported : IfSome (source.held began.input) (λ bytes. HasMachine source output errors setup mode began finish bytes)
      → (order : Order) (report : Result (List ℕ) X) → IfOk report (λ text. (last ≡ finish) × (more ≡ text))
      → IfErr report (λ fault. (last ≡ without_memory finish) × (more ≡ []))
      → IfOk report (SaysRaces finish.end order) → IfErr report (λ fault. IsFollowed finish.end)
      → (IsFollowed finish.end → AtRun source.held stage (λ begun machine. ToldAs begun machine stage.desk.schedule order))
      → RacesAfter (ended_status last.end) setup (source.held began.input) last.schedule.threads more
  races-reported machine order (Ok text) one other says late told =
      rw (one.0, one.1) (races-said source setup began stage finish.schedule.threads text setup_is began_is steps output errors mode finish order refl
      finish.end says told machine)
  races-reported machine order (Err fault) one other says late told = rw (other.0, other.1) refl
