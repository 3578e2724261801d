-- A system on its way along a schedule.
use Rattle.std.specs.Prelude.{◌≡◌, ◌≤◌, ℕ, Bool, true, false, List, [], length, Option, Some, None, take, ⊤}
use Rattle.std.specs.Prelude.{◌+◌, slice_index}
use Rattle.tt_core.specs.Stage.{Stage}
use Rattle.tt_debug.specs.Shown.{RunsTo}
use Rattle.tt_devices.specs.Memory.{Collected, Supply}
use Rattle.tt_kept.specs.declared.setup.Setup.{Setup}
use Rattle.tt_machine.specs.Machine.{IsBarred, Machine}
use Rattle.tt_schedule.specs.ScheduleText.{most_steps}

-- it stands at a place of a schedule, over devices that had nothing in them
pub record IsAt {S K E : Type 0}
    (held : S → Option (List ℕ)) (got_out : K → Option (List ℕ)) (got_err : E → Option (List ℕ))
    (given : List ℕ) (place : ℕ) (stage : Stage S K E) : Type 0 where
  pub input : held stage.began.input ≡ Some []
  pub output : got_out stage.began.output ≡ Some []
  pub errors : got_err stage.began.errors ≡ Some []
  pub taken : stage.desk.schedule ≡ take place given
  pub going : stage.desk.kept ≡ None
  pub within : place ≤ length given
  pub machine : Machine
  pub ran : RunsTo stage.setup given place machine

-- an entry was taken, or it could not be
abbrev pub Goes : {S K E : Type 0} →
    (held : S → Option (List ℕ)) → (got_out : K → Option (List ℕ)) → (got_err : E → Option (List ℕ)) →
    (went : Bool) → (given : List ℕ) → (place : ℕ) → Stage S K E → Type 0
Goes held got_out got_err true given place stage = IsAt held got_out got_err given (place + 1) stage
Goes held got_out got_err false given place stage =
    IsAt held got_out got_err given place stage
    × ((machine : Machine) × RunsTo stage.setup given place machine × IsBarred machine (slice_index given place))

-- a session has come to its place; if it has a run, that stands there
abbrev pub MayBe : {X : Type 0} → (X → Type 0) → Option X → Type 0
MayBe Is None = ⊤
MayBe Is (Some run) = Is run

pub record IsSession {X : Type 0} (Is : X → Type 0) (setup : Setup) (given : List ℕ) (place : ℕ) (run : Option X) :
    Type 0 where
  pub small : place ≤ most_steps
  pub within : place ≤ length given
  pub machine : Machine
  pub ran : RunsTo setup given place machine
  pub stands : MayBe Is run

-- what devices in memory show
abbrev pub held : Supply → Option (List ℕ)
held source = Some source.left

abbrev pub got : Collected → Option (List ℕ)
got sink = Some sink.got

-- a run of this beginning, over devices in memory, that stands at a place
pub record IsRunOf (setup : Setup) (given : List ℕ) (place : ℕ) (stage : Stage Supply Collected Collected) : Type 0 where
  pub same : stage.setup ≡ setup
  pub at : IsAt held got got given place stage
