-- In every run each thread that lives asks something, until the run is over (thread(n), exit(n)).
use Rattle.std.specs.Prelude.{◌≡◌, ◌⊎◌, ℕ, IsFalse, IsTrue, List, None}
use Rattle.tt_calls.specs.declared.request.Request.{Request}
use Rattle.tt_kept.specs.declared.setup.Setup.{Setup}
use Rattle.tt_machine.specs.Machine.{CanStep, Machine, Runs, ThreadAsks, start_machine}
use Rattle.tt_shared.specs.Enabled.{enabled}
use Rattle.tt_threads.specs.Rows.{is_living}

-- a thread asks something that can't be answered yet
pub record IsWaiting (machine : Machine) (t : ℕ) : Type 0 where
  pub request : Request
  pub serving : List ℕ
  pub asks : ThreadAsks machine t request serving
  pub waits : IsFalse (enabled machine.shared t request)

-- So a thread that lives can take a step, or it waits: none evaluates for ever, and none is stuck without a request.
abbrev pub LivingLaw : Type 0
LivingLaw =
    (setup : Setup) (input : List ℕ) (machine : Machine) (schedule : List ℕ) (t : ℕ) →
    Runs (start_machine setup input) schedule machine →
    machine.shared.over ≡ None →
    IsTrue (is_living machine.shared.rows t) →
    CanStep machine t ⊎ IsWaiting machine t
