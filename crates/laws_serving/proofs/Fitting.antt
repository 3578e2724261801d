-- What a command's words ask: nothing that an event loop, a served script or a whole thread asks by itself.
use Rattle.std.proofs.Common.{◌≡◌, Bool, true, false, refl}
use Rattle.std.specs.Bool.{⊤}
use Rattle.laws_serving.specs.Requests.{is_look, is_ordinary}
use Rattle.tt_calls.specs.declared.pool_call.PoolCall.TheVariants as pool
use Rattle.tt_calls.specs.declared.pool_call.PoolCall.{PoolCall}
use Rattle.tt_calls.specs.declared.request.Request.TheVariants as ask
use Rattle.tt_calls.specs.declared.request.Request.{Request}
use Rattle.tt_command_tables.specs.declared.call.Call.TheVariants as call
use Rattle.tt_command_tables.specs.declared.call.Call.{Call}
use Rattle.tt_command_tables.specs.declared.call.Goal.TheVariants as goal
use Rattle.tt_command_tables.specs.declared.call.Goal.{Goal}
use Rattle.tt_command_tables.specs.declared.call.Then.TheVariants as after
use Rattle.tt_command_tables.specs.declared.call.Then.{Then}

-- what a command may ask at once
abbrev pub is_commanded_call : PoolCall → Bool
is_commanded_call (pool.Look id jobs) = false
is_commanded_call (pool.JobTake id) = false
is_commanded_call (pool.JobDone id n outcome) = false
is_commanded_call call = true

abbrev pub is_commanded : Request → Bool
is_commanded ask.Take = false
is_commanded ask.TakeReady = false
is_commanded (ask.Deliver n outcome) = false
is_commanded (ask.Pool call) = is_commanded_call call
is_commanded request = true

ordinary_call : (call : PoolCall) → is_commanded_call call ≡ true → is_ordinary (ask.Pool call) ≡ true
ordinary_call (pool.Look id jobs) is = absurd (cc is)
ordinary_call call is = refl

pub ordinary : (request : Request) → is_commanded request ≡ true → is_ordinary request ≡ true
ordinary ask.Take is = absurd (cc is)
ordinary ask.TakeReady is = absurd (cc is)
ordinary (ask.Deliver n outcome) is = absurd (cc is)
ordinary (ask.Pool call) is = ordinary_call call is
ordinary request is = refl

-- a wait for jobs
abbrev pub is_wait : Request → Bool
is_wait (ask.Pool call) = is_look call
is_wait request = false

abbrev pub FitsGoal : Request → Goal → Type 0
FitsGoal request (goal.Pool variable) = is_wait request ≡ true
FitsGoal request _ = ⊤

abbrev pub FitsThen : Request → Then → Type 0
FitsThen request (after.Serve goal) = FitsGoal request goal
FitsThen request _ = is_commanded request ≡ true

abbrev pub Fits : Call → Type 0
Fits (call.Ask request next) = FitsThen request next
Fits _ = ⊤
