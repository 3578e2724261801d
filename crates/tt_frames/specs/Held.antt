-- Scripts that are evaluated while an array or a mutex is held (tsv(n), tsv::lock; thread(n), thread::eval).
use Rattle.std.specs.Prelude.{ℕ, nat_lt, if◌then◌else◌, List, None}
use Rattle.tt_calls.specs.declared.lock_call.Family.TheVariants.{Mutex}
use Rattle.tt_calls.specs.declared.lock_call.LockCall.TheVariants.{Unlock}
use Rattle.tt_calls.specs.declared.request.Request.{Request}
use Rattle.tt_calls.specs.declared.request.Request.TheVariants as ask
use Rattle.tt_calls.specs.declared.tsv_call.TsvCall.TheVariants.{Unhold}
use Rattle.tt_outcomes.specs.Endings.{error_ending}
use Rattle.tt_outcomes.specs.declared.ending.Ending.{Ending}
use Rattle.tt_evaluation.specs.Plans.{Asks, Calls}
use Rattle.tt_outcomes.specs.declared.want.Want.TheVariants.{Ask}
use Rattle.tt_frames.specs.Nesting.{deeper, shallower, too_deep}
use Rattle.tt_frames.specs.Vocabulary.{OnEnding, Then, same_ending}
use Rattle.tt_frames.specs.declared.job.Hold.{Hold}
use Rattle.tt_frames.specs.declared.job.Hold.TheVariants as hold
use Rattle.tt_frames.specs.declared.job.Job.TheVariants as job
use Rattle.tt_frames.specs.declared.state.TheConstants.{DEEPEST}

-- what ends a hold
abbrev pub release_of : Hold → Request
release_of (hold.Array array) = ask.Tsv (Unhold array)
release_of (hold.Mutex id) = ask.Lock (Unlock Mutex id)

-- the hold is ended, and then that is the ending, whatever the reply is
abbrev pub letting_go : Hold → Ending → Then
letting_go hold ending state = Asks (Ask (release_of hold)) state (λ got. same_ending ending)

-- the script ended so
abbrev pub end_of_hold : Hold → OnEnding
end_of_hold hold ending state = letting_go hold ending (shallower state)

-- a script in a nested evaluation while something is held; past the limit the hold is ended at once
abbrev pub script_in_hold : Hold → (text : List ℕ) → Then
script_in_hold hold text state =
    if nat_lt state.nested DEEPEST
    then Calls None (job.Script text) (deeper state) (end_of_hold hold)
    else letting_go hold (error_ending too_deep) state
