-- What holds of every run, whatever its script is and whatever standard input has (thread(n), tsv(n), tpool(n),
-- chan(n)).
use Rattle.std.specs.Prelude.{◌≡◌, ◌≤◌, ◌<◌, ◌+◌, ◌*◌, ◌^◌, ℕ, List, ◌∷◌, ◌++◌, count_by, length}
use Rattle.std.specs.List.{All, Contains}
use Rattle.laws_pools.specs.PoolHappenings as in_pool
use Rattle.laws_pools.specs.PoolJobs.{JobsAreKept}
use Rattle.laws_sends.specs.Sends.{AnswersVariable, AnswersWaiting, IsAtTail, IsPosted, begins, ends, is_answer}
use Rattle.laws_shared.specs.Actions.{Action, moments}
use Rattle.laws_shared.specs.Happenings.{Happening, Began, Finished, Got, Set, happenings}
use Rattle.laws_shared.specs.Orderly.{KeepsArrays, KeepsChannels, KeepsLocks}
use Rattle.laws_shared.specs.SharedLaws.{ArraysStandAlone, IsPiped}
use Rattle.tt_calls.specs.declared.outcome.Outcome.{Outcome}
use Rattle.tt_calls.specs.declared.reply.Reply.{Reply}
use Rattle.tt_calls.specs.declared.start.Start.TheVariants.{Script}
use Rattle.tt_kept.specs.declared.setup.Setup.{Setup}
use Rattle.tt_machine.specs.Machine.{Machine, Runs, start_machine}
use Rattle.tt_machine.specs.RunActions.{run_actions}
use Rattle.tt_shared.specs.State.{State, start_state}

-- ---- sends ----

-- a script that is sent begins at most once, at the thread that it was posted to, after it was
pub record BeginOnce (happened : List Happening) : Type 0 where
  pub once : (n : ℕ) → count_by (begins n) happened ≤ 1
  pub posted :
      (before rest : List Happening) (n t : ℕ) →
      happened ≡ before ++ Began n t ∷ rest →
      IsPosted before n t

-- if one begins that was posted to the tail of a queue, those that were posted there before have begun before
abbrev pub BeginInOrder : (happened : List Happening) → Type 0
BeginInOrder happened =
    (before rest : List Happening) (n k t : ℕ) →
    happened ≡ before ++ Began n t ∷ rest →
    IsAtTail before n t →
    IsAtTail before k t →
    k < n →
    Contains before (Began k t)

-- a script was begun by a thread
pub record HasBegun (before : List Happening) (n : ℕ) : Type 0 where
  pub by : ℕ
  pub began : Contains before (Began n by)

-- A script ends at most once, and is finished after it began. It is answered at most once: to the thread that posted
-- it, as that asked for it, with what the script came to or with the end of its thread.
pub record AreAnswered (happened : List Happening) : Type 0 where
  pub ends_once : (n : ℕ) → count_by (ends n) happened ≤ 1
  pub answered_once : (n : ℕ) → count_by (is_answer n) happened ≤ 1
  pub finished :
      (before rest : List Happening) (n : ℕ) (outcome : Outcome) →
      happened ≡ before ++ Finished n outcome ∷ rest →
      HasBegun before n
  pub got :
      (before rest : List Happening) (n t : ℕ) (answered : Reply) →
      happened ≡ before ++ Got n t answered ∷ rest →
      AnswersWaiting before n t answered
  pub set :
      (before rest : List Happening) (n t : ℕ) (value : List ℕ) →
      happened ≡ before ++ Set n t value ∷ rest →
      AnswersVariable before n t value

-- ---- all laws ----

-- of the actions of a run from this state to that one
pub record AreLawful (setup : Setup) (actions : List Action) (state : State) : Type 0 where
  pub begins : BeginOnce (happenings (start_state (Script setup.script)) actions)
  pub order : BeginInOrder (happenings (start_state (Script setup.script)) actions)
  pub answers : AreAnswered (happenings (start_state (Script setup.script)) actions)
  pub arrays : All KeepsArrays (moments (start_state (Script setup.script)) actions)
  pub array_replies : ArraysStandAlone (start_state (Script setup.script)) actions state
  pub locks : All KeepsLocks (moments (start_state (Script setup.script)) actions)
  pub channels : All KeepsChannels (moments (start_state (Script setup.script)) actions)
  pub pipes : (id : List ℕ) → IsPiped (Script setup.script) actions state id
  pub jobs : (pool : ℕ) → JobsAreKept (in_pool.happenings pool (start_state (Script setup.script)) actions)

-- Of each run of a setup along a schedule, whatever standard input has. The schedule is one of so few steps that the
-- numbers of channels fit in 64 bits: those of the program have 16,777,216 at most.
abbrev pub Lawful : Setup → (schedule : List ℕ) → Type 0
Lawful setup schedule =
    1 + 2 * length schedule < 2 ^ 64 →
    (input : List ℕ) (machine : Machine) (ran : Runs (start_machine setup input) schedule machine) →
    AreLawful setup (run_actions ran) machine.shared

-- every schedule is lawful
abbrev pub LawfulLaw : Type 0
LawfulLaw = (setup : Setup) (schedule : List ℕ) → Lawful setup schedule
