-- What holds of every send, whatever threads ask (thread(n): thread::send, thread::broadcast, thread::errorproc).
use Rattle.std.specs.Prelude.{◌≡◌, ◌≤◌, ◌<◌, ℕ, ◌==◌, Bool, false, List, ◌∷◌, ◌++◌, codes, count_by, ⊤}
use Rattle.std.specs.List.{Contains}
use Rattle.laws_shared.specs.Actions.{Action, Acts}
use Rattle.laws_shared.specs.Happenings.{Happening, Recipient, Posted, Began, Finished, Died, Got, Set}
use Rattle.laws_shared.specs.Happenings.{Waiting, Variable, happenings}
use Rattle.tt_calls.specs.declared.outcome.Outcome.{Outcome}
use Rattle.tt_calls.specs.declared.reply.Reply.{Reply}
use Rattle.tt_calls.specs.declared.reply.Reply.TheVariants as reply
use Rattle.tt_calls.specs.declared.start.Start.{Start}
use Rattle.tt_shared.specs.State.{State, start_state}

-- ---- how often ----

-- a script begins; it comes to its end, finished or with its thread; its answer is handed over
abbrev pub begins : ℕ → Happening → Bool
begins n (Began m t) = m == n
begins n other = false

abbrev pub ends : ℕ → Happening → Bool
ends n (Finished m outcome) = m == n
ends n (Died m) = m == n
ends n other = false

abbrev pub is_answer : ℕ → Happening → Bool
is_answer n (Got m t answered) = m == n
is_answer n (Set m t value) = m == n
is_answer n other = false

-- each of them at most once
pub record AreOnce (happened : List Happening) : Type 0 where
  pub begins_once : (n : ℕ) → count_by (begins n) happened ≤ 1
  pub ends_once : (n : ℕ) → count_by (ends n) happened ≤ 1
  pub answered_once : (n : ℕ) → count_by (is_answer n) happened ≤ 1

-- ---- after what ----

-- script n was posted to thread t
pub record IsPosted (before : List Happening) (n t : ℕ) : Type 0 where
  pub from : ℕ
  pub recipient : Recipient
  pub head : Bool
  pub posted : Contains before (Posted n from t recipient head)

-- it was posted to the tail of the queue of thread t
pub record IsAtTail (before : List Happening) (n t : ℕ) : Type 0 where
  pub from : ℕ
  pub recipient : Recipient
  pub posted : Contains before (Posted n from t recipient false)

-- It begins at the thread that it was posted to. Of scripts at the tail of its queue, those that were posted before
-- have begun before.
pub record BeginsInTurn (before : List Happening) (n t : ℕ) : Type 0 where
  pub posted : IsPosted before n t
  pub in_order :
      (k : ℕ) →
      IsAtTail before n t →
      IsAtTail before k t →
      k < n →
      Contains before (Began k t)

-- who waits gets what the script came to, or that its thread has ended
pub data IsReply (before : List Happening) (n : ℕ) : Reply → Type 0 where
  finished : (outcome : Outcome) → Contains before (Finished n outcome) → IsReply before n (reply.Answer outcome)
  died : Contains before (Died n) → IsReply before n reply.Died

-- a variable is set to that
pub data IsValue (before : List Happening) (n : ℕ) : List ℕ → Type 0 where
  finished : (outcome : Outcome) → Contains before (Finished n outcome) → IsValue before n outcome.value
  died : Contains before (Died n) → IsValue before n (codes "target thread died")

-- the answer goes to the thread that posted the script, as it asked for it
pub record IsAskedBy (before : List Happening) (n t : ℕ) (recipient : Recipient) : Type 0 where
  pub to : ℕ
  pub head : Bool
  pub posted : Contains before (Posted n t to recipient head)

pub record AnswersWaiting (before : List Happening) (n t : ℕ) (answered : Reply) : Type 0 where
  pub asked : IsAskedBy before n t Waiting
  pub is : IsReply before n answered

pub record AnswersVariable (before : List Happening) (n t : ℕ) (value : List ℕ) : Type 0 where
  pub asked : IsAskedBy before n t Variable
  pub is : IsValue before n value

-- what a happening comes after
abbrev pub ComesAfter : (before : List Happening) → Happening → Type 0
ComesAfter before (Began n t) = BeginsInTurn before n t
ComesAfter before (Got n t answered) = AnswersWaiting before n t answered
ComesAfter before (Set n t value) = AnswersVariable before n t value
ComesAfter before other = ⊤

-- ---- the law ----

pub record SendsAreKept (happened : List Happening) : Type 0 where
  pub once : AreOnce happened
  pub after :
      (before rest : List Happening) (one : Happening) →
      happened ≡ before ++ one ∷ rest →
      ComesAfter before one

-- of every list of actions from the start
abbrev pub SendLaw : Type 0
SendLaw =
    (main : Start) (actions : List Action) (state : State) →
    Acts (start_state main) actions state →
    SendsAreKept (happenings (start_state main) actions)
