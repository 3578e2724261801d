-- The machine that a script runs on: its threads, each with its replies, over what they share (thread(n)).
use Rattle.std.specs.Prelude.{◌≡◌, ℕ, Bool, true, false, IsTrue, IsFalse, List, [], ◌∷◌, ◌++◌, length, drop, map}
use Rattle.std.specs.Prelude.{Option, Some, None}
use Rattle.tt_calls.specs.Numbers.{at_number, with_at}
use Rattle.tt_calls.specs.declared.reply.Reply.{Reply}
use Rattle.tt_calls.specs.declared.request.Request.{Request}
use Rattle.tt_calls.specs.declared.start.Start.{Start}
use Rattle.tt_calls.specs.declared.start.Start.TheVariants as start
use Rattle.tt_kept.specs.Beginning.{IsNext}
use Rattle.tt_kept.specs.declared.setup.Setup.{Setup}
use Rattle.tt_lines.specs.Lines.{TakesLine, reads_line}
use Rattle.tt_shared.specs.Acts.{act}
use Rattle.tt_shared.specs.Enabled.{enabled}
use Rattle.tt_shared.specs.State.{Acted, State, start_state}
use Rattle.tt_shared.specs.declared.applied.Line.{Line}
use Rattle.tt_shared.specs.declared.applied.Line.TheVariants.{NotRead}
use Rattle.tt_threads.specs.Rows.{is_living}
use Rattle.tt_threads.specs.declared.row.Row.{Row}

-- a thread: what it began with, and the replies that it has had
pub record Thread : Type 0 where
  pub start : Start
  pub replies : List Reply

-- the machine: how the run began, what the threads share, the threads by number from 1, what standard input still has,
-- and what was written on standard output and on standard error
pub record Machine : Type 0 where
  pub setup : Setup
  pub shared : State
  pub threads : List Thread
  pub input : List ℕ
  pub out : List ℕ
  pub err : List ℕ

-- a thread that was just made
abbrev pub new_thread : Row → Thread
new_thread row = record { start = row.start; replies = [] }

-- thread 1 alone, at the start of its script
abbrev pub start_machine : Setup → (input : List ℕ) → Machine
start_machine setup input = record {
  setup = setup;
  shared = start_state (start.Script setup.script);
  threads = (record { start = start.Script setup.script; replies = [] }) ∷ [];
  input = input;
  out = [];
  err = [];
}

-- ---- what a thread asks ----

-- a thread that lives asks this next, and serves these posts meanwhile
pub record ThreadAsks (machine : Machine) (number : ℕ) (request : Request) (serving : List ℕ) : Type 0 where
  pub thread : Thread
  pub made : at_number machine.threads number ≡ Some thread
  pub lives : IsTrue (is_living machine.shared.rows number)
  pub next : IsNext machine.setup number thread.start thread.replies request serving

-- ---- a step ----

-- the reply is added to those of the thread
abbrev pub thread_with_reply : Reply → Thread → Thread
thread_with_reply reply thread = record thread { replies = thread.replies ++ reply ∷ [] }

abbrev pub with_reply_at : List Thread → ℕ → Reply → Option Thread → List Thread
with_reply_at threads number reply None = threads
with_reply_at threads number reply (Some thread) = with_at threads number (thread_with_reply reply thread)

abbrev pub with_reply : List Thread → ℕ → Reply → List Thread
with_reply threads number reply = with_reply_at threads number reply (at_number threads number)

-- threads that were made begin
abbrev pub with_new_threads : List Thread → List Row → List Thread
with_new_threads threads rows = threads ++ map new_thread (drop (length threads) rows)

-- the machine after a request was answered, when standard input has this left
abbrev pub after_act : Machine → ℕ → Acted → (left : List ℕ) → Machine
after_act machine number acted left = record machine {
  shared = acted.state;
  threads = with_new_threads (with_reply machine.threads number acted.gives.reply) acted.state.rows;
  input = left;
  out = machine.out ++ acted.gives.out;
  err = machine.err ++ acted.gives.err;
}

-- what is read for a request
abbrev pub ReadsInput : Bool → (held : List ℕ) → Line → (left : List ℕ) → Type 0
ReadsInput true held line left = TakesLine held line left
ReadsInput false held line left = (line ≡ NotRead) × (left ≡ held)

-- a thread can take a step: what it asks next can be answered, and the run is not over
pub record CanStep (machine : Machine) (number : ℕ) : Type 0 where
  pub request : Request
  pub serving : List ℕ
  pub going : machine.shared.over ≡ None
  pub asks : ThreadAsks machine number request serving
  pub enabled : IsTrue (enabled machine.shared number request)

-- one step of a thread: its next request is answered
pub record Steps (old : Machine) (number : ℕ) (new : Machine) : Type 0 where
  pub can : CanStep old number
  pub line : Line
  pub left : List ℕ
  pub read : ReadsInput (reads_line can.request) old.input line left
  pub becomes : new ≡ after_act old number (act old.shared number can.request line) left

-- a thread can take none: the run is over; it asks nothing, for it has ended or was never made; or it has to wait
pub data IsBarred (machine : Machine) (number : ℕ) : Type 0 where
  over : {code : ℕ} → machine.shared.over ≡ Some code → IsBarred machine number
  silent :
      ((request : Request) (serving : List ℕ) → ¬ (ThreadAsks machine number request serving)) →
      IsBarred machine number
  waits : {request : Request} {serving : List ℕ} →
      ThreadAsks machine number request serving →
      IsFalse (enabled machine.shared number request) →
      IsBarred machine number

-- ---- a run ----

-- the machine after the steps of a list of threads
pub data Runs : Machine → (schedule : List ℕ) → Machine → Type 0 where
  none : {machine : Machine} → Runs machine [] machine
  more : {old next new : Machine} {number : ℕ} {schedule : List ℕ} →
      Steps old number next →
      Runs next schedule new →
      Runs old (number ∷ schedule) new

-- no thread can take a step, and the run is not over
pub record IsStuck (machine : Machine) : Type 0 where
  pub going : machine.shared.over ≡ None
  pub barred : (number : ℕ) → IsBarred machine number
