-- What a debugging session shows of a run at a place of its schedule (thread(n)).
use Rattle.std.specs.Prelude.{◌≡◌, ◌⊎◌, ◌<◌, ◌≤◌, ◌+◌, ◌-◌, ℕ, zero, suc, IsFalse, List, [], ◌++◌, length, take}
use Rattle.std.specs.Prelude.{Option, Some, None, slice_index}
use Rattle.tt_calls.specs.declared.request.Request.{Request}
use Rattle.tt_debug.specs.Commands.{command_of}
use Rattle.tt_debug.specs.Lines.{array_shown, bytes_shown, place_line, queue_shown, thread_line, unknown_line}
use Rattle.tt_debug.specs.declared.command.Command.{Command}
use Rattle.tt_debug.specs.declared.command.Command.TheVariants.{Step, Back, To, Threads, Queue, Array, Bytes, Unknown}
use Rattle.tt_kept.specs.declared.setup.Setup.{Setup}
use Rattle.tt_machine.specs.Machine.{IsBarred, Machine, Runs, ThreadAsks, start_machine}
use Rattle.tt_shared.specs.Enabled.{enabled}
use Rattle.tt_threads.specs.Rows.{is_living}

-- ---- places ----

-- the machine at a place: after so many entries of the schedule, with an empty standard input
abbrev pub RunsTo : Setup → (given : List ℕ) → (place : ℕ) → Machine → Type 0
RunsTo setup given place machine = Runs (start_machine setup []) (take place given) machine

-- no entry can be taken there: the schedule ends, or the thread of the next entry is barred
pub data IsHeld (given : List ℕ) (place : ℕ) (machine : Machine) : Type 0 where
  ended : place ≡ length given → IsHeld given place machine
  barred : place < length given → IsBarred machine (slice_index given place) → IsHeld given place machine

-- where one comes to who wants to be at a place: there, or at the last one before it that can be reached
pub record ComesTo (setup : Setup) (given : List ℕ) (wanted place : ℕ) : Type 0 where
  pub machine : Machine
  pub within : place ≤ length given
  pub ran : RunsTo setup given place machine
  pub stops : (place ≡ wanted) ⊎ ((place < wanted) × IsHeld given place machine)

-- ---- threads ----

-- a thread that lives has a line, by what it asks next; another has none
pub data IsLineOf (machine : Machine) (number : ℕ) (text : List ℕ) : Type 0 where
  living : {request : Request} {serving : List ℕ} →
      ThreadAsks machine number request serving →
      text ≡ thread_line number (enabled machine.shared number request) request →
      IsLineOf machine number text
  absent : IsFalse (is_living machine.shared.rows number) → text ≡ [] → IsLineOf machine number text

-- the lines of the threads from 1 to a number
pub record AreJoined (machine : Machine) (Before : List ℕ → Type 0) (number : ℕ) (text : List ℕ) : Type 0 where
  pub before : List ℕ
  pub last : List ℕ
  pub are : Before before
  pub is : IsLineOf machine number last
  pub joined : text ≡ before ++ last

abbrev pub AreLines : Machine → (number : ℕ) → List ℕ → Type 0
AreLines machine zero text = text ≡ []
AreLines machine (suc number) text = AreJoined machine (AreLines machine number) (suc number) text

-- of all threads, while the run isn't over
abbrev pub AreThreads : (over : Option ℕ) → Machine → List ℕ → Type 0
AreThreads None machine text = AreLines machine (length machine.shared.rows) text
AreThreads (Some code) machine text = text ≡ []

-- ---- commands ----

-- what a command shows at a place, and the place after it
abbrev pub Shows : Setup → (given : List ℕ) → Command → (place : ℕ) → Machine → (text : List ℕ) → (later : ℕ) → Type 0
Shows setup given (Step count) place machine text later =
    ComesTo setup given (place + count) later × (text ≡ place_line later)
Shows setup given (Back count) place machine text later =
    ComesTo setup given (place - count) later × (text ≡ place_line later)
Shows setup given (To wanted) place machine text later = ComesTo setup given wanted later × (text ≡ place_line later)
Shows setup given Threads place machine text later =
    AreThreads machine.shared.over machine text × (later ≡ place)
Shows setup given (Queue thread) place machine text later =
    (text ≡ queue_shown machine.shared thread) × (later ≡ place)
Shows setup given (Array name) place machine text later =
    (text ≡ array_shown machine.shared name) × (later ≡ place)
Shows setup given Bytes place machine text later =
    (text ≡ bytes_shown (length machine.out) (length machine.err)) × (later ≡ place)
Shows setup given Unknown place machine text later = (text ≡ unknown_line) × (later ≡ place)

-- a command is obeyed at a place
pub record IsObeyed (setup : Setup) (given : List ℕ) (command : Command) (place : ℕ) (text : List ℕ) (later : ℕ) :
    Type 0 where
  pub machine : Machine
  pub ran : RunsTo setup given place machine
  pub shows : Shows setup given command place machine text later

-- what a line of the session shows at a place, and the place after it
abbrev pub IsShownAt :
    Setup → (given : List ℕ) → (place : ℕ) → (line text : List ℕ) → (later : ℕ) → Type 0
IsShownAt setup given place line text later = IsObeyed setup given (command_of line) place text later
