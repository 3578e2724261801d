-- The interpreters of the threads, and the threads of the machine that they stand for.
use Rattle.std.specs.Prelude.{◌≡◌, ◌<◌, ◌≤◌, ◌⊎◌, ⊤, ℕ, suc, Bool, false, IsTrue, IsFalse, List, [], ◌∷◌, ◌++◌, drop}
use Rattle.std.specs.Prelude.{length, map}
use Rattle.std.specs.Prelude.{Option, Some, None, if◌then◌else◌}
use Rattle.std.specs.Option.{option_flatten, option_map}
use Rattle.tt_calls.specs.Numbers.{at_number, with_at}
use Rattle.tt_calls.specs.declared.reply.Reply.{Reply}
use Rattle.tt_calls.specs.declared.request.Request.{Request}
use Rattle.tt_run.specs.Desk.{Ground, can_act}
use Rattle.tt_kept.specs.Beginning.{IsNext}
use Rattle.tt_interp.specs.Interps as interps
use Rattle.tt_interp.specs.Interps.{Interpreter}
use Rattle.tt_kept.specs.declared.setup.Setup.{Setup}
use Rattle.tt_machine.specs.Machine.{Thread, new_thread}
use Rattle.tt_threads.specs.declared.row.Row.{Row}

-- an interpreter for each thread that has not ended, by number from 1
abbrev pub Places : Type 0
Places = List (Option Interpreter)

-- that of a thread
abbrev pub interp_of : Places → ℕ → Option Interpreter
interp_of places number = option_flatten (at_number places number)

-- an interpreter in its place halts at what it asks
abbrev pub IsHalted : Option Interpreter → Type 0
IsHalted None = ⊤
IsHalted (Some interp) = IsTrue (interps.is_halted interp.standing)

-- what the thread of a place asks
abbrev pub asked_by : Places → ℕ → Option Request
asked_by places number = option_map (λ interp. interps.request_of interp.standing) (interp_of places number)

-- ---- what stands for what ----

-- it halts at what its thread asks next, and asks later what the thread does
pub record StandsIn (interp : Interpreter) (setup : Setup) (number : ℕ) (thread : Thread) : Type 0 where
  pub halted : IsTrue (interps.is_halted interp.standing)
  pub later : (replies : List Reply) (request : Request) (serving : List ℕ) →
      interps.InterpAsks interp replies request serving →
      IsNext setup number thread.start (thread.replies ++ replies) request serving

-- a thread that asks nothing
abbrev pub AsksNothing : Setup → (number : ℕ) → Thread → Type 0
AsksNothing setup number thread =
    (request : Request) (serving : List ℕ) → ¬ (IsNext setup number thread.start thread.replies request serving)

abbrev pub IsPlaced : Setup → (number : ℕ) → Thread → Option Interpreter → Type 0
IsPlaced setup number thread (Some interp) = StandsIn interp setup number thread
IsPlaced setup number thread None = AsksNothing setup number thread

-- each thread has its place, from a number on, as this says of a thread and a place
abbrev pub AreEach : {P : Type 0} → (Is : ℕ → Thread → P → Type 0) → (number : ℕ) → List Thread → List P → Type 0
AreEach Is number [] [] = ⊤
AreEach Is number (thread ∷ threads) (place ∷ places) = Is number thread place × AreEach Is (suc number) threads places
AreEach Is number [] (place ∷ places) = ⊥
AreEach Is number (thread ∷ threads) [] = ⊥

abbrev pub ArePlaced : Setup → (number : ℕ) → List Thread → Places → Type 0
ArePlaced setup number threads places = AreEach (IsPlaced setup) number threads places

-- ---- what becomes of them ----

-- the thread after the last begins
pub record BeginsLast (setup : Setup) (start : Thread) (old new : Places) : Type 0 where
  pub interp : Interpreter
  pub pushed : new ≡ old ++ Some interp ∷ []
  pub stands : StandsIn interp setup (suc (length old)) start

-- all that were made have their places
pub record AllMade {P : Type 0} (Is : ℕ → Thread → P → Type 0) (rows : List Row) (old new : List P) : Type 0 where
  pub more : List P
  pub pushed : new ≡ old ++ more
  pub placed : AreEach Is (suc (length old)) (map new_thread (drop (length old) rows)) more

-- all of them begin
abbrev pub AllBegin : Setup → List Row → (old new : Places) → Type 0
AllBegin setup rows old new = AllMade (IsPlaced setup) rows old new

-- an interpreter takes a reply and goes on with it, or its thread has ended
abbrev pub TakesReply : Interpreter → Reply → Option Interpreter → Type 0
TakesReply interp reply (Some later) =
    interps.GoesOn later interp (Some reply) × IsTrue (interps.is_halted later.standing)
TakesReply interp reply None = IsFalse (interps.fits interp.standing (Some reply))

abbrev pub Resumes : (goes : Bool) → Interpreter → Reply → Interpreter → Type 0
Resumes goes interp reply later = TakesReply interp reply (if goes then Some later else None)

-- a thread gets its reply
pub record IsReplied (number : ℕ) (reply : Reply) (old new : Places) : Type 0 where
  pub interp : Interpreter
  pub found : interp_of old number ≡ Some interp
  pub place : Option Interpreter
  pub goes : TakesReply interp reply place
  pub put : new ≡ with_at old number place

-- ---- what can be done ----

-- whether the thread's request can be answered
abbrev pub can_act_at : {S K E : Type 0} → Ground S K E → ℕ → Option Interpreter → Bool
can_act_at desk number None = false
can_act_at desk number (Some interp) = can_act desk number (interps.request_of interp.standing)

abbrev pub is_ready : {S K E : Type 0} → Ground S K E → Places → (number : ℕ) → Bool
is_ready desk places number = can_act_at desk number (interp_of places number)

-- nothing was met, the run isn't over, and nobody's request can be answered
pub record AreIdle {S K E : Type 0} (desk : Ground S K E) (places : Places) : Type 0 where
  pub unmet : desk.kept ≡ None
  pub going : desk.shared.over ≡ None
  pub unready : (number : ℕ) → IsFalse (is_ready desk places number)

-- the run is over, or somebody's request can be answered
pub data AreBusy {S K E : Type 0} (desk : Ground S K E) (places : Places) : Type 0 where
  ended : (code : ℕ) → desk.shared.over ≡ Some code → AreBusy desk places
  able : (number : ℕ) → IsTrue (is_ready desk places number) → AreBusy desk places

-- the first that is ready above a number, and else the first up to it
abbrev pub IsReadyAfter : (ready : ℕ → Bool) → (after : ℕ) → Option ℕ → Type 0
IsReadyAfter ready after None = (number : ℕ) → IsFalse (ready number)
IsReadyAfter ready after (Some next) =
    IsTrue (ready next)
    × (((after < next) × ((number : ℕ) → after < number → number < next → IsFalse (ready number)))
    ⊎ ((next ≤ after)
    × ((number : ℕ) → after < number → IsFalse (ready number))
    × ((number : ℕ) → number < next → IsFalse (ready number))))

-- the first of a range
abbrev pub IsFirstReady : (ready : ℕ → Bool) → (from to : ℕ) → Option ℕ → Type 0
IsFirstReady ready from to None = (number : ℕ) → from ≤ number → number ≤ to → IsFalse (ready number)
IsFirstReady ready from to (Some next) =
    IsTrue (ready next)
    × (from ≤ next)
    × (next ≤ to)
    × ((number : ℕ) → from ≤ number → number < next → IsFalse (ready number))
