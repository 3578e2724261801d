-- Where the threads of a run are.
use Rattle.std.specs.Prelude.{◌≡◌, ◌+◌, ◌-◌, ◌++◌, ⊤, ℕ, Bool, true, false, IsTrue, List, [], Option, Some, None}
use Rattle.std.specs.Prelude.{slice_get}
use Rattle.tt_calls.specs.Numbers.{at_number}
use Rattle.tt_calls.specs.declared.reply.Reply.{Reply}
use Rattle.tt_calls.specs.declared.request.Request.{Request}
use Rattle.tt_core.specs.inside.Crew.{AreEach, AsksNothing, StandsIn}
use Rattle.tt_run.specs.Desk.{Ground, can_act}
use Rattle.tt_kept.specs.Beginning.{IsNext}
use Rattle.tt_interp.specs.Interps as interps
use Rattle.tt_interp.specs.Interps.{Interpreter}
use Rattle.tt_kept.specs.declared.setup.Setup.{Setup}
use Rattle.tt_machine.specs.Machine.{Machine, Thread}
use Rattle.tt_workers.specs.Ran.{Beginning}
use Rattle.tt_workers.specs.declared.next.Task.{Task}
use Rattle.tt_workers.specs.declared.place.Place.{Place}
use Rattle.tt_workers.specs.declared.place.Place.TheVariants as place

-- a pass's note: how the run began, and the thread that is out at the pass, with its interpreter and the reply as they
-- were handed out
pub record Note (S K E : Type 0) : Type 0 where
  pub begun : Beginning S K E
  pub out : Option Task

-- who is out by a note
abbrev pub noted_in : {S K E : Type 0} → Option (Note S K E) → Option Task
noted_in None = None
noted_in (Some note) = note.out

-- ---- what stands for what ----

-- a thread that has had no reply, and an interpreter for it that has evaluated nothing
pub record IsNew (interp : Interpreter) (setup : Setup) (number : ℕ) (thread : Thread) : Type 0 where
  pub no_reply : thread.replies ≡ []
  pub fresh : IsTrue (interps.is_fresh interp.standing)
  pub stands : interps.StandsFor interp setup number thread.start

-- a thread that was handed out: what its interpreter asks after what is given with it, it asks after its replies
pub record IsGiven (task : Task) (setup : Setup) (number : ℕ) (thread : Thread) : Type 0 where
  pub named : task.thread ≡ number
  pub fits : IsTrue (interps.fits task.interp.standing task.reply)
  pub later : (replies : List Reply) (request : Request) (serving : List ℕ) →
      interps.InterpAsks task.interp (interps.with_given task.reply replies) request serving →
      IsNext setup number thread.start (thread.replies ++ replies) request serving

abbrev pub IsGivenBy : Option Task → Setup → (number : ℕ) → Thread → Type 0
IsGivenBy None setup number thread = ⊥
IsGivenBy (Some task) setup number thread = IsGiven task setup number thread

-- a thread that was just made
abbrev pub IsFreshPlace : Setup → (number : ℕ) → Thread → Place → Type 0
IsFreshPlace setup number thread (place.Fresh interp) = IsNew interp setup number thread
IsFreshPlace setup number thread (place.Parked interp) = ⊥
IsFreshPlace setup number thread (place.Out pass) = ⊥
IsFreshPlace setup number thread place.Gone = ⊥

-- A thread in its place: fresh; parked with an interpreter that halts at what it asks next; out at a pass, as the
-- pass's note has it; or gone, and then it asks nothing.
abbrev pub IsAtPlace : {S K E : Type 0} → List (Note S K E) → Setup → (number : ℕ) → Thread → Place → Type 0
IsAtPlace notes setup number thread (place.Fresh interp) = IsNew interp setup number thread
IsAtPlace notes setup number thread (place.Parked interp) = StandsIn interp setup number thread
IsAtPlace notes setup number thread (place.Out pass) =
    IsGivenBy (noted_in (slice_get notes (pass - 1))) setup number thread
IsAtPlace notes setup number thread place.Gone = AsksNothing setup number thread

-- each thread is in its place, and those that notes name are out at the passes of these
pub record AreWhere {S K E : Type 0} (notes : List (Note S K E)) (places : List Place)
    (machine : Machine) : Type 0 where
  pub placed : AreEach (IsAtPlace notes machine.setup) 1 machine.threads places
  pub out : (index : ℕ) (task : Task) →
      noted_in (slice_get notes index) ≡ Some task →
      slice_get places (task.thread - 1) ≡ Some (place.Out (index + 1))

-- ---- who can go on ----

-- what a parked thread asks
abbrev pub asked_at : Option Place → Option Request
asked_at None = None
asked_at (Some (place.Fresh interp)) = None
asked_at (Some (place.Parked interp)) = Some (interps.request_of interp.standing)
asked_at (Some (place.Out pass)) = None
asked_at (Some place.Gone) = None

-- whether a thread can go on: it is fresh, or it is parked and what it asks can be answered
abbrev pub can_go_at : {S K E : Type 0} → Ground S K E → (number : ℕ) → Option Place → Bool
can_go_at desk number None = false
can_go_at desk number (Some (place.Fresh interp)) = true
can_go_at desk number (Some (place.Parked interp)) = can_act desk number (interps.request_of interp.standing)
can_go_at desk number (Some (place.Out pass)) = false
can_go_at desk number (Some place.Gone) = false

abbrev pub can_go : {S K E : Type 0} → Ground S K E → List Place → (number : ℕ) → Bool
can_go desk places number = can_go_at desk number (at_number places number)

-- ---- inside ----

-- a thread is fresh
abbrev pub is_fresh_at : Option Place → Bool
is_fresh_at None = false
is_fresh_at (Some (place.Fresh interp)) = true
is_fresh_at (Some (place.Parked interp)) = false
is_fresh_at (Some (place.Out pass)) = false
is_fresh_at (Some place.Gone) = false

-- an interpreter in its place has evaluated nothing, or halts at what it asks
abbrev pub IsFit : Place → Type 0
IsFit (place.Fresh interp) = IsTrue (interps.is_fresh interp.standing)
IsFit (place.Parked interp) = IsTrue (interps.is_halted interp.standing)
IsFit (place.Out pass) = ⊤
IsFit place.Gone = ⊤
