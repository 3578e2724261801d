-- What becomes of places.
use Rattle.std.specs.Prelude.{◌≡◌, ◌==◌, ◌++◌, ℕ, suc, Bool, false, not, IsTrue, IsFalse, List, [], ◌∷◌, length, Option}
use Rattle.std.specs.Prelude.{Some, None}
use Rattle.tt_calls.specs.Numbers.{at_number, with_at}
use Rattle.tt_calls.specs.declared.reply.Reply.{Reply}
use Rattle.tt_calls.specs.declared.start.Start.{Start}
use Rattle.tt_interp.specs.Interps as interps
use Rattle.tt_interp.specs.Interps.{Interpreter}
use Rattle.tt_kept.specs.declared.setup.Setup.{Setup}
use Rattle.tt_workers.specs.inside.Places.{IsFreshPlace}
use Rattle.tt_workers.specs.declared.next.Task.{Task}
use Rattle.tt_workers.specs.declared.place.Place.{Place}
use Rattle.tt_workers.specs.declared.place.Place.TheVariants as place

-- a thread that was made is there
pub record BeginsAt (setup : Setup) (start : Start) (old new : List Place) : Type 0 where
  pub place : Place
  pub pushed : new ≡ old ++ place ∷ []
  pub fresh : IsFreshPlace setup (suc (length old)) (record { start = start; replies = [] }) place

-- a fresh thread is handed out
pub record HandsOutFresh (number pass : ℕ) (old new : List Place) (task : Task) : Type 0 where
  pub found : at_number old number ≡ Some (place.Fresh task.interp)
  pub put : new ≡ with_at old number (place.Out pass)
  pub thread : task.thread ≡ number
  pub no_reply : task.reply ≡ None
  pub fits : IsTrue (interps.fits task.interp.standing task.reply)

-- where a thread is then
abbrev pub place_after : (pass : ℕ) → Option Task → Place
place_after pass None = place.Gone
place_after pass (Some task) = place.Out pass

-- it is handed out with its reply, unless nothing can follow that
abbrev pub IsHandedOut : (number : ℕ) → Interpreter → Reply → Option Task → Type 0
IsHandedOut number interp reply (Some task) =
    (task ≡ record { thread = number; interp = interp; reply = Some reply })
    × IsTrue (interps.fits task.interp.standing task.reply)
IsHandedOut number interp reply None = IsFalse (interps.fits interp.standing (Some reply))

-- a parked thread gets its reply
pub record HandsOut (number pass : ℕ) (reply : Reply) (old new : List Place) (task : Option Task) : Type 0 where
  pub interp : Interpreter
  pub found : at_number old number ≡ Some (place.Parked interp)
  pub put : new ≡ with_at old number (place_after pass task)
  pub given : IsHandedOut number interp reply task

-- a thread is out at another pass than this
abbrev pub is_elsewhere_at : (pass : ℕ) → Option Place → Bool
is_elsewhere_at pass None = false
is_elsewhere_at pass (Some (place.Fresh interp)) = false
is_elsewhere_at pass (Some (place.Parked interp)) = false
is_elsewhere_at pass (Some (place.Out other)) = not (other == pass)
is_elsewhere_at pass (Some place.Gone) = false

-- the places after a thread came back: it is parked in its place, if it has one
abbrev pub parked_in : List Place → (number : ℕ) → Interpreter → Option Place → List Place
parked_in places number interp None = places
parked_in places number interp (Some was) = with_at places number (place.Parked interp)

abbrev pub parked_at : List Place → (number : ℕ) → Interpreter → List Place
parked_at places number interp = parked_in places number interp (at_number places number)

-- the interpreter of a parked thread is taken, unless it can't be resumed with what is given
abbrev pub IsTaken : (pass : ℕ) → Interpreter → (given : Option Reply) → Place → Option Interpreter → Type 0
IsTaken pass interp given new (Some taken) =
    (taken ≡ interp) × (new ≡ place.Out pass) × IsTrue (interps.fits interp.standing given)
IsTaken pass interp given new None = (new ≡ place.Gone) × IsFalse (interps.fits interp.standing given)

pub record TakesParked (pass : ℕ) (given : Option Reply) (old new : Place) (taken : Option Interpreter) : Type 0 where
  pub interp : Interpreter
  pub was : old ≡ place.Parked interp
  pub is_taken : IsTaken pass interp given new taken
