-- What a worker brings to a turn, and what it takes from it.
use Rattle.std.specs.Prelude.{◌≡◌, ◌≢◌, ◌-◌, ⊤, ℕ, IsTrue, IsFalse, List, Option, Some, None, slice_get, slice_set}
use Rattle.tt_calls.specs.Numbers.{at_number}
use Rattle.tt_devices.specs.declared.sink.Sink.{Ghosts as OfSink}
use Rattle.tt_devices.specs.declared.source.Source.{Ghosts as OfSource}
use Rattle.tt_interp.specs.Interps as interps
use Rattle.tt_workers.specs.inside.Places.{Note, can_go}
use Rattle.tt_workers.specs.inside.World.{IsTied, Realm}
use Rattle.tt_workers.specs.declared.next.Done.{Done}
use Rattle.tt_workers.specs.declared.next.Resumption.TheVariants.{Halted}
use Rattle.tt_workers.specs.declared.next.Next.{Next}
use Rattle.tt_workers.specs.declared.next.Next.TheVariants.{Run, Rest, Over}
use Rattle.tt_workers.specs.declared.next.Task.{Task}
use Rattle.tt_workers.specs.declared.place.Place.TheVariants.{Out}

-- ---- what is brought ----

-- the thread that was handed out, whose interpreter stands after what was given with it and halts, unless memory was
-- refused
pub record IsBack (task : Task) (done : Done) : Type 0 where
  pub thread : done.thread ≡ task.thread
  pub goes : done.resumption ≡ Halted → interps.GoesOn done.interp task.interp task.reply
  pub halted : done.resumption ≡ Halted → IsTrue (interps.is_halted done.interp.standing)

-- what was handed out comes back, and nothing else does
abbrev pub MayReturn : Option Task → Option Done → Type 0
MayReturn None None = ⊤
MayReturn (Some task) (Some done) = IsBack task done
MayReturn None (Some done) = ⊥
MayReturn (Some task) None = ⊥

-- by the note of this pass, which there is
pub record Returns {S K E : Type 0} (notes : List (Note S K E)) (pass : ℕ) (done : Option Done) : Type 0 where
  pub note : Note S K E
  pub noted : slice_get notes (pass - 1) ≡ Some note
  pub may : MayReturn note.out done

-- ---- what is taken ----

abbrev pub out_of : Next → Option Task
out_of (Run task) = Some task
out_of Rest = None
out_of Over = None

-- what is given with a thread fits its interpreter
abbrev pub IsReady : Next → Type 0
IsReady (Run task) = IsTrue (interps.fits task.interp.standing task.reply)
IsReady Rest = ⊤
IsReady Over = ⊤

-- nobody can go on, and somebody is out at another pass
pub record IsResting {S K E : Type 0} (pass : ℕ) (world : Realm S K E) : Type 0 where
  pub going : world.end ≡ None
  pub unready : (number : ℕ) → IsFalse (can_go world.desk world.places number)
  pub other : ℕ
  pub elsewhere : other ≢ pass
  pub thread : ℕ
  pub out : at_number world.places thread ≡ Some (Out other)

-- What is answered: a thread, which is then out at this pass; to rest, if nobody can go on; or that it is over, if
-- the run has its end.
abbrev pub IsNextAt : {S K E : Type 0} → (pass : ℕ) → Realm S K E → Next → Type 0
IsNextAt pass world (Run task) = (world.end ≡ None) × (at_number world.places task.thread ≡ Some (Out pass))
IsNextAt pass world Rest = IsResting pass world
IsNextAt pass world Over = world.end ≢ None

-- ---- what a turn leaves ----

-- the end of a run stays, and so do the steps and the devices
pub record StaysEnded {S K E : Type 0} (old new : Realm S K E) : Type 0 where
  pub end : new.end ≡ old.end
  pub schedule : new.desk.schedule ≡ old.desk.schedule
  pub devices : new.desk.devices ≡ old.desk.devices

-- the note of a pass from then on
abbrev pub note_after : {S K E : Type 0} → Realm S K E → Option Task → Note S K E
note_after world out = record { begun = world.begun; out = out }

module _ {S K E : Type 0} (source : OfSource S) (output : OfSink K) (errors : OfSink E) where
  -- whatever the notes are: if they fitted, and what was brought is as this pass's note has it, they fit with its
  -- new note
  abbrev pub KeepsTied : (old new : Realm S K E) → (pass : ℕ) → Option Done → Next → Type 0
  KeepsTied old new pass done next =
      (notes : List (Note S K E)) →
      IsTied source output errors old notes →
      Returns notes pass done →
      IsTied source output errors new (slice_set notes (pass - 1) (note_after new (out_of next)))
