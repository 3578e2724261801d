-- What the parts of a turn do.
use Rattle.std.specs.Prelude.{◌≡◌, ◌≤◌, ◌-◌, ℕ, suc, IsSome, List, length, Option, Some, None, slice_get, slice_set}
use Rattle.tt_calls.specs.declared.reply.Reply.{Reply}
use Rattle.tt_core.specs.inside.Crew.{AllMade}
use Rattle.tt_devices.specs.declared.sink.Sink.{Ghosts as OfSink}
use Rattle.tt_devices.specs.declared.source.Source.{Ghosts as OfSource}
use Rattle.tt_kept.specs.declared.setup.Setup.{Setup}
use Rattle.tt_threads.specs.declared.row.Row.{Row}
use Rattle.tt_workers.specs.Ends.{fault_so_far}
use Rattle.tt_workers.specs.inside.Places.{IsFreshPlace, Note}
use Rattle.tt_workers.specs.inside.Rosters.{HandsOut}
use Rattle.tt_core.specs.Parts.{IsFirstPart}
use Rattle.tt_workers.specs.inside.Turns.{IsNextAt, IsReady, Returns, StaysEnded, note_after, out_of}
use Rattle.tt_workers.specs.inside.World.{IsTied, Realm}
use Rattle.tt_workers.specs.declared.next.Done.{Done}
use Rattle.tt_workers.specs.declared.next.Next.{Next}
use Rattle.tt_workers.specs.declared.next.Task.{Task}
use Rattle.tt_workers.specs.declared.place.Place.{Place}

-- nobody is out by the note of this pass
pub record IsVacant {S K E : Type 0} (notes : List (Note S K E)) (pass : ℕ) : Type 0 where
  pub note : Note S K E
  pub noted : slice_get notes (pass - 1) ≡ Some note
  pub empty : note.out ≡ None

-- a parked thread gets its reply, and threads that were made with it are there
pub record Replies (setup : Setup) (rows : List Row) (number pass : ℕ) (reply : Reply) (old new : List Place)
    (task : Option Task) : Type 0 where
  pub mid : List Place
  pub out : HandsOut number pass reply old mid task
  pub made : AllMade (IsFreshPlace setup) rows mid new

-- who is handed out in a round
abbrev pub next_of : Option Next → Option Task
next_of None = None
next_of (Some next) = out_of next

-- a round ends the turn so, or it took a step and ended its thread
abbrev pub GoesTo : {S K E : Type 0} → (pass : ℕ) → (old new : Realm S K E) → Option Next → Type 0
GoesTo pass old new (Some next) = IsReady next × IsNextAt pass new next
GoesTo pass old new None = (new.end ≡ None) × (length new.desk.schedule ≡ suc (length old.desk.schedule))

pub record Rounds {S K E : Type 0} (pass : ℕ) (old new : Realm S K E) (next : Option Next) : Type 0 where
  pub begun : new.begun ≡ old.begun
  pub kept : new.desk.kept ≡ fault_so_far new.end
  pub longer : IsFirstPart old.desk.schedule new.desk.schedule
  pub within : length new.desk.schedule ≤ new.begun.steps
  pub ended : IsSome old.end → StaysEnded old new
  pub goes : GoesTo pass old new next

module _ {S K E : Type 0} (source : OfSource S) (output : OfSink K) (errors : OfSink E) where
  -- whatever the notes are: if they fitted and nobody was out at this pass, they fit with its new note
  abbrev pub KeepsVacant : (old new : Realm S K E) → (pass : ℕ) → Option Task → Type 0
  KeepsVacant old new pass out =
      (notes : List (Note S K E)) →
      IsTied source output errors old notes →
      IsVacant notes pass →
      IsTied source output errors new (slice_set notes (pass - 1) (note_after new out))

  -- a thread comes back
  pub record TakesBack (done : Done) (old new : Realm S K E) : Type 0 where
    pub keeps : (notes : List (Note S K E)) (pass : ℕ) →
        IsTied source output errors old notes →
        Returns notes pass (Some done) →
        IsTied source output errors new (slice_set notes (pass - 1) (note_after new None))
    pub begun : new.begun ≡ old.begun
    pub kept : new.desk.kept ≡ fault_so_far new.end
    pub schedule : new.desk.schedule ≡ old.desk.schedule
    pub ended : IsSome old.end → StaysEnded old new

  -- so far in a turn
  pub record Turning (pass : ℕ) (done : Option Done) (old mid : Realm S K E) : Type 0 where
    pub keeps : (notes : List (Note S K E)) →
        IsTied source output errors old notes →
        Returns notes pass done →
        IsTied source output errors mid (slice_set notes (pass - 1) (note_after mid None))
    pub begun : mid.begun ≡ old.begun
    pub kept : mid.desk.kept ≡ fault_so_far mid.end
    pub within : length mid.desk.schedule ≤ mid.begun.steps
    pub longer : IsFirstPart old.desk.schedule mid.desk.schedule
    pub ended : IsSome old.end → StaysEnded old mid
