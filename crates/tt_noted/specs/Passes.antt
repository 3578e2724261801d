-- What contracts see of a pass and of a turn.
use Rattle.std.specs.Prelude.{◌≡◌, ℕ, ◌+◌, ◌-◌, ◌<◌, ◌≤◌, List, [], ◌∷◌, ◌++◌, length, slice_get, slice_set, Option}
use Rattle.std.specs.Prelude.{Some, None}
use Rattle.std.specs.Option.{option_map}
use Rattle.std.specs.List.{All, Any}
use Rattle.tt_noted.specs.declared.tie.Tie.{Ghosts}
use Rattle.tt_noted.specs.declared.pass.Pass.{Pass}
use Rattle.tt_noted.specs.declared.pass.Turn.{Turn}
use Rattle.tt_noted.specs.declared.noted.Noted.{Noted}

-- the number of passes that the lock was made with
abbrev pub count_of : {T S N : Type 0} → Noted T S N → ℕ
count_of lock = lock.table.shared.key.count

-- the state as the turn was entered
abbrev pub state_at_entry : {T S N : Type 0} → Turn T S N → S
state_at_entry turn = turn.entered.value

module _ {T S N : Type 0} {tie : Ghosts T S N} where
  -- the pass's number, from 1
  abbrev pub number_of : Pass T S N tie → ℕ
  number_of pass = pass.number

  -- the pass's note
  abbrev pub note_of : Pass T S N tie → Option N
  note_of pass = option_map (λ c. c.1) (slice_get pass.seat.me.0.notes 0)

  -- the state as the pass entered, while its turn is out
  abbrev pub turn_of : Pass T S N tie → Option S
  turn_of pass = pass.seat.me.0.turn

  -- the pass is of this lock
  abbrev pub IsPassOf : Noted T S N → Pass T S N tie → Type 0
  IsPassOf lock pass = (pass.seat.table_id ≡ lock.table.shared.table_id) × (pass.seat.me.0.count ≡ count_of lock)

  -- the note stands at the pass's number
  abbrev pub Tells : List N → Pass T S N tie → Type 0
  Tells notes pass = slice_get notes (number_of pass - 1) ≡ note_of pass

  -- the state fits the notes of all passes, listed by number, that of this pass among them
  abbrev pub FitsNotes : (S → List N → Type 0) → Noted T S N → Pass T S N tie → S → Type 0
  FitsNotes fits lock pass state =
      (notes : List N) × (length notes ≡ count_of lock) × Tells notes pass × fits state notes

  -- whatever the other notes are: if the state fitted as it was entered, it fits now with the new note
  abbrev pub KeepsFit : (S → List N → Type 0) → Noted T S N → Pass T S N tie → Turn T S N → N → Type 0
  KeepsFit fits lock pass turn note =
      (notes : List N) →
      length notes ≡ count_of lock →
      Tells notes pass →
      fits (state_at_entry turn) notes →
      fits turn.state (slice_set notes (number_of pass - 1) note)

  -- the pass of a new lock that is at index k of them all, with this note
  pub record IsFresh (lock : Noted T S N) (note : N) (k : ℕ) (pass : Pass T S N tie) : Type 0 where
    pub of_lock : IsPassOf lock pass
    pub numbered : number_of pass ≡ k + 1
    pub noted : note_of pass ≡ Some note
    pub no_turn : turn_of pass ≡ None

  -- the passes of a new lock, in order
  abbrev pub AreFresh : Noted T S N → ℕ → N → List (Pass T S N tie) → Type 0
  AreFresh lock n note passes =
      (length passes ≡ n)
      × ((k : ℕ) (p : Pass T S N tie) → slice_get passes k ≡ Some p → IsFresh lock note k p)

  -- the pass is of the lock as before, with the same number
  abbrev pub IsSamePass : Noted T S N → Pass T S N tie → Pass T S N tie → Type 0
  IsSamePass lock old new = IsPassOf lock new × (number_of new ≡ number_of old)

  -- these are all passes of the lock, and none has its turn out
  pub record AreAllPassesOf (lock : Noted T S N) (passes : List (Pass T S N tie)) : Type 0 where
    pub of_lock : All (IsPassOf lock) passes
    pub no_turn : All (λ p. turn_of p ≡ None) passes
    pub all : (number : ℕ) → 0 < number → number ≤ count_of lock → Any (λ p. number_of p ≡ number) passes

  -- the notes of these passes, each with its place
  abbrev pub notes_in : List (Pass T S N tie) → List (ℕ × N)
  notes_in [] = []
  notes_in (p ∷ ps) = p.seat.me.0.notes ++ notes_in ps

  -- the state fits the notes of these passes, listed by number
  abbrev pub FitsNotesOf : (S → List N → Type 0) → Noted T S N → List (Pass T S N tie) → S → Type 0
  FitsNotesOf fits lock passes state =
      (notes : List N) × (length notes ≡ count_of lock) × All (Tells notes) passes × fits state notes
