-- The rule of the table under the lock, and what its steps say. The table has one word and one slot.
-- While a pass has its turn word 0 is odd, and the slot is with that pass. Else it is even, and the slot has the state.
use Rattle.std.specs.Prelude.{◌≡◌, ◌≢◌, ℕ, ◌%◌, ◌<◌, List, [], ◌∷◌, ◌++◌, map, length, take, drop, replicate, slice_get}
use Rattle.std.specs.Prelude.{slice_index, slice_set, Option, Some, None, IfSome}
use Rattle.std.specs.List.{enumerate_from}
use mathlib.Core.Option.{some}
use lib.ListN.{get_elem?}
use Rattle.atomic_table.specs.Table.{State, Me, Step, rest}
use Rattle.tt_noted.specs.declared.table.View.{View}
use Rattle.tt_noted.specs.declared.table.Opening.{Opening}

-- the table as the rule sees it
abbrev pub Board : Type 0 → Type 0 → Type 0
Board S N = State (Option S) (View S N)

-- what a seat knows, and the slots that it holds
abbrev pub Sat : Type 0 → Type 0 → Type 0
Sat S N = Me (Option S) (View S N)

-- the slots that a pass's seat holds between two calls: the empty one, while its turn is out
abbrev pub held_slots : {S : Type 0} → Option S → List (ℕ × Option S)
held_slots None = []
held_slots (Some state) = (0, None) ∷ []

module _ {S N : Type 0} where
  -- the view with these notes, which is the holder's if it has a turn
  abbrev pub view : ℕ → List (ℕ × N) → Option S → View S N
  view count notes turn = record { count = count; notes = notes; turn = turn }

  -- the first view has all notes, each as the lock was made with
  abbrev pub first_view : Opening N → View S N
  first_view o = view o.count (enumerate_from 0 (replicate o.count o.note.value)) None

  -- what a view keeps if its first note goes to another
  abbrev pub rest_of : View S N → View S N
  rest_of v = view v.count (drop 1 v.notes) v.turn

  -- the view that gets the first note
  abbrev pub first_of : View S N → View S N
  first_of v = view v.count (take 1 v.notes) None

  -- the view that stays, with the notes of both
  abbrev pub both_of : View S N → View S N → View S N
  both_of v w = view v.count (w.notes ++ v.notes) v.turn

  -- a view that another has taken in
  abbrev pub spent : View S N
  spent = view 0 [] None

  -- the holder's view, with the state as it was taken
  abbrev pub holding : View S N → S → View S N
  holding v state = view v.count v.notes (Some state)

  -- the view of a pass whose turn is over, with its new note
  abbrev pub leaving : View S N → N → View S N
  leaving v note = view v.count (map (λ c. (c.0, note)) v.notes) None

  -- each note of the view stands at its place among all notes
  abbrev pub Agrees : View S N → List N → Type 0
  Agrees v notes =
      (k place : ℕ) (note : N) → slice_get v.notes k ≡ Some (place, note) → slice_get notes place ≡ Some note

  -- the state fits all notes, those of the view among them
  abbrev pub FitsAll : (S → List N → Type 0) → View S N → S → Type 0
  FitsAll fits v state = (notes : List N) × (length notes ≡ v.count) × Agrees v notes × fits state notes

  -- whatever the other notes are: if the state as it was taken fits with the view's one note, this one fits with the
  -- new note
  abbrev pub LeavesFit : (S → List N → Type 0) → View S N → S → N → Type 0
  LeavesFit fits v state note =
      (place : ℕ) × (old : N) × (entered : S) × (v.notes ≡ (place, old) ∷ []) × (v.turn ≡ Some entered)
      × ((notes : List N) →
      length notes ≡ v.count →
      slice_get notes place ≡ Some old →
      fits entered notes →
      fits state (slice_set notes place note))

  -- the slot has a state that fits the notes, and no view is the holder's
  pub record IsFree (fits : S → List N → Type 0) (notes : List N) (s : Board S N) : Type 0 where
    pub state : S
    pub home : get_elem? s.homes 0 ≡ some (some (Some state))
    pub fit : fits state notes
    pub no_turn : (at : ℕ) (v : View S N) → get_elem? s.views at ≡ some v → v.turn ≡ None

  -- one view is the holder's and no other, it has a note, and the state in it fits the notes
  pub record IsHeld (fits : S → List N → Type 0) (notes : List N) (s : Board S N) : Type 0 where
    pub holder : ℕ
    pub state : S
    pub own : View S N
    pub has : get_elem? s.views holder ≡ some own
    pub turn : own.turn ≡ Some state
    pub note : ℕ × N
    pub has_note : slice_get own.notes 0 ≡ Some note
    pub fit : fits state notes
    pub no_other : (at : ℕ) (v : View S N) → at ≢ holder → get_elem? s.views at ≡ some v → v.turn ≡ None

  -- the note c, which a view has at index k, stands at its place among all notes. No other note has that place:
  -- `owner` says whose it is
  pub record Stands (notes : List N) (owner : ℕ → ℕ × ℕ) (count at k : ℕ) (v : View S N) (c : ℕ × N) : Type 0 where
    pub counted : v.count ≡ count
    pub stands : slice_get notes c.0 ≡ Some c.1
    pub owned : owner c.0 ≡ (at, k)

  -- the note at the place is a view's
  pub record HasPlace (views : List (View S N)) (owner : ℕ → ℕ × ℕ) (place : ℕ) : Type 0 where
    pub own : View S N
    pub note : N
    pub has : get_elem? views (owner place).0 ≡ some own
    pub at : slice_get own.notes (owner place).1 ≡ Some (place, note)

  -- `notes` has the notes of all views, each at its place. If word 0 is even, the slot has a state that fits them.
  -- If it is odd, exactly one view is the holder's, and the state as it was taken, which is in that view, fits them
  pub record IsKept (fits : S → List N → Type 0) (count : ℕ) (s : Board S N) : Type 0 where
    pub notes : List N
    pub owner : ℕ → ℕ × ℕ
    pub one_word : length s.words ≡ 1
    pub all : length notes ≡ count
    pub each_note :
        (at k : ℕ) (v : View S N) (c : ℕ × N) →
        get_elem? s.views at ≡ some v →
        slice_get v.notes k ≡ Some c →
        Stands notes owner count at k v c
    pub each_place : (place : ℕ) → place < count → HasPlace s.views owner place
    pub free : slice_index s.words 0 % 2 ≡ 0 → IsFree fits notes s
    pub held : slice_index s.words 0 % 2 ≡ 1 → IsHeld fits notes s

  -- the seat is the holder's, and has the slot with a state that fits all notes. If the word had changed, so did
  -- nothing
  abbrev pub took : (S → List N → Type 0) → Step (Option S) → Sat S N → ℕ → Sat S N → Type 0
  took fits st m found m' =
      (found ≡ st.first → (state : S) × (m' ≡ (holding m.0 state, (0, Some state) ∷ m.1)) × FitsAll fits m.0 state)
      × (found ≢ st.first → m' ≡ m)

  -- the seat gave its slot back, and its note is the new one
  abbrev pub noted : Option N → Step (Option S) → Sat S N → ℕ → Sat S N → Type 0
  noted note st m found m' = IfSome note (λ x. m' ≡ (leaving m.0 x, rest m.1))
