-- Which steps are ordered before which.
use Rattle.std.specs.Prelude.{◌≡◌, ◌<◌, ℕ, List, [], ◌∷◌, Option, Some, None}
use Rattle.std.specs.List.{Contains, slice_get}
use Rattle.tt_before.specs.Known.{Knowledge, after_entry, nothing_known}
use Rattle.tt_before.specs.Objects.{acquires, releases}
use Rattle.tt_before.specs.Steps.{Entry, Step, Stepped, Tick}
use Rattle.tt_before.specs.declared.object.Object.{Object}

-- a step of a thread, with what it releases and acquires
pub record Link : Type 0 where
  pub thread : ℕ
  pub gives : List Object
  pub takes : List Object

abbrev pub link_of : Knowledge → Step → Link
link_of known step = record { thread = step.thread; gives = releases known step; takes = acquires known step }

-- an entry that is a tick has none
abbrev pub link_at : Knowledge → Entry → Option Link
link_at known Tick = None
link_at known (Stepped step) = Some (link_of known step)

abbrev pub links_from : Knowledge → List Entry → List (Option Link)
links_from known [] = []
links_from known (entry ∷ entries) = link_at known entry ∷ links_from (after_entry known entry) entries

-- the links of a run from its start
abbrev pub links : List Entry → List (Option Link)
links entries = links_from nothing_known entries

-- the step at a place, counted from 0
abbrev pub LinkAt : List (Option Link) → ℕ → Link → Type 0
LinkAt all place link = slice_get all place ≡ Some (Some link)

-- a step is before another: both are of one thread, or what the one releases is acquired by the other, or through a
-- third step
pub data IsBefore (all : List (Option Link)) : ℕ → ℕ → Type 0 where
  same :
      {i j : ℕ} {a b : Link} → i < j → LinkAt all i a → LinkAt all j b → a.thread ≡ b.thread → IsBefore all i j
  passes :
      {i j : ℕ} {a b : Link} {object : Object} → i < j → LinkAt all i a → LinkAt all j b → Contains a.gives object →
      Contains b.takes object → IsBefore all i j
  through : {i j k : ℕ} → IsBefore all i j → IsBefore all j k → IsBefore all i k

-- the same of the entries of a run
abbrev pub Before : List Entry → ℕ → ℕ → Type 0
Before entries i j = IsBefore (links entries) i j
