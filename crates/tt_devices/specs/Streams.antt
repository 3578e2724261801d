-- What reads take from a source and writes add to a sink, if these show their bytes. Nothing is said of one that
-- did not show them before.
use Rattle.std.specs.Prelude.{ℕ, ◌≡◌, ◌<◌, List, ◌++◌, length, take, Option}
use Rattle.std.specs.Io.KnownBytes.{Appends, Consumes, IsAtEnd, Keeps}

-- the first of the bytes that a source held are in the room, as many as counted, and it holds the others; none are only
-- at the end of input, or for no room
abbrev pub Fills : Option (List ℕ) → Option (List ℕ) → List ℕ → ℕ → Type 0
Fills old new room count = Consumes old new (take count room) × (count ≡ 0 → 0 < length room → IsAtEnd new)

-- a source holds what it held, or a sink got what it had
abbrev pub Stays : Option (List ℕ) → Option (List ℕ) → Type 0
Stays old new = Keeps old new

-- some first bytes were taken from a source
pub record LosesPart (old new : Option (List ℕ)) : Type 0 where
  pub part : List ℕ
  pub lost : Consumes old new part

-- a source held these bytes and no more
abbrev pub Empties : Option (List ℕ) → Option (List ℕ) → List ℕ → Type 0
Empties old new bytes = Consumes old new bytes × IsAtEnd new

-- more than so many first bytes were taken from a source
pub record LosesMore (old new : Option (List ℕ)) (count : ℕ) : Type 0 where
  pub part : List ℕ
  pub lost : Consumes old new part
  pub more : count < length part

-- what a sink got grew by this piece
abbrev pub Grows : Option (List ℕ) → Option (List ℕ) → List ℕ → Type 0
Grows old new piece = Appends old new piece

-- what a sink got grew by a first part of this piece
pub record GrowsByPart (old new : Option (List ℕ)) (piece : List ℕ) : Type 0 where
  pub part : List ℕ
  pub rest : List ℕ
  pub cut : piece ≡ part ++ rest
  pub grew : Grows old new part
