-- First and last parts of what a run takes and reads.
use Rattle.std.specs.Prelude.{◌≡◌, ◌++◌, ℕ, List, Option, Some}

-- a list is the first part of another
pub record IsFirstPart (part whole : List ℕ) : Type 0 where
  pub rest : List ℕ
  pub cut : whole ≡ part ++ rest

-- a source holds a last part of these bytes: what comes before it was read ahead
pub record HoldsLastPart (held : Option (List ℕ)) (bytes : List ℕ) : Type 0 where
  pub ahead : List ℕ
  pub rest : List ℕ
  pub tells : held ≡ Some rest
  pub cut : bytes ≡ ahead ++ rest
