-- What a debugging session over a replay shows: the answers to the lines of a file, one after the other.
use Rattle.std.specs.Prelude.{◌≡◌, ◌==◌, ℕ, Bool, List, [], ◌∷◌, ◌++◌, if◌then◌else◌}
use Rattle.tt_debug.specs.Shown.{IsShownAt}
use Rattle.tt_devices.specs.Faults.{Rises}
use Rattle.tt_devices.specs.Streams.{Grows, GrowsByPart}
use Rattle.tt_devices.specs.declared.sink.Sink.{Ghosts as OfSink}
use Rattle.tt_kept.specs.declared.setup.Setup.{Setup}
use Rattle.tt_session.specs.declared.status.End.{End}
use Rattle.tt_session.specs.declared.status.End.TheVariants.{Done, WriteFault, NoMemory}

-- ---- the lines of a file

abbrev pub is_newline : (byte : ℕ) → Bool
is_newline byte = byte == 10

-- a byte before the first of these lines
abbrev pub before_lines : (byte : ℕ) → List (List ℕ) → List (List ℕ)
before_lines byte [] = (byte ∷ []) ∷ []
before_lines byte (line ∷ lines) = (byte ∷ line) ∷ lines

-- a newline ends a line, and bytes after the last newline are a line
abbrev pub lines_of : (text : List ℕ) → List (List ℕ)
lines_of [] = []
lines_of (byte ∷ text) = if is_newline byte then [] ∷ lines_of text else before_lines byte (lines_of text)

-- ---- what they show

-- what lines show one after the other, from one place of the schedule to another
pub data Shows (setup : Setup) (given : List ℕ) : ℕ → List (List ℕ) → (shown : List ℕ) → ℕ → Type 0 where
  none : {place : ℕ} → Shows setup given place [] [] place
  more : {place later last : ℕ} {line text shown : List ℕ} {lines : List (List ℕ)} →
      IsShownAt setup given place line text later →
      Shows setup given later lines shown last →
      Shows setup given place (line ∷ lines) (text ++ shown) last

module _ {K : Type 0} (output : OfSink K) where
  -- output grew by what all lines show, from the start on
  pub record ShowsAll (setup : Setup) (given : List ℕ) (lines : List (List ℕ)) (old new : K) : Type 0 where
    pub shown : List ℕ
    pub last : ℕ
    pub shows : Shows setup given 0 lines shown last
    pub grew : Grows (output.got old) (output.got new) shown
    pub steady : output.fault_count new ≡ output.fault_count old

  -- by a first part of what the first of them show
  pub record ShowsPart (setup : Setup) (given : List ℕ) (lines : List (List ℕ)) (old new : K) : Type 0 where
    pub first : List (List ℕ)
    pub rest : List (List ℕ)
    pub cut : lines ≡ first ++ rest
    pub shown : List ℕ
    pub last : ℕ
    pub shows : Shows setup given 0 first shown last
    pub grew : GrowsByPart (output.got old) (output.got new) shown

  -- by how the session ended: after its last line, when output failed, or when memory was refused
  abbrev pub AreShown : Setup → (given : List ℕ) → (lines : List (List ℕ)) → End → (old new : K) → Type 0
  AreShown setup given lines (Done code) old new = (code ≡ 0) × ShowsAll setup given lines old new
  AreShown setup given lines WriteFault old new =
      ShowsPart setup given lines old new × Rises (output.fault_count old) (output.fault_count new)
  AreShown setup given lines NoMemory old new =
      ShowsPart setup given lines old new × (output.fault_count new ≡ output.fault_count old)
  AreShown setup given lines end old new = ⊥
