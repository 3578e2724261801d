-- Levels: which frame a word means (upvar(n), uplevel(n)).
use Rattle.std.specs.Prelude.{◌≡◌, ℕ, ◌-◌, ◌^◌, ◌==◌, nat_le, min, drop, Bool, true, false, List, [], ◌∷◌, Option}
use Rattle.std.specs.Prelude.{Some, None, if◌then◌else◌}
use Rattle.std.specs.Option.{option_map}
use Rattle.tt_number.specs.Numerals.{number_of}
use Rattle.tt_store.specs.Levels.{HasDepth, Levels, above}

-- the number that decimal digits write; one past 64 bits counts as the greatest that fits them
abbrev pub count_of : (digits : List ℕ) → Option ℕ
count_of digits = option_map (λ n. min n (2 ^ 64 - 1)) (number_of (10, digits))

-- `N` is N callers up from the current frame
abbrev pub frame_up : Levels → (count : Option ℕ) → Option ℕ
frame_up levels None = None
frame_up levels (Some count) = above levels count levels.current

-- the frame with a number on the way from the global frame, 0, to the current one, which is `depth` callers below it
abbrev pub frame_below : Levels → (depth number : ℕ) → Option ℕ
frame_below levels depth number =
    if nat_le number depth then above levels (depth - number) levels.current else None

-- `#N` is frame N on that way
abbrev pub IsAlong : Levels → (number : Option ℕ) → (frame : Option ℕ) → Type 0
IsAlong levels None frame = frame ≡ None
IsAlong levels (Some number) frame =
    (depth : ℕ)
    × HasDepth levels depth
    × (frame ≡ frame_below levels depth number)

-- a level with a `#` at its front
abbrev pub is_numbered : (word : List ℕ) → Bool
is_numbered [] = false
is_numbered (b ∷ bytes) = b == 35

abbrev pub IsFrameBy : (numbered : Bool) → (word : List ℕ) → Levels → (frame : Option ℕ) → Type 0
IsFrameBy true word levels frame = IsAlong levels (count_of (drop 1 word)) frame
IsFrameBy false word levels frame = frame ≡ frame_up levels (count_of word)

-- the frame of a level; None if the word is no level, or there is no such frame
abbrev pub IsFrame : (word : List ℕ) → Levels → (frame : Option ℕ) → Type 0
IsFrame word levels frame = IsFrameBy (is_numbered word) word levels frame
