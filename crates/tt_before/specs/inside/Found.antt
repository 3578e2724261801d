-- The races that are found among the steps that are kept.
use Rattle.std.specs.Prelude.{◌≡◌, ◌+◌, ◌==◌, ℕ, zero, suc, Bool, ◌&&◌, ◌||◌, not, nat_le, List, [], ◌∷◌, ◌++◌}
use Rattle.std.specs.Prelude.{Option, Some, None, bytes_eq, length, slice_index, take, if◌then◌else◌}
use Rattle.std.specs.List.{filter_map, slice_get}
use Rattle.tt_before.specs.RaceLists.{overlap}
use Rattle.tt_before.specs.Touching.{shared_key}
use Rattle.tt_before.specs.declared.kept.Touch.{Touch}
use Rattle.tt_before.specs.declared.race.Race.{Race}
use Rattle.tt_before.specs.declared.race.Races.{Races}
use Rattle.tt_before.specs.declared.touched.Touched.{Touched}

-- what two steps touch can race
abbrev pub clash : (one other : Touched) → Bool
clash one other = bytes_eq one.array other.array && (overlap one other && (one.writes || other.writes))

-- the first is before the second by the second one's clock
abbrev pub is_known : (one other : Touch) → Bool
is_known one other = nat_le one.rank (slice_index other.row.items one.thread)

abbrev pub races : (one other : Touch) → Bool
races one other = not (one.thread == other.thread) && (not (is_known one other) && clash one.touched other.touched)

abbrev pub race_of : (one other : Touch) → Race
race_of one other = record {
  first = one.place + 1;
  second = other.place + 1;
  array = other.touched.array;
  key = shared_key one.touched other.touched;
}

abbrev pub race_with : (other one : Touch) → Option Race
race_with other one = if races one other then Some (race_of one other) else None

-- the races of one of the steps with those before it, and of the first steps
abbrev pub races_at : List Touch → ℕ → Option Touch → List Race
races_at touches n None = []
races_at touches n (Some other) = filter_map (race_with other) (take n touches)

abbrev pub races_up_to : List Touch → ℕ → List Race
races_up_to touches zero = []
races_up_to touches (suc n) = races_up_to touches n ++ races_at touches n (slice_get touches n)

-- the first hundred of some races, and how many they are
pub record AreCounted (all : List Race) (told : Races) : Type 0 where
  pub first : told.first.items ≡ take 100 all
  pub counted : told.count ≡ length all

-- a race that is told if so many others leave room for it
abbrev pub told_if : (count : ℕ) → Race → List Race
told_if count race = if nat_le 100 count then [] else race ∷ []
