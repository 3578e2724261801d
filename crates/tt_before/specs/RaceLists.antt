-- The races of a run: two steps of different threads that touch the same of an array, one of them writing, and that
-- nothing orders.
use Rattle.std.specs.Prelude.{◌≡◌, ◌<◌, ◌+◌, ℕ, Bool, true, false, ◌||◌, ◌⊎◌, ◌↔◌, List, Option, Some, None}
use Rattle.std.specs.Prelude.{length, take}
use Rattle.std.specs.List.{Contains, slice_get}
use Rattle.std.specs.Option.{is_some}
use Rattle.tt_before.specs.Orders.{Before}
use Rattle.tt_before.specs.Steps.{Entry, Step, Stepped}
use Rattle.tt_before.specs.Touching.{shared_key, touched}
use Rattle.tt_before.specs.declared.race.Race.{Race}
use Rattle.tt_before.specs.declared.race.Races.{Races}
use Rattle.tt_before.specs.declared.touched.Touched.{Touched}

abbrev pub is_whole : Option (List (List ℕ)) → Bool
is_whole None = true
is_whole (Some keys) = false

-- two steps touch the same key, or one of them the whole array
abbrev pub overlap : (first second : Touched) → Bool
overlap first second = is_whole first.keys || is_whole second.keys || is_some (shared_key first second)

-- the step at a place, counted from 0, touches this of an array
pub record Touches (entries : List Entry) (place : ℕ) (step : Step) (one : Touched) : Type 0 where
  pub stands : slice_get entries place ≡ Some (Stepped step)
  pub touches : touched step ≡ Some one

-- two places at which steps race
pub record AreRacing (entries : List Entry) (i j : ℕ) (one other : Touched) : Type 0 where
  pub first : Step
  pub second : Step
  pub first_touches : Touches entries i first one
  pub second_touches : Touches entries j second other
  pub earlier : i < j
  pub differ : first.thread ≡ second.thread → ⊥
  pub unordered : Before entries i j → ⊥
  pub same_array : one.array ≡ other.array
  pub overlaps : overlap one other ≡ true
  pub one_writes : one.writes || other.writes ≡ true

-- a race, with the numbers of its entries, counted from 1
pub record IsRace (entries : List Entry) (race : Race) : Type 0 where
  pub i : ℕ
  pub j : ℕ
  pub one : Touched
  pub other : Touched
  pub racing : AreRacing entries i j one other
  pub first : race.first ≡ i + 1
  pub second : race.second ≡ j + 1
  pub array : race.array ≡ other.array
  pub key : race.key ≡ shared_key one other

-- a race stands before another: by its second entry, and then by its first
abbrev pub StandsBefore : Race → Race → Type 0
StandsBefore one other = (one.second < other.second) ⊎ ((one.second ≡ other.second) × (one.first < other.first))

-- a list has exactly the races of a run, in order
pub record AreAllRaces (entries : List Entry) (races : List Race) : Type 0 where
  pub exactly : (race : Race) → Contains races race ↔ IsRace entries race
  pub in_order :
      (m n : ℕ) (one other : Race) →
      slice_get races m ≡ Some one →
      slice_get races n ≡ Some other →
      m < n →
      StandsBefore one other

-- the first hundred, and how many there are
pub record AreRacesOf (entries : List Entry) (told : Races) : Type 0 where
  pub all : List Race
  pub are_all : AreAllRaces entries all
  pub first : told.first.items ≡ take 100 all
  pub counted : told.count ≡ length all
