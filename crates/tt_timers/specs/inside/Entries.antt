-- The pending timers as the entries of a map by moment and number, and beside it the moment of each by its thread.
use Rattle.std.specs.Prelude.{◌≡◌, ◌<◌, ℕ, Bool, ◌&&◌, ◌==◌, nat_le, not, List, Option, Some, option_map}
use Rattle.std.specs.BTreeMap.{insert_entry, is_at}
use Rattle.std.specs.List.{All, filter}
use Rattle.std.specs.Map.{keys_of, lookup}
use Rattle.std.specs.Ordering.{nat_cmp, ordering_then}
use Rattle.std.specs.declared.cmp.Ordering.{Ordering}
use Rattle.tt_timers.specs.Pending.{Timer}
use Rattle.tt_timers.specs.declared.pending.Pending.{Pending}
use Rattle.tt_timers.specs.declared.spot.Owner.{Owner}
use Rattle.tt_timers.specs.declared.spot.Spot.{Spot}
use Rattle.tt_timers.specs.declared.spot.Waiting.{Waiting}
use Rattle.tt_timers.specs.declared.timer.TimerKind.{TimerKind}
use Rattle.tt_timers.specs.declared.timer.TimerKind.TheVariants.{Script, Sleep, Condition}

-- by moment, and then by number
abbrev pub spot_cmp : Spot → Spot → Ordering
spot_cmp a b = ordering_then (nat_cmp a.moment b.moment) (nat_cmp a.number b.number)

-- by thread, then by rank, and then by number
abbrev pub owner_cmp : Owner → Owner → Ordering
owner_cmp a b =
    ordering_then (nat_cmp a.thread b.thread) (ordering_then (nat_cmp a.rank b.rank) (nat_cmp a.number b.number))

-- the timers of a thread stand so: its sleep, its wait for a condition, its scripts
abbrev pub rank : TimerKind → ℕ
rank Sleep = 0
rank Condition = 1
rank (Script script) = 2

-- the timer of an entry, and whose it is
abbrev pub timer_at : Spot × Waiting → Timer
timer_at entry =
    record { number = entry.0.number; thread = entry.1.thread; moment = entry.0.moment; kind = entry.1.kind }

abbrev pub owner_of : Spot × Waiting → Owner
owner_of entry = record { thread = entry.1.thread; rank = rank entry.1.kind; number = entry.0.number }

-- an entry is this owner's
abbrev pub is_owned : Owner → Spot × Waiting → Bool
is_owned owner entry = is_at (owner_cmp owner) (owner_of entry)

abbrev pub without_owned : Owner → List (Spot × Waiting) → List (Spot × Waiting)
without_owned owner timers = filter (λ entry. not (is_owned owner entry)) timers

-- an entry is of this thread, and of a rank up to this one
abbrev pub is_up_to : (thread most : ℕ) → Spot × Waiting → Bool
is_up_to thread most entry = entry.1.thread == thread && nat_le (rank entry.1.kind) most

abbrev pub without_up_to : (thread most : ℕ) → List (Spot × Waiting) → List (Spot × Waiting)
without_up_to thread most timers = filter (λ entry. not (is_up_to thread most entry)) timers

-- one entry more
abbrev pub with_entry : List (Spot × Waiting) → Spot → Waiting → List (Spot × Waiting)
with_entry timers spot waiting = insert_entry spot_cmp timers spot waiting

-- the moment that is kept of an owner, and whose the timer of a moment and a number is
abbrev pub moment_of : List (Owner × ℕ) → Owner → Option ℕ
moment_of moments owner = lookup (is_at (owner_cmp owner)) moments

abbrev pub owner_at : List (Spot × Waiting) → Spot → Option Owner
owner_at timers spot = option_map (λ waiting. owner_of (spot, waiting)) (lookup (is_at (spot_cmp spot)) timers)

abbrev pub spot_of : Owner → (moment : ℕ) → Spot
spot_of owner moment = record { moment = moment; number = owner.number }

-- the moments that are kept are those of the timers
pub record Agree (timers : List (Spot × Waiting)) (moments : List (Owner × ℕ)) : Type 0 where
  pub listed : All (λ entry. moment_of moments (owner_of entry) ≡ Some entry.0.moment) timers
  pub kept :
      (owner : Owner) (moment : ℕ) →
      moment_of moments owner ≡ Some moment →
      owner_at timers (spot_of owner moment) ≡ Some owner

-- the maps agree, and each number was drawn
pub record Stands (pending : Pending) (next : ℕ) : Type 0 where
  pub agree : Agree pending.timers.entries pending.moments.entries
  pub drawn : All (λ spot. spot.number < next) (keys_of pending.timers.entries)
