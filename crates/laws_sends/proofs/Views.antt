-- What the laws of sends look at: the scripts in queues, who has ended, and how often something happened.
use Rattle.std.proofs.Common.{◌≡◌, ◌≢◌, ◌==◌, ℕ, Bool, true, false, not, List, [], ◌∷◌, ◌++◌, Option, Some, None, if◌then◌else◌}
use Rattle.std.specs.Bool.{⊤}
use Rattle.laws_sends.proofs.Totals.{total}
use Rattle.laws_shared.specs.Happenings.{Happening, Posted, Began, Finished, Died, Got, Set, GetsHold, Frees, Owner}
use Rattle.tt_calls.specs.declared.event.Event.{Event}
use Rattle.tt_calls.specs.declared.event.Event.TheVariants as event
use Rattle.tt_shared.specs.Mail.{Queues, queue_of}
use Rattle.tt_slots.specs.Waiting.{is_waiting}
use Rattle.tt_slots.specs.declared.slot.Slot.{Slot}
use Rattle.tt_shared.specs.declared.posts.VariablePost.{VariablePost}
use Rattle.tt_threads.specs.Rows.{lives, row_of}
use Rattle.tt_threads.specs.declared.row.Row.{Row}

-- ---- weights ----

abbrev pub one_if : Bool → ℕ
one_if b = if b then 1 else 0

abbrev pub one_of : Bool → Bool → ℕ
one_of true b = one_if b
one_of false b = 0

abbrev pub posted : ℕ → Happening → ℕ
posted n (Posted m from to recipient head) = one_if (m == n)
posted n other = 0

abbrev pub posted_to : (n t : ℕ) → Happening → ℕ
posted_to n t (Posted m from to recipient head) = one_of (to == t) (m == n)
posted_to n t other = 0

abbrev pub at_tail : ℕ → Happening → ℕ
at_tail n (Posted m from to recipient head) = one_of (not head) (m == n)
at_tail n other = 0

abbrev pub begun : ℕ → Happening → ℕ
begun n (Began m t) = one_if (m == n)
begun n other = 0

abbrev pub begun_by : (n t : ℕ) → Happening → ℕ
begun_by n t (Began m u) = one_of (u == t) (m == n)
begun_by n t other = 0

abbrev pub ended : ℕ → Happening → ℕ
ended n (Finished m outcome) = one_if (m == n)
ended n (Died m) = one_if (m == n)
ended n other = 0

abbrev pub answered : ℕ → Happening → ℕ
answered n (Got m t told) = one_if (m == n)
answered n (Set m t value) = one_if (m == n)
answered n other = 0

-- what has nothing to do with sends
abbrev pub OfOthers : Happening → Type 0
OfOthers (GetsHold lock t) = ⊤
OfOthers (Frees lock t) = ⊤
OfOthers (Owner channel owner) = ⊤
OfOthers other = ⊥

-- ---- queues ----

abbrev pub number_then : Event → List ℕ → List ℕ
number_then (event.Script n script answer plain) numbers = n ∷ numbers
number_then other numbers = numbers

abbrev pub scripts : List Event → List ℕ
scripts [] = []
scripts (one ∷ events) = number_then one (scripts events)

abbrev pub scripts_in : Option (List Event) → List ℕ
scripts_in None = []
scripts_in (Some events) = scripts events

abbrev pub scripts_at : Queues → ℕ → List ℕ
scripts_at queues t = scripts_in (queue_of queues t)

-- how often a number is among these
abbrev pub is_number : ℕ → ℕ → ℕ
is_number n m = one_if (m == n)

abbrev pub times : ℕ → List ℕ → ℕ
times n numbers = total (is_number n) numbers

-- a script put at the head or at the tail
abbrev pub placed : (head : Bool) → ℕ → List ℕ → List ℕ
placed true n numbers = n ∷ numbers
placed false n numbers = numbers ++ n ∷ []

abbrev pub SameScripts : Queues → Queues → Type 0
SameScripts old new = (u : ℕ) → scripts_at new u ≡ scripts_at old u

-- the same but for one thread's
pub record SameBut (old new : Queues) (t : ℕ) (numbers : List ℕ) : Type 0 where
  pub here : scripts_at new t ≡ numbers
  pub others : (u : ℕ) → u ≢ t → scripts_at new u ≡ scripts_at old u

-- ---- threads ----

abbrev pub has_ended_at : Option Row → Bool
has_ended_at None = false
has_ended_at (Some row) = not (lives row.life)

abbrev pub has_ended : List Row → ℕ → Bool
has_ended rows t = has_ended_at (row_of rows t)

abbrev pub StayEnded : List Row → List Row → Type 0
StayEnded old new = (u : ℕ) → has_ended old u ≡ true → has_ended new u ≡ true

-- ---- posts ----

-- who waits for an answer still, and who has one that was not got
abbrev pub waits_at : ℕ → ℕ × Slot → ℕ
waits_at n entry = one_of (is_waiting entry.1.state) (entry.0 == n)

abbrev pub filled_at : ℕ → ℕ × Slot → ℕ
filled_at n entry = one_of (not (is_waiting entry.1.state)) (entry.0 == n)

abbrev pub variable_at : ℕ → ℕ × VariablePost → ℕ
variable_at n entry = one_if (entry.0 == n)
