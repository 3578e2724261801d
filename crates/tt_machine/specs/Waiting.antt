-- Which threads of the machine wait, and for whom (thread(n), tsv(n), chan(n)).
use Rattle.std.specs.Prelude.{◌≡◌, ◌≤◌, ◌↔◌, ℕ, IsFalse, List, None, map}
use Rattle.std.specs.List.{Contains}
use Rattle.std.specs.List.Sorted.{IsStrictlyIncreasing}
use Rattle.tt_calls.specs.declared.request.Request.{Request}
use Rattle.tt_machine.specs.Machine.{Machine, ThreadAsks}
use Rattle.tt_shared.specs.Blocking.{blockers}
use Rattle.tt_shared.specs.Enabled.{enabled}
use Rattle.tt_waits.specs.Waiting.{Waiting}

-- a thread asks something that can't be answered yet, and waits for these; once the run is over none does
pub record HasToWait (machine : Machine) (number : ℕ) (others : List ℕ) : Type 0 where
  pub request : Request
  pub serving : List ℕ
  pub going : machine.shared.over ≡ None
  pub asks : ThreadAsks machine number request serving
  pub not_enabled : IsFalse (enabled machine.shared number request)
  pub are : others ≡ blockers machine.shared number request

-- a thread waits for another, or for itself
pub record WaitsFor (machine : Machine) (number other : ℕ) : Type 0 where
  pub others : List ℕ
  pub has_to : HasToWait machine number others
  pub is_one : Contains others other

-- a list has exactly the threads that wait, by number
pub record AreWaiting (machine : Machine) (waiting : List Waiting) : Type 0 where
  pub by_number : IsStrictlyIncreasing (map (λ one. one.thread) waiting)
  pub exactly : (one : Waiting) → Contains waiting one ↔ HasToWait machine one.thread one.others

-- so it has those among the first so many threads
pub record AreWaitingUpTo (machine : Machine) (last : ℕ) (waiting : List Waiting) : Type 0 where
  pub by_number : IsStrictlyIncreasing (map (λ one. one.thread) waiting)
  pub exactly : (one : Waiting) → Contains waiting one ↔ (HasToWait machine one.thread one.others × (one.thread ≤ last))
