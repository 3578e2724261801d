-- What holds of whom a thread waits for.
use Rattle.std.specs.Prelude.{ℕ, IsFalse, IsTrue, ◌↔◌}
use Rattle.std.specs.List.{Contains}
use Rattle.std.specs.List.Sorted.{IsStrictlyIncreasing}
use Rattle.tt_calls.specs.declared.request.Request.{Request}
use Rattle.tt_shared.specs.Blocking.{blockers, waited_for}
use Rattle.tt_shared.specs.Enabled.{enabled}
use Rattle.tt_shared.specs.State.{State}
use Rattle.tt_threads.specs.Rows.{is_living}

-- they are exactly those of the table that live, by number, each once
pub record AreBlockers (state : State) (t : ℕ) (request : Request) : Type 0 where
  pub by_number : IsStrictlyIncreasing (blockers state t request)
  pub exactly :
      (u : ℕ) →
      Contains (blockers state t request) u
      ↔ (IsTrue (is_living state.rows u) × Contains (waited_for state t request) u)

abbrev pub BlockersLaw : Type 0
BlockersLaw =
    (state : State) (t : ℕ) (request : Request) → IsFalse (enabled state t request) → AreBlockers state t request
