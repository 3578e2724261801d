-- Who holds a shared array, and what is done to it (tsv(n), tsv::lock).
use Rattle.std.specs.Prelude.{◌≡◌, ◌≤◌, ℕ, true, List, Option, Some, None, IfSome}
use Rattle.tt_calls.specs.declared.request.Request.{Request}
use Rattle.tt_calls.specs.declared.request.Request.TheVariants as ask
use Rattle.tt_calls.specs.declared.tsv_call.TsvCall.TheVariants.{Unhold}
use Rattle.laws_shared.specs.Actions.{Action, Moment}
use Rattle.tt_shared.specs.State.{State}
use Rattle.tt_tsv.specs.Calls.{array_asked, is_own}
use Rattle.tt_tsv.specs.Arrays.{array_of}

-- the array that a request is on; none of tsv::names and of what is no call on shared variables
abbrev pub array_named : Request → Option (List ℕ)
array_named (ask.Tsv call) = array_asked call
array_named request = None

abbrev pub IsOn : Action → (name : List ℕ) → Type 0
IsOn action name = array_named action.request ≡ Some name

-- the thread holds the array
abbrev pub HoldsArray : State → ℕ → (name : List ℕ) → Type 0
HoldsArray state t name = is_own t (array_of state.arrays name) ≡ true

-- the thread ends the last of its holds
pub record EndsHold (t : ℕ) (name : List ℕ) (moment : Moment) : Type 0 where
  pub thread : moment.action.thread ≡ t
  pub unhold : moment.action.request ≡ ask.Tsv (Unhold name)
  pub last : IfSome (array_of moment.before.arrays name) (λ array. array.depth ≤ 1)
