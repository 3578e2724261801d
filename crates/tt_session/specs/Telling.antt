-- What the steps of a run were: an entry of each, in the order of the steps.
use Rattle.std.specs.Prelude.{◌≡◌, ⊤, ℕ, List, [], ◌∷◌}
use Rattle.tt_before.specs.Steps.{Entry, Stepped, step}
use Rattle.tt_before.specs.declared.order.Order.{Order}
use Rattle.tt_before.specs.inside.Told.{IsOrderOf}
use Rattle.tt_calls.specs.declared.request.Request.{Request}
use Rattle.tt_machine.specs.Machine.{Machine, Steps}
use Rattle.tt_session.specs.declared.status.End.{End}
use Rattle.tt_session.specs.declared.status.End.TheVariants.{Done, ScheduleEnded}
use Rattle.tt_shared.specs.Acts.{act}
use Rattle.tt_shared.specs.declared.applied.Applied.{Applied}

-- the entry of a step: what the thread asked, what it was answered, and how many threads were made
abbrev pub entry_of : (number : ℕ) → Request → Applied → Entry
entry_of number request gives = Stepped (step number request gives.reply gives.made)

-- an entry is that of a step of the machine
pub record IsEntry (old : Machine) (number : ℕ) (entry : Entry) (next : Machine) : Type 0 where
  pub steps : Steps old number next
  pub is :
      entry ≡ entry_of number steps.can.request (act old.shared number steps.can.request steps.line).gives

-- the entries of the steps of a list of threads, and the machine after them
pub data AreEntries : Machine → (threads : List ℕ) → List Entry → Machine → Type 0 where
  none : {machine : Machine} → AreEntries machine [] [] machine
  more : {old next new : Machine} {number : ℕ} {threads : List ℕ} {entry : Entry} {entries : List Entry} →
      IsEntry old number entry next →
      AreEntries next threads entries new →
      AreEntries old (number ∷ threads) (entry ∷ entries) new

-- an order is of the entries of a run
pub record ToldAs (begun machine : Machine) (threads : List ℕ) (told : Order) : Type 0 where
  pub entries : List Entry
  pub are : AreEntries begun threads entries machine
  pub order : IsOrderOf entries told

-- a list was followed to its end
abbrev pub IsFollowed : End → Type 0
IsFollowed (Done code) = ⊤
IsFollowed ScheduleEnded = ⊤
IsFollowed end = ⊥
