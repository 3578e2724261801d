-- What a system tells of the machine: what a thread asks next, what was written, and what a step was (thread(n)).
use Rattle.std.specs.Prelude.{◌≡◌, ℕ, List}
use Rattle.tt_calls.specs.declared.request.Request.{Request}
use Rattle.tt_core.specs.declared.told.Told.{Told}
use Rattle.tt_machine.specs.Machine.{Machine, Steps, ThreadAsks}
use Rattle.tt_shared.specs.Acts.{act}

-- a thread lives and asks this next
pub record IsAsking (number : ℕ) (request : Request) (machine : Machine) : Type 0 where
  pub serving : List ℕ
  pub asks : ThreadAsks machine number request serving

-- a thread asks nothing
abbrev pub IsSilent : (number : ℕ) → Machine → Type 0
IsSilent number machine = (request : Request) (serving : List ℕ) → ¬ (ThreadAsks machine number request serving)

-- a step of a thread: what it asked, what it was answered, and how many threads were made
pub record IsStep (number : ℕ) (told : Told) (machine : Machine) : Type 0 where
  pub next : Machine
  pub steps : Steps machine number next
  pub request : told.request ≡ steps.can.request
  pub reply : told.reply ≡ (act machine.shared number steps.can.request steps.line).gives.reply
  pub made : told.made ≡ (act machine.shared number steps.can.request steps.line).gives.made
