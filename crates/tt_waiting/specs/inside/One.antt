-- What a thread adds to the list of those that wait: itself with whom it waits for, or nothing.
use Rattle.std.specs.Prelude.{◌≡◌, ℕ, List, Option, Some, None}
use Rattle.tt_machine.specs.Machine.{Machine}
use Rattle.tt_machine.specs.Waiting.{HasToWait}
use Rattle.tt_waits.specs.Waiting.{Waiting}

-- it has to wait for these, or it hasn't to wait
abbrev pub IsOneWaiting : (number : ℕ) → Option Waiting → Machine → Type 0
IsOneWaiting number None machine = (others : List ℕ) → ¬ (HasToWait machine number others)
IsOneWaiting number (Some one) machine = (one.thread ≡ number) × HasToWait machine number one.others
