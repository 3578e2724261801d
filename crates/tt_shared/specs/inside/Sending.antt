-- A send by what it holds: words of the code's own contracts.
use Rattle.std.specs.Prelude.{ℕ, List}
use Rattle.tt_shared.specs.Sends as table
use Rattle.tt_shared.specs.State.{Acted, State}
use Rattle.tt_shared.specs.declared.sends.Sent.{Sent}

abbrev pub sends : State → ℕ → (text : List ℕ) → Sent → Acted
sends state t text sent = table.sends state t text sent.script.now sent.mode sent.variable.now sent.head

abbrev pub sends_linked : State → (t target : ℕ) → Sent → Acted
sends_linked state t target sent =
    table.sends_linked state t target sent.script.now sent.mode sent.variable.now sent.head

abbrev pub sends_to : State → (t target : ℕ) → Sent → Acted
sends_to state t target sent = table.sends_to state t target sent.script.now sent.mode sent.variable.now sent.head
