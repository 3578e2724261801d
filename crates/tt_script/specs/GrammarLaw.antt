-- What the function that reads the first command and the command grammar have to do with one another.
use Rattle.std.specs.Prelude.{◌≡◌, ℕ, ◌↔◌, List, []}
use Rattle.tt_script.specs.Words.{PlainCommand, nothing, bad, command}
use Rattle.tt_script.specs.Reading.{first}
use Rattle.tt_script.specs.Grammar.{IsSkipped, IsFirst}
use Rattle.tt_script.specs.FaultGrammar.{IsFirstFault}
use Rattle.tt_script.specs.declared.command.ParseFault.{ParseFault}

-- a command is read exactly if the grammar has one, and that one
abbrev pub CommandLaw : Type 0
CommandLaw = (text : List ℕ) (c : PlainCommand) → (first text ≡ command c) ↔ IsFirst text c

-- nothing is read exactly if the whole text is skipped
abbrev pub NothingLaw : Type 0
NothingLaw = (text : List ℕ) → (first text ≡ nothing) ↔ IsSkipped text []

-- a fault is met exactly if the grammar has no command and the text isn't skipped whole
abbrev pub FaultLaw : Type 0
FaultLaw = (text : List ℕ)
    → ((fault : ParseFault) × (place : ℕ) × (first text ≡ bad fault place))
    ↔ (((c : PlainCommand) → IsFirst text c → ⊥) × (IsSkipped text [] → ⊥))

-- the fault is the first from the left, and its place is where the command begins
abbrev pub FirstFaultLaw : Type 0
FirstFaultLaw = (text : List ℕ) (fault : ParseFault) (place : ℕ)
    → (first text ≡ bad fault place) ↔ IsFirstFault text fault place
