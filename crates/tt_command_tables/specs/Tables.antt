-- A table of commands: which of them has a name.
use Rattle.std.specs.Prelude.{ℕ, bytes_eq, List, Option}
use Rattle.std.specs.List.{find}

-- the first of these commands that has a name
abbrev pub first_named :
    {Command : Type 0} → (name_of : Command → List ℕ) → (commands : List Command) → (name : List ℕ) → Option Command
first_named name_of commands name = find (λ command. bytes_eq name (name_of command)) commands
