-- The commands: for each its name, its usage, and what its words mean.
use Rattle.std.specs.Prelude.{◌≡◌, ℕ, bytes_eq, List, [], ◌∷◌, codes, Option, Some, None}
use Rattle.std.specs.List.{find}
use Rattle.tt_store.specs.declared.answers.Answer.{Answer}
use Rattle.tt_store.specs.declared.answers.Answer.TheVariants as answers
use Rattle.tt_store.specs.Commands.{Row, by_row, ends, row}
use Rattle.tt_store.specs.Held.{Held}
use Rattle.tt_script.specs.Names.{plain_name}
use Rattle.tt_variable_commands.specs.declared.levels.command.Command.{Command}
use Rattle.tt_variable_commands.specs.declared.levels.command.Command.TheVariants as command
use Rattle.tt_variable_commands.specs.Beginning.{uplevel}
use Rattle.tt_variable_commands.specs.Linking.{global, upvar}
use Rattle.tt_variable_commands.specs.Telling.{info}

-- the table
abbrev pub row_of : Command → Row
row_of command.Global = row (codes "global") (codes "global ?varName ...?") (ends global)
row_of command.Upvar =
    row (codes "upvar") (codes "upvar ?level? otherVar localVar ?otherVar localVar ...?") (ends upvar)
row_of command.Uplevel = row (codes "uplevel") (codes "uplevel ?level? arg ?arg ...?") uplevel
row_of command.Info = row (codes "info") (codes "info exists varName") info

abbrev pub commands : List Command
commands = command.Global ∷ command.Upvar ∷ command.Uplevel ∷ command.Info ∷ []

-- the first of these that has a name
abbrev pub first_named : List Command → (name : List ℕ) → Option Command
first_named commands name = find (λ command. bytes_eq name (row_of command).name) commands

-- a command of the table, or none
abbrev pub IsCommand :
    Option Command → (words : List (List ℕ)) →
    (old : Held) → Answer → (new : Held) → Type 0
IsCommand (Some command) words old answer new = by_row (row_of command) words old answer new
IsCommand None words old answer new = (answer ≡ answers.Other) × (new ≡ old)

-- what a whole command comes to, its name first
abbrev pub Runs : (words : List (List ℕ)) → (old : Held) → Answer → (new : Held) → Type 0
Runs [] old answer new = (answer ≡ answers.Other) × (new ≡ old)
Runs (word ∷ words) old answer new = IsCommand (first_named commands (plain_name word)) words old answer new
