-- The commands that control evaluation: for each its name, its usage, and what the words after its name mean.
use Rattle.std.specs.Prelude.{ℕ, bytes_eq, List, [], ◌∷◌, codes, Option, Some, None}
use Rattle.std.specs.List.{find}
use Rattle.tt_control.specs.Refusals.{Meaning, wrong_number}
use Rattle.tt_control.specs.Branches.{branch}
use Rattle.tt_control.specs.Choices.{switch}
use Rattle.tt_control.specs.Dictionaries.{dict}
use Rattle.tt_control.specs.Endings.{break_loop, continue_loop, error, return_value}
use Rattle.tt_control.specs.Evaluating.{catch, expression, for_loop, while_loop}
use Rattle.tt_control.specs.Turns.{foreach}
use Rattle.tt_control.specs.declared.command.Command.{Command}
use Rattle.tt_control.specs.declared.command.Command.TheVariants as command
use Rattle.tt_control.specs.declared.control.Control.{Control}
use Rattle.tt_control.specs.declared.control.Control.TheVariants.{Other}
use Rattle.tt_lists.specs.declared.searching.Matching.TheVariants.{Exact}
use Rattle.tt_script.specs.Names.{plain_name}

-- a row of the table
pub record Row : Type 0 where
  pub name : List ℕ
  pub usage : List ℕ
  pub meaning : Meaning

abbrev pub row : (name usage : List ℕ) → Meaning → Row
row name usage meaning = record { name = name; usage = usage; meaning = meaning }

-- the table
abbrev pub row_of : Command → Row
row_of command.Break = row (codes "break") (codes "break") break_loop
row_of command.Catch = row (codes "catch") (codes "catch script ?varName?") catch
row_of command.Continue = row (codes "continue") (codes "continue") continue_loop
row_of command.Dict = row (codes "dict") (codes "dict for {k v} d body") dict
row_of command.Error = row (codes "error") (codes "error message ?info? ?code?") error
row_of command.Expr = row (codes "expr") (codes "expr arg ?arg ...?") expression
row_of command.For = row (codes "for") (codes "for start test next body") for_loop
row_of command.Foreach = row (codes "foreach") (codes "foreach varList list ?varList list ...? body") foreach
row_of command.If =
    row (codes "if") (codes "if expr1 ?then? body1 ?elseif expr2 ?then? body2 ...? ?else? ?bodyN?") branch
row_of command.Return = row (codes "return") (codes "return ?-code code? ?value?") return_value
row_of command.Switch =
    row
    (codes "switch")
    (codes "switch ?-exact? ?-glob? ?--? string pattern body ?pattern body ...?")
    (λ wrong words. switch wrong Exact words)
row_of command.While = row (codes "while") (codes "while test body") while_loop

-- the commands of the table
abbrev pub commands : List Command
commands =
    command.Break ∷ command.Catch ∷ command.Continue ∷ command.Dict ∷ command.Error ∷ command.Expr ∷ command.For ∷
    command.Foreach ∷ command.If ∷ command.Return ∷ command.Switch ∷ command.While ∷ []

-- the first of these that has a name
abbrev pub first_named : List Command → (name : List ℕ) → Option Command
first_named commands name = find (λ command. bytes_eq name (row_of command).name) commands

-- the command of a name
abbrev pub command_of : (name : List ℕ) → Option Command
command_of name = first_named commands name

-- what words mean to a command
abbrev pub meaning_of : Command → (words : List (List ℕ)) → Control
meaning_of command words = (row_of command).meaning (wrong_number (row_of command).usage) words

abbrev pub by_command : Option Command → (words : List (List ℕ)) → Control
by_command (Some command) words = meaning_of command words
by_command None words = Other

-- what the words of a command mean, its name first
abbrev pub control_of : (words : List (List ℕ)) → Control
control_of [] = Other
control_of (name ∷ words) = by_command (command_of (plain_name name)) words
