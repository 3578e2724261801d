-- The commands: for each its name, its usage, and what its words mean.
use Rattle.std.specs.Prelude.{◌≡◌, ℕ, Bool, true, false, bytes_eq, List, [], ◌∷◌, ◌++◌, codes, Option, Some, None}
use Rattle.std.specs.Prelude.{if◌then◌else◌}
use Rattle.std.specs.List.{find}
use Rattle.tt_calls.specs.declared.outcome.Outcome.{Outcome}
use Rattle.tt_calls.specs.Outcomes.{error_outcome, fine}
use Rattle.tt_list_commands.specs.Concatenating.{concatenation}
use Rattle.tt_pure.specs.Table as pure
use Rattle.tt_outcomes.specs.declared.want.Body.TheVariants as body
use Rattle.tt_store.specs.declared.answers.Answer.{Answer}
use Rattle.tt_store.specs.declared.answers.Answer.TheVariants as answers
use Rattle.tt_store.specs.declared.command.Command.{Command}
use Rattle.tt_store.specs.declared.command.Command.TheVariants as command
use Rattle.tt_store.specs.Held.{Fails, Held, Meaning, Refuses, with_levels}
use Rattle.tt_store.specs.Levels.{with_script_in}
use Rattle.tt_store.specs.Listed.{lappend, lassign}
use Rattle.tt_calls.specs.Usages.{bad_option, wrong_number}
use Rattle.tt_store.specs.Scalars.{append, incr, set_meaning, unset_meaning}
use Rattle.tt_script.specs.Names.{plain_name}

-- what words come to: an answer, and what is held then
abbrev pub Coming : Type 1
Coming = (usage : List ℕ) → (words : List (List ℕ)) → (old : Held) → Answer → (new : Held) → Type 0

-- the command ends at once
abbrev pub ends : Meaning → Coming
ends meaning usage words old answer new =
    (outcome : Outcome) × meaning usage words old outcome new × (answer ≡ answers.Outcome outcome)

-- eval(n): in the current frame
abbrev pub eval : Coming
eval usage [] old answer new = (answer ≡ answers.Outcome (error_outcome (wrong_number usage))) × (new ≡ old)
eval usage (word ∷ words) old answer new =
    (answer ≡ answers.Body body.Plain (concatenation (word ∷ words)))
    × (new ≡ with_levels old (with_script_in old.levels.current old.levels))

-- flush(n): it looks at nothing
abbrev pub flush : Meaning
flush usage (channel ∷ []) old outcome new = (outcome ≡ fine []) × (new ≡ old)
flush usage words old outcome new = Refuses usage old outcome new

-- package(n): the packages that are there, and their versions
abbrev pub version_of : (name : List ℕ) → Option (List ℕ)
version_of name =
    if bytes_eq name (codes "Thread") then Some (codes "2.8")
    else (if bytes_eq name (codes "Tcl") then Some (codes "8.6") else None)

abbrev pub package_answer : (name : List ℕ) → Option (List ℕ) → Outcome
package_answer name (Some version) = fine version
package_answer name None = error_outcome (codes "can't find package " ++ name)

-- a version is not looked at
abbrev pub PackageBy :
    (known : Bool) → (usage word : List ℕ) → (words : List (List ℕ))
    → (old : Held) → Outcome → (new : Held) → Type 0
PackageBy false usage word words old outcome new = Fails (bad_option word) old outcome new
PackageBy true usage word (name ∷ []) old outcome new = (outcome ≡ package_answer name (version_of name)) × (new ≡ old)
PackageBy true usage word (name ∷ version ∷ []) old outcome new =
    (outcome ≡ package_answer name (version_of name)) × (new ≡ old)
PackageBy true usage word words old outcome new = Refuses usage old outcome new

abbrev pub package_require : Meaning
package_require usage [] old outcome new = Refuses usage old outcome new
package_require usage (word ∷ words) old outcome new =
    PackageBy (bytes_eq word (codes "require")) usage word words old outcome new

pub record Row : Type 1 where
  pub name : List ℕ
  pub usage : List ℕ
  pub meaning : Coming

abbrev pub row : (name usage : List ℕ) → Coming → Row
row name usage meaning = record { name = name; usage = usage; meaning = meaning }

-- the table
abbrev pub row_of : Command → Row
row_of command.Set = row (codes "set") (codes "set varName ?newValue?") (ends set_meaning)
row_of command.Unset = row (codes "unset") (codes "unset ?-nocomplain? ?varName ...?") (ends unset_meaning)
row_of command.Incr = row (codes "incr") (codes "incr varName ?increment?") (ends incr)
row_of command.Append = row (codes "append") (codes "append varName ?value ...?") (ends append)
row_of command.Lappend = row (codes "lappend") (codes "lappend varName ?value ...?") (ends lappend)
row_of command.Lassign = row (codes "lassign") (codes "lassign list ?varName ...?") (ends lassign)
row_of command.Eval = row (codes "eval") (codes "eval arg ?arg ...?") eval
row_of command.Package =
    row (codes "package") (codes "package require name ?version?") (ends package_require)
row_of command.Flush = row (codes "flush") (codes "flush channelId") (ends flush)

abbrev pub commands : List Command
commands =
    command.Set ∷ command.Unset ∷ command.Incr ∷ command.Append ∷ command.Lappend ∷ command.Lassign ∷
    command.Eval ∷ command.Package ∷ command.Flush ∷ []

-- the first of these that has a name
abbrev pub first_named : List Command → (name : List ℕ) → Option Command
first_named commands name = find (λ command. bytes_eq name (row_of command).name) commands

-- what words after a command's name come to
abbrev pub by_row : Row → (words : List (List ℕ)) → (old : Held) → Answer → (new : Held) → Type 0
by_row row words old answer new = row.meaning row.usage words old answer new

-- a command that answers by its words alone, or none
abbrev pub IsPure :
    (known : Bool) → (name : List ℕ) → (words : List (List ℕ)) → (old : Held) → Answer → (new : Held) → Type 0
IsPure false name words old answer new = (answer ≡ answers.Other) × (new ≡ old)
IsPure true name words old answer new =
    (outcome : Outcome)
    × pure.IsOutcome (pure.command_of name) words outcome
    × (answer ≡ answers.Outcome outcome)
    × (new ≡ old)

-- a command of the table, or another
abbrev pub IsCommand :
    Option Command → (name : List ℕ) → (words : List (List ℕ)) → (old : Held) → Answer → (new : Held) → Type 0
IsCommand (Some command) name words old answer new = by_row (row_of command) words old answer new
IsCommand None name words old answer new = IsPure (pure.is_pure name) name words old answer new

-- what a whole command comes to, its name first; no words have the empty result
abbrev pub Runs : (words : List (List ℕ)) → (old : Held) → Answer → (new : Held) → Type 0
Runs [] old answer new = (answer ≡ answers.Outcome (fine [])) × (new ≡ old)
Runs (word ∷ words) old answer new =
    IsCommand (first_named commands (plain_name word)) (plain_name word) words old answer new
