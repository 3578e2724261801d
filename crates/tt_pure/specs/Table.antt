-- The pure commands: for each its name, its usage, and its meaning, which gives its answer to words.
use Rattle.std.specs.Prelude.{◌≡◌, ℕ, Bool, bytes_eq, List, [], ◌∷◌, codes, Option, Some, None}
use Rattle.std.specs.List.{find}
use Rattle.std.specs.Option.{is_some}
use Rattle.tt_calls.specs.declared.outcome.Outcome.{Outcome}
use Rattle.tt_lists.specs.declared.answer.ListAnswer.{ListAnswer}
use Rattle.tt_pure.specs.Formatting.{IsFormatAnswer}
use Rattle.tt_pure.specs.Lists.{lindex, linsert, list, llength, lrange, lrepeat, lreplace, lreverse}
use Rattle.tt_pure.specs.Rows.{Row, always, is, row}
use Rattle.tt_pure.specs.Searching.{IsLsearch}
use Rattle.tt_pure.specs.Sorting.{IsLsort}
use Rattle.tt_pure.specs.StringTable.{IsString}
use Rattle.tt_pure.specs.Texts.{IsSplitAnswer, concat, join}
use Rattle.tt_pure.specs.Usages.{outcome_of, wrong_number}
use Rattle.tt_pure.specs.declared.command.Command.{Command}
use Rattle.tt_pure.specs.declared.command.Command.TheVariants as command

-- the table
abbrev pub row_of : Command → Row
row_of command.Concat = row (codes "concat") (codes "concat ?arg ...?") (always concat)
row_of command.Format = row (codes "format") (codes "format template ?value ...?") IsFormatAnswer
row_of command.Join = row (codes "join") (codes "join list ?joinString?") (is join)
row_of command.Lindex = row (codes "lindex") (codes "lindex list ?index ...?") (is lindex)
row_of command.Linsert = row (codes "linsert") (codes "linsert list index ?element ...?") (is linsert)
row_of command.List = row (codes "list") (codes "list ?value ...?") (always list)
row_of command.Llength = row (codes "llength") (codes "llength list") (is llength)
row_of command.Lrange = row (codes "lrange") (codes "lrange list first last") (is lrange)
row_of command.Lrepeat = row (codes "lrepeat") (codes "lrepeat count ?value ...?") (is lrepeat)
row_of command.Lreplace = row (codes "lreplace") (codes "lreplace list first last ?element ...?") (is lreplace)
row_of command.Lreverse = row (codes "lreverse") (codes "lreverse list") (is lreverse)
row_of command.Lsearch =
    row (codes "lsearch") (codes "lsearch ?-exact? ?-glob? ?-all? ?-inline? ?-not? list pattern") IsLsearch
row_of command.Lsort =
    row (codes "lsort") (codes "lsort ?-ascii? ?-integer? ?-increasing? ?-decreasing? ?-unique? list") IsLsort
row_of command.Split = row (codes "split") (codes "split string ?splitChars?") IsSplitAnswer
row_of command.String = row (codes "string") (codes "string length s") IsString

-- the commands of the table
abbrev pub commands : List Command
commands =
    command.Concat ∷ command.Format ∷ command.Join ∷ command.Lindex ∷ command.Linsert ∷ command.List ∷
    command.Llength ∷ command.Lrange ∷ command.Lrepeat ∷ command.Lreplace ∷ command.Lreverse ∷ command.Lsearch ∷
    command.Lsort ∷ command.Split ∷ command.String ∷ []

-- the first of these that has a name
abbrev pub first_named : List Command → (name : List ℕ) → Option Command
first_named commands name = find (λ command. bytes_eq name (row_of command).name) commands

-- the command of a name
abbrev pub command_of : (name : List ℕ) → Option Command
command_of name = first_named commands name

-- a name is one of the table
abbrev pub is_pure : (name : List ℕ) → Bool
is_pure name = is_some (command_of name)

-- an answer is that of a command to words
abbrev pub IsAnswer : Command → (words : List (List ℕ)) → ListAnswer → Type 0
IsAnswer command words answer = (row_of command).meaning (wrong_number (row_of command).usage) words answer

-- an outcome is that of a command with words
abbrev pub IsOutcome : Option Command → (words : List (List ℕ)) → Outcome → Type 0
IsOutcome None words outcome = ⊥
IsOutcome (Some command) words outcome =
    (answer : ListAnswer) × IsAnswer command words answer × (outcome ≡ outcome_of answer)
