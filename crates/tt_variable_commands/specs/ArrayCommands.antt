-- The subcommands of array(n): for each its name, its usage, and what its words mean.
use Rattle.std.specs.Prelude.{◌≡◌, ℕ, Bool, true, false, bytes_eq, List, [], ◌∷◌, Option, Some, None, codes}
use Rattle.std.specs.List.{find}
use Rattle.tt_calls.specs.declared.outcome.Outcome.{Outcome}
use Rattle.tt_store.specs.declared.answers.Answer.{Answer}
use Rattle.tt_store.specs.declared.answers.Answer.TheVariants as answers
use Rattle.tt_store.specs.Held.{Fails, Held, Meaning, Refuses}
use Rattle.tt_calls.specs.Usages.{bad_option}
use Rattle.tt_script.specs.Names.{plain_name}
use Rattle.tt_variable_commands.specs.declared.arrays.subcommand.Subcommand.{Subcommand}
use Rattle.tt_variable_commands.specs.declared.arrays.subcommand.Subcommand.TheVariants as subcommand
use Rattle.tt_variable_commands.specs.ArrayChanging as changing
use Rattle.tt_variable_commands.specs.ArrayReading as reading
use Rattle.tt_variable_commands.specs.ArrayReading.{Ending}

pub record Row : Type 1 where
  pub name : List ℕ
  pub usage : List ℕ
  pub meaning : Meaning

abbrev pub row : (name usage : List ℕ) → Meaning → Row
row name usage meaning = record { name = name; usage = usage; meaning = meaning }

-- the table
abbrev pub row_of : Subcommand → Row
row_of subcommand.Exists = row (codes "exists") (codes "array exists a") reading.exists
row_of subcommand.Get = row (codes "get") (codes "array get a ?pattern?") reading.get
row_of subcommand.Names = row (codes "names") (codes "array names a ?pattern?") reading.names
row_of subcommand.Set = row (codes "set") (codes "array set a list") changing.array_set
row_of subcommand.Size = row (codes "size") (codes "array size a") reading.size
row_of subcommand.Unset = row (codes "unset") (codes "array unset a ?pattern?") changing.array_unset

abbrev pub subcommands : List Subcommand
subcommands =
    subcommand.Exists ∷ subcommand.Get ∷ subcommand.Names ∷ subcommand.Set ∷ subcommand.Size ∷ subcommand.Unset ∷ []

-- the first of these that has a name
abbrev pub first_named : List Subcommand → (name : List ℕ) → Option Subcommand
first_named subcommands name = find (λ subcommand. bytes_eq name (row_of subcommand).name) subcommands

-- what words after a subcommand come to
abbrev pub by_row : Row → (words : List (List ℕ)) → Ending
by_row row words old outcome new = row.meaning row.usage words old outcome new

-- a subcommand of the table, or another word
abbrev pub IsSubcommand : Option Subcommand → (word : List ℕ) → (words : List (List ℕ)) → Ending
IsSubcommand (Some subcommand) word words old outcome new = by_row (row_of subcommand) words old outcome new
IsSubcommand None word words old outcome new = Fails (bad_option word) old outcome new

-- array(n): without a subcommand the first usage is reported
abbrev pub array : (words : List (List ℕ)) → Ending
array [] old outcome new = Refuses (row_of subcommand.Exists).usage old outcome new
array (word ∷ words) old outcome new = IsSubcommand (first_named subcommands word) word words old outcome new

-- another command changes nothing
abbrev pub RunsIf : (named : Bool) → (words : List (List ℕ)) → (old : Held) → Answer → (new : Held) → Type 0
RunsIf false words old answer new = (answer ≡ answers.Other) × (new ≡ old)
RunsIf true words old answer new =
    (outcome : Outcome)
    × array words old outcome new
    × (answer ≡ answers.Outcome outcome)

-- the name is that of array(n)
abbrev pub is_array : (word : List ℕ) → Bool
is_array word = bytes_eq (plain_name word) (codes "array")

-- what a whole command comes to, its name first
abbrev pub Runs : (words : List (List ℕ)) → (old : Held) → Answer → (new : Held) → Type 0
Runs [] old answer new = (answer ≡ answers.Other) × (new ≡ old)
Runs (word ∷ words) old answer new = RunsIf (is_array word) words old answer new
