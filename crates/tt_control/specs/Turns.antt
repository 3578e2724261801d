-- The variables of foreach(n), and the values that they get turn by turn.
use Rattle.std.specs.Prelude.{ℕ, zero, suc, ◌-◌, ◌*◌, ◌%◌, ◌==◌, ◌||◌, nat_lt, max, List, [], ◌∷◌, ◌++◌, codes, drop}
use Rattle.std.specs.Prelude.{length, replicate, take, if◌then◌else◌}
use Rattle.std.specs.Int.{div_ceil}
use Rattle.std.specs.List.{flat_map, fold}
use Rattle.tt_control.specs.Refusals.{Meaning}
use Rattle.tt_control.specs.declared.control.Control.{Control}
use Rattle.tt_control.specs.declared.control.Control.TheVariants as control
use Rattle.tt_control.specs.declared.turns.Column.{Column}
use Rattle.tt_control.specs.declared.turns.ColumnRead.{ColumnRead}
use Rattle.tt_control.specs.declared.turns.ColumnRead.TheVariants as read
use Rattle.tt_lists.specs.Messages.{list_message}
use Rattle.tt_lists.specs.Reading.{split_of}
use Rattle.tt_lists.specs.declared.items.Split.{Split}
use Rattle.tt_lists.specs.declared.items.Split.TheVariants.{Items, Bad}

-- so many turns are needed by a list of values, for variables of which there is at least one
abbrev pub turns_needed : (variables values : ℕ) → ℕ
turns_needed zero values = 0
turns_needed (suc variables) values = div_ceil values (suc variables)

-- the turns that the longest list needs
abbrev pub most_turns : (columns : List Column) → ℕ
most_turns columns =
    fold (λ most column. max most (turns_needed (length column.names) (length column.values))) 0 columns

-- so many values, the missing ones empty
abbrev pub to_width : (width : ℕ) → (values : List (List ℕ)) → List (List ℕ)
to_width width values = take width values ++ replicate (width - length values) []

-- the values that a list gives its variables in a turn, counted from 0
abbrev pub turn_values : (turn : ℕ) → Column → List (List ℕ)
turn_values turn column = to_width (length column.names) (drop (turn * length column.names) column.values)

-- the values of all variables in the first turns
abbrev pub first_turns : (columns : List Column) → (count : ℕ) → List (List ℕ)
first_turns columns zero = []
first_turns columns (suc turn) = first_turns columns turn ++ flat_map (turn_values turn) columns

abbrev pub list_loop : (columns : List Column) → (body : List ℕ) → Control
list_loop columns body =
    control.Foreach (flat_map (λ column. column.names) columns) (first_turns columns (most_turns columns)) body

-- a list of variables and a list of values
abbrev pub with_values : (names : List (List ℕ)) → Split → ColumnRead
with_values names (Items values) = read.Column (record { names = names; values = values })
with_values names (Bad fault) = read.Bad (list_message fault)

abbrev pub with_names : Split → (values : List ℕ) → ColumnRead
with_names (Items []) values = read.Bad (codes "empty variable list")
with_names (Items (name ∷ names)) values = with_values (name ∷ names) (split_of values)
with_names (Bad fault) values = read.Bad (list_message fault)

abbrev pub column_of : (names values : List ℕ) → ColumnRead
column_of names values = with_names (split_of names) values

-- pairs of such lists after those that were read, and a last word
abbrev pub columns_from : (wrong : Control) → (columns : List Column) → (words : List (List ℕ)) → Control
columns_from wrong columns [] = wrong
columns_from wrong columns (body ∷ []) = list_loop columns body
columns_from wrong columns (names ∷ values ∷ words) =
    elim (column_of names values) [
      | read.Column column ↦ columns_from wrong (columns ++ column ∷ []) words
      | read.Bad message ↦ control.Bad message
    ]

-- an odd number of words, and at least three
abbrev pub foreach : Meaning
foreach wrong words =
    if nat_lt (length words) 3 || (length words % 2 == 0) then wrong else columns_from wrong [] words
