-- What the first two words of a list do where words are read by pairs.
use Rattle.std.proofs.Common.{◌≡◌, ◌≤◌, ℕ, ◌-◌, true, List, [], ◌∷◌, ◌++◌, length, get_or, take, drop, rules, arith}
use Rattle.std.proofs.lemmas.Grind.{common_steps}
use Rattle.tt_control.specs.Endings.{is_code, last_code}
use Rattle.tt_control.specs.Turns.{column_of, columns_from}
use Rattle.tt_control.specs.declared.control.Control.{Control}
use Rattle.tt_control.specs.declared.turns.Column.{Column}
use Rattle.tt_control.specs.declared.turns.ColumnRead.TheVariants as read

pub code_read :
    (name option value : List ℕ) (words : List (List ℕ)) →
    2 ≤ length words →
    option ≡ get_or words 0 option →
    value ≡ get_or words 1 value →
    is_code option ≡ true →
    last_code name words ≡ last_code value (take (length words - 2) (drop 2 words))
code_read name option value [] long first second known = search (rules, long)
code_read name option value (a ∷ []) long first second known = search (rules, long)
code_read name option value (a ∷ b ∷ later) long first second known = grind (arith, common_steps)

pub column_read :
    (wrong : Control) (columns more : List Column) (column : Column) (names values : List ℕ) (words : List (List ℕ)) →
    2 ≤ length words →
    names ≡ get_or words 0 names →
    values ≡ get_or words 1 values →
    read.Column column ≡ column_of names values →
    more ≡ columns ++ column ∷ [] →
    columns_from wrong columns words ≡ columns_from wrong more (take (length words - 2) (drop 2 words))
column_read wrong columns more column names values [] long first second known added = search rules
column_read wrong columns more column names values (a ∷ []) long first second known added = search (rules, long)
column_read wrong columns more column names values (a ∷ b ∷ later) long first second known added =
    grind (arith, common_steps)
