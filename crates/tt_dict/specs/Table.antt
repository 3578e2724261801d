-- The subcommands of dict(n): for each its name, its usage, and what its words come to.
use Rattle.std.specs.Prelude.{ℕ, bytes_eq, List, [], ◌∷◌, codes, Option, Some, None, Result, Ok, Err}
use Rattle.std.specs.List.{find}
use Rattle.tt_calls.specs.Outcomes.{error_outcome}
use Rattle.tt_calls.specs.Usages.{bad_option, wrong_number}
use Rattle.tt_pairs.specs.Loops.{looping_of}
use Rattle.tt_pairs.specs.Reading.{reading_of}
use Rattle.tt_pairs.specs.declared.looping.Looping.{Looping}
use Rattle.tt_dict.specs.Rows.{Meaning, Row, answers, reads, row}
use Rattle.tt_dict.specs.Telling as telling
use Rattle.tt_dict.specs.Variables as variables
use Rattle.tt_dict.specs.declared.call.DictCall.{DictCall}
use Rattle.tt_dict.specs.declared.call.DictCall.TheVariants.{Done, Loop}
use Rattle.tt_dict.specs.declared.subcommand.Subcommand.{Subcommand}
use Rattle.tt_dict.specs.declared.subcommand.Subcommand.TheVariants as subcommand

-- dict for
abbrev pub pair_loop : Result Looping (List ℕ) → DictCall
pair_loop (Ok looping) = Loop looping
pair_loop (Err message) = Done (error_outcome message)

abbrev pub for_each : Meaning
for_each wrong (names ∷ dictionary ∷ body ∷ []) = pair_loop (looping_of names (reading_of dictionary) body)
for_each wrong words = Done wrong

-- the table
abbrev pub row_of : Subcommand → Row
row_of subcommand.Create = row (codes "create") (codes "dict create ?key value ...?") (answers telling.create)
row_of subcommand.Get = row (codes "get") (codes "dict get d ?key ...?") (answers (reads telling.get))
row_of subcommand.Exists = row (codes "exists") (codes "dict exists d key ?key ...?") (answers (reads telling.exists))
row_of subcommand.Size = row (codes "size") (codes "dict size d") (answers (reads telling.size))
row_of subcommand.Keys = row (codes "keys") (codes "dict keys d ?pattern?") (answers (reads telling.keys))
row_of subcommand.Values = row (codes "values") (codes "dict values d ?pattern?") (answers (reads telling.values))
row_of subcommand.Merge = row (codes "merge") (codes "dict merge ?d ...?") (answers telling.merge)
row_of subcommand.Remove = row (codes "remove") (codes "dict remove d ?key ...?") (answers (reads telling.remove))
row_of subcommand.Replace = row (codes "replace") (codes "dict replace d ?key value ...?")
    (answers (reads telling.replace))
row_of subcommand.Set = row (codes "set") (codes "dict set varName key ?key ...? value") variables.set_meaning
row_of subcommand.Unset = row (codes "unset") (codes "dict unset varName key ?key ...?") variables.unset_meaning
row_of subcommand.Incr = row (codes "incr") (codes "dict incr varName key ?n?") variables.incr
row_of subcommand.Append = row (codes "append") (codes "dict append varName key ?v ...?") variables.append
row_of subcommand.Lappend = row (codes "lappend") (codes "dict lappend varName key ?v ...?") variables.lappend
row_of subcommand.For = row (codes "for") (codes "dict for {k v} d body") for_each

-- the subcommands of the table
abbrev pub subcommands : List Subcommand
subcommands =
    subcommand.Create ∷ subcommand.Get ∷ subcommand.Exists ∷ subcommand.Size ∷ subcommand.Keys ∷ subcommand.Values ∷
    subcommand.Merge ∷ subcommand.Remove ∷ subcommand.Replace ∷ subcommand.Set ∷ subcommand.Unset ∷ subcommand.Incr ∷
    subcommand.Append ∷ subcommand.Lappend ∷ subcommand.For ∷ []

-- the first of these that has a name
abbrev pub first_named : List Subcommand → (name : List ℕ) → Option Subcommand
first_named subcommands name = find (λ subcommand. bytes_eq name (row_of subcommand).name) subcommands

-- what the words after a subcommand come to
abbrev pub meaning_of : Subcommand → (words : List (List ℕ)) → DictCall
meaning_of subcommand words = (row_of subcommand).meaning (error_outcome (wrong_number (row_of subcommand).usage)) words

abbrev pub by_subcommand : Option Subcommand → (word : List ℕ) → (words : List (List ℕ)) → DictCall
by_subcommand (Some subcommand) word words = meaning_of subcommand words
by_subcommand None word words = Done (error_outcome (bad_option word))

-- what the words after `dict` come to; without one the first usage is reported
abbrev pub call_of : (words : List (List ℕ)) → DictCall
call_of [] = Done (error_outcome (wrong_number (row_of subcommand.Create).usage))
call_of (word ∷ words) = by_subcommand (first_named subcommands word) word words
