-- What the subcommands that change a variable come to (dict(n)); `wrong` is the answer to a wrong number of words.
use Rattle.std.specs.Prelude.{ℕ, ◌-◌, ℤ, pos, List, [], ◌∷◌, length, slice_get, take, Result, Ok, Err}
use Rattle.std.specs.Option.{unwrap_or}
use Rattle.tt_calls.specs.Outcomes.{error_outcome}
use Rattle.tt_number.specs.Messages.{number_message}
use Rattle.tt_number.specs.Numerals.{whole_of}
use Rattle.tt_number.specs.declared.numeral.NumberFault.{NumberFault}
use Rattle.tt_dict.specs.Rows.{Meaning}
use Rattle.tt_dict.specs.declared.call.DictCall.{DictCall}
use Rattle.tt_dict.specs.declared.call.DictCall.TheVariants.{Done, Variable}
use Rattle.tt_dict.specs.declared.changes.Change.TheVariants.{Set, Unset, Incr, Append, Lappend}

-- the last word
abbrev pub last_of : (words : List (List ℕ)) → List ℕ
last_of words = unwrap_or (slice_get words (length words - 1)) []

-- dict set: a path of one key at least, and a value
abbrev pub set_last : (name : List ℕ) → (words : List (List ℕ)) → DictCall
set_last name words = Variable name (Set (take (length words - 1) words) (last_of words))

abbrev pub set_meaning : Meaning
set_meaning wrong (name ∷ key ∷ next ∷ words) = set_last name (key ∷ next ∷ words)
set_meaning wrong words = Done wrong

-- dict unset
abbrev pub unset_meaning : Meaning
unset_meaning wrong (name ∷ key ∷ keys) = Variable name (Unset (key ∷ keys))
unset_meaning wrong words = Done wrong

-- dict incr: by 1, if no word says by how much; this is read before the variable
abbrev pub incr_by : (name key step : List ℕ) → Result ℤ NumberFault → DictCall
incr_by name key step (Ok by) = Variable name (Incr key by)
incr_by name key step (Err fault) = Done (error_outcome (number_message fault step))

abbrev pub incr : Meaning
incr wrong (name ∷ key ∷ []) = Variable name (Incr key (pos 1))
incr wrong (name ∷ key ∷ step ∷ []) = incr_by name key step (whole_of step)
incr wrong words = Done wrong

-- dict append
abbrev pub append : Meaning
append wrong (name ∷ key ∷ pieces) = Variable name (Append key pieces)
append wrong words = Done wrong

-- dict lappend
abbrev pub lappend : Meaning
lappend wrong (name ∷ key ∷ items) = Variable name (Lappend key items)
lappend wrong words = Done wrong
