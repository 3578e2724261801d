-- Loops over dictionaries (dict(n)): foreach(n) over the keys and values in turn.
use Rattle.std.specs.Prelude.{ℕ, bytes_eq, List, [], ◌∷◌, codes, Result, Ok, Err, if◌then◌else◌}
use Rattle.tt_control.specs.Refusals.{Meaning}
use Rattle.tt_control.specs.declared.control.Control.{Control}
use Rattle.tt_control.specs.declared.control.Control.TheVariants as control
use Rattle.tt_pairs.specs.Loops.{looping_of}
use Rattle.tt_pairs.specs.Reading.{reading_of}
use Rattle.tt_pairs.specs.declared.looping.Looping.{Looping}

-- two variables, and for each turn a key and its value
abbrev pub over : Looping → Control
over looping = control.Foreach (looping.key ∷ looping.value ∷ []) looping.pairs looping.body

abbrev pub pair_loop : Result Looping (List ℕ) → Control
pair_loop (Ok looping) = over looping
pair_loop (Err message) = control.Bad message

-- dict for
abbrev pub for_pairs : Meaning
for_pairs wrong (names ∷ dictionary ∷ body ∷ []) = pair_loop (looping_of names (reading_of dictionary) body)
for_pairs wrong words = wrong

-- the other subcommands evaluate nothing, and are none of this table
abbrev pub dict : Meaning
dict wrong [] = control.Other
dict wrong (word ∷ words) = if bytes_eq word (codes "for") then for_pairs wrong words else control.Other
