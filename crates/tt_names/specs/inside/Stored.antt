-- How names are stored: a word of the code's own contracts.
use Rattle.std.specs.Prelude.{List}
use Rattle.tt_names.specs.declared.storage.Storage.{Storage}
use Rattle.tt_names.specs.declared.storage.Storage.TheVariants.{Few, Many}
use Rattle.tt_names.specs.Names.{Name}

-- the names, with what stands under them
abbrev pub stored_pairs : {V : Type 0} → Storage V → List (Name × V)
stored_pairs (Few pairs) = pairs.items
stored_pairs (Many map) = map.entries
