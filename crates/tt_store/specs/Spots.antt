-- What names name: variables and elements, of the current frame or of the global one (Tcl(n), set(n)).
use Rattle.std.specs.Prelude.{ℕ, true, false, List, ◌++◌, codes, Option, Some, None, if◌then◌else◌}
use Rattle.tt_script.specs.Names.{element_of, global_of}
use Rattle.tt_vars.specs.declared.variable.Place.{Place}
use Rattle.tt_vars.specs.Links.{place_of}
use Rattle.tt_vars.specs.Variables.{Name}
use Rattle.tt_store.specs.declared.spot.Spot.{Spot}

-- a name with a leading `::` is that of a global variable, which has the rest for its name
abbrev pub spot_by : (rest : Option Name) → Name → Option Name → Spot
spot_by (Some rest) name index = record { global = true; name = rest; index = index }
spot_by None name index = record { global = false; name = name; index = index }

-- what `$name` and `$name(index)` name
abbrev pub spot : Name → Option Name → Spot
spot name index = spot_by (global_of name) name index

-- what a command's word names, if a(b) is element b of a
abbrev pub spot_in : (element : Option (Name × Name)) → (word : Name) → Spot
spot_in (Some element) word = spot element.0 (Some element.1)
spot_in None word = spot word None

abbrev pub spot_of : (word : Name) → Spot
spot_of word = spot_in (element_of word) word

-- its place, if a frame is the current one
abbrev pub place_in : (current : ℕ) → Spot → Place
place_in current spot = place_of (if spot.global then 0 else current) spot.name spot.index

-- a name with its index, if it has one, as errors show it
abbrev pub full_name : Name → Option Name → List ℕ
full_name name None = name
full_name name (Some index) = name ++ (codes "(" ++ (index ++ codes ")"))
