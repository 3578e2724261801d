-- Words that the commands on levels and those on arrays share.
use Rattle.std.specs.Prelude.{ℕ, Bool, List, codes, if◌then◌else◌, is_some}
use Rattle.tt_script.specs.Names.{element_of}
use Rattle.tt_vars.specs.Variables.{Name}

-- a(b) is an element's name (Tcl(n), rule 8)
abbrev pub is_element : Name → Bool
is_element name = is_some (element_of name)

-- 1 for what is so, else 0 (info(n), array(n))
abbrev pub truth : Bool → List ℕ
truth is = if is then codes "1" else codes "0"
