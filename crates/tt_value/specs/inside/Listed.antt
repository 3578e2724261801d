-- A list that is kept (Tcl(n), lists).
use Rattle.std.specs.Prelude.{ℕ, List}
use Rattle.tt_lists.specs.Spelling.{list_of}

-- its items, and its text
pub record Listed : Type 0 where
  pub items : List (List ℕ)
  pub text : List ℕ

-- the list of these items with its canonical text
abbrev pub canonical : (items : List (List ℕ)) → Listed
canonical items = record { items = items; text = list_of items }
