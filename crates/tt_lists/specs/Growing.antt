-- A list that grows at its end (lappend(n)).
use Rattle.std.specs.Prelude.{◌≡◌, ℕ, List, [], ◌∷◌, ◌++◌}
use Rattle.tt_lists.specs.Spelling.{spelling, later_item, list_of}
use Rattle.tt_lists.specs.declared.spelling.Place.TheVariants.{First}

-- what one item more adds to a list's text
abbrev pub piece_of : List ℕ → List ℕ → List ℕ
piece_of [] item = spelling First item
piece_of (b ∷ text) item = later_item item

-- a list's text with one item more at its end
abbrev pub with_last : List ℕ → List ℕ → List ℕ
with_last text item = text ++ piece_of text item

-- of a list's canonical text that is the canonical text of the longer list
abbrev pub LastItemLaw : Type 0
LastItemLaw =
    (items : List (List ℕ)) (item : List ℕ) → with_last (list_of items) item ≡ list_of (items ++ (item ∷ []))
