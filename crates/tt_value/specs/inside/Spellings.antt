-- How the text of a list is known (list(n)).
use Rattle.std.specs.Prelude.{◌≡◌, ⊤, ℕ, List}
use Rattle.tt_lists.specs.Reading.{split_of}
use Rattle.tt_lists.specs.Spelling.{list_of}
use Rattle.tt_lists.specs.declared.items.Split.TheVariants.{Items}
use Rattle.tt_value.specs.declared.listing.Spelling.{Spelling}
use Rattle.tt_value.specs.declared.listing.Spelling.TheVariants.{Unmade, Canonical, Given}

-- the text of a list of these items
abbrev pub text_in : Spelling → (items : List (List ℕ)) → List ℕ
text_in Unmade items = list_of items
text_in (Canonical text) items = text
text_in (Given text) items = text

-- it is split into them, and is their canonical text if it is called so
abbrev pub IsSpelled : Spelling → (items : List (List ℕ)) → Type 0
IsSpelled Unmade items = ⊤
IsSpelled (Canonical text) items = text ≡ list_of items
IsSpelled (Given text) items = split_of text ≡ Items items
