-- The report of races: a line for each of those that are told, and one with the number of all.
use Rattle.std.specs.Prelude.{ℕ, List, [], ◌∷◌, ◌++◌, codes, Option, Some, None}
use Rattle.std.specs.Fmt.{decimal}
use Rattle.std.specs.List.{flat_map}
use Rattle.tt_before.specs.declared.race.Race.{Race}
use Rattle.tt_before.specs.declared.race.Races.{Races}
use Rattle.tt_lists.specs.Spelling.{list_of}

-- an item as a list's first element (list(n)): the list of it alone
abbrev pub as_element : (item : List ℕ) → List ℕ
as_element item = list_of (item ∷ [])

-- a key, or a star for the whole array
abbrev pub key_text : Option (List ℕ) → List ℕ
key_text None = codes "*"
key_text (Some key) = as_element key

-- the numbers of the two entries
abbrev pub entries_text : Race → List ℕ
entries_text race = codes "race " ++ (decimal race.first ++ (codes " " ++ decimal race.second))

-- the array and the key
abbrev pub place_text : Race → List ℕ
place_text race = codes " " ++ (as_element race.array ++ (codes " " ++ key_text race.key))

-- the line of a race, with its newline
abbrev pub race_line : Race → List ℕ
race_line race = entries_text race ++ (place_text race ++ 10 ∷ [])

-- the line with the number of all
abbrev pub count_line : ℕ → List ℕ
count_line count = codes "races " ++ (decimal count ++ 10 ∷ [])

-- the whole report
abbrev pub races_text_of : Races → List ℕ
races_text_of races = flat_map race_line races.first.items ++ count_line races.count
