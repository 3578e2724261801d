-- Values in dictionaries that are values of dictionaries, by keys inwards (dict(n)).
use Rattle.std.specs.Prelude.{ℕ, List, [], ◌∷◌, ◌++◌, codes, Option, Some, None, Result, Ok, Err}
use Rattle.tt_pairs.specs.Pairs.{Pairs, text_of, value_of, with_pair, without_key}
use Rattle.tt_pairs.specs.Reading.{Reading, reading_of}
use Rattle.tt_dict.specs.declared.edit.Edit.{Edit}
use Rattle.tt_dict.specs.declared.edit.Edit.TheVariants.{Put, Remove}

-- that a key is not there
abbrev pub missing : (key : List ℕ) → List ℕ
missing key = codes "key \"" ++ (key ++ codes "\" not known in dictionary")

-- what pairs give; a message stays
abbrev pub for_pairs : {A : Type 0} → (Pairs → Result A (List ℕ)) → Reading → Result A (List ℕ)
for_pairs give (Ok pairs) = give pairs
for_pairs give (Err message) = Err message

-- ---- reading (dict get, dict exists) ----

abbrev pub found_by : (key : List ℕ) → (value : Option (List ℕ)) → Result (List ℕ) (List ℕ)
found_by key (Some value) = Ok value
found_by key None = Err (missing key)

abbrev pub inner_by : (key : List ℕ) → (value : Option (List ℕ)) → Reading
inner_by key (Some value) = reading_of value
inner_by key None = Err (missing key)

-- the value of the last key as it stands, in the dictionary that the keys before it name
abbrev pub value_at : Pairs → (key : List ℕ) → (keys : List (List ℕ)) → Result (List ℕ) (List ℕ)
value_at pairs key [] = found_by key (value_of pairs key)
value_at pairs key (next ∷ keys) = for_pairs (λ inner. value_at inner next keys) (inner_by key (value_of pairs key))

-- ---- changing (dict set, dict unset) ----

-- what becomes of the dictionary that has the last key
abbrev pub after_edit : Edit → Pairs → (key : List ℕ) → Pairs
after_edit (Put value) pairs key = with_pair pairs key value
after_edit Remove pairs key = without_key pairs key

-- a missing key on the way: a dictionary is made for a value that is put
abbrev pub way_without : Edit → (key : List ℕ) → Reading
way_without (Put value) key = Ok []
way_without Remove key = Err (missing key)

abbrev pub way_by : Edit → (key : List ℕ) → (value : Option (List ℕ)) → Reading
way_by edit key (Some value) = reading_of value
way_by edit key None = way_without edit key

-- the inner dictionary's text is the key's value then
abbrev pub put_back : Pairs → (key : List ℕ) → (inner : Reading) → Reading
put_back pairs key (Ok inner) = Ok (with_pair pairs key (text_of inner))
put_back pairs key (Err message) = Err message

-- the last key is edited, in the dictionary that the keys before it name
abbrev pub after_edit_at : Edit → Pairs → (key : List ℕ) → (keys : List (List ℕ)) → Reading
after_edit_at edit pairs key [] = Ok (after_edit edit pairs key)
after_edit_at edit pairs key (next ∷ keys) =
    put_back pairs key (for_pairs (λ inner. after_edit_at edit inner next keys) (way_by edit key (value_of pairs key)))

-- a path of no keys changes nothing
abbrev pub after_edit_on : Edit → Pairs → (path : List (List ℕ)) → Reading
after_edit_on edit pairs [] = Ok pairs
after_edit_on edit pairs (key ∷ keys) = after_edit_at edit pairs key keys
