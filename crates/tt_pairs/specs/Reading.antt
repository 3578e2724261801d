-- How a text is read as a dictionary (dict(n)): as a list of keys and values in turn.
use Rattle.std.specs.Prelude.{ℕ, List, [], ◌∷◌, codes, Option, Some, None, Result, Ok, Err}
use Rattle.tt_lists.specs.Messages.{list_message}
use Rattle.tt_lists.specs.Reading.{split_of}
use Rattle.tt_lists.specs.declared.items.Split.{Split}
use Rattle.tt_lists.specs.declared.items.Split.TheVariants.{Items, Bad}
use Rattle.tt_pairs.specs.Pairs.{Pairs, with_pair}

-- pairs, and then those of keys and values in turn; none if the last key has no value
abbrev pub with_items : Pairs → (items : List (List ℕ)) → Option Pairs
with_items pairs [] = Some pairs
with_items pairs (key ∷ []) = None
with_items pairs (key ∷ value ∷ items) = with_items (with_pair pairs key value) items

abbrev pub pairs_of : (items : List (List ℕ)) → Option Pairs
pairs_of items = with_items [] items

-- what a text is read as: its pairs, or the message of why it is no dictionary
abbrev pub Reading : Type 0
Reading = Result Pairs (List ℕ)

abbrev pub whole : Option Pairs → Reading
whole (Some pairs) = Ok pairs
whole None = Err (codes "missing value to go with key")

abbrev pub reading_by : Split → Reading
reading_by (Items items) = whole (pairs_of items)
reading_by (Bad fault) = Err (list_message fault)

abbrev pub reading_of : (text : List ℕ) → Reading
reading_of text = reading_by (split_of text)
