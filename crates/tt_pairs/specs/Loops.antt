-- What `dict for` goes over (dict(n)). Its names are read first: they are a list of two.
use Rattle.std.specs.Prelude.{ℕ, List, [], ◌∷◌, codes, Result, Ok, Err}
use Rattle.tt_lists.specs.Messages.{list_message}
use Rattle.tt_lists.specs.Reading.{split_of}
use Rattle.tt_lists.specs.declared.items.Split.{Split}
use Rattle.tt_lists.specs.declared.items.Split.TheVariants.{Items, Bad}
use Rattle.tt_pairs.specs.Pairs.{Pairs, items_of}
use Rattle.tt_pairs.specs.Reading.{Reading}
use Rattle.tt_pairs.specs.declared.looping.Looping.{Looping}

-- the pairs as they are when the loop begins
abbrev pub over : (key value body : List ℕ) → Pairs → Looping
over key value body pairs = record { key = key; value = value; pairs = items_of pairs; body = body }

abbrev pub by_reading : (key value : List ℕ) → Reading → (body : List ℕ) → Result Looping (List ℕ)
by_reading key value (Ok pairs) body = Ok (over key value body pairs)
by_reading key value (Err message) body = Err message

abbrev pub by_names : (names : List (List ℕ)) → Reading → (body : List ℕ) → Result Looping (List ℕ)
by_names (key ∷ value ∷ []) reading body = by_reading key value reading body
by_names names reading body = Err (codes "must have exactly two variable names")

abbrev pub by_split : Split → Reading → (body : List ℕ) → Result Looping (List ℕ)
by_split (Items names) reading body = by_names names reading body
by_split (Bad fault) reading body = Err (list_message fault)

-- a loop, or the message of why there is none
abbrev pub looping_of : (names : List ℕ) → Reading → (body : List ℕ) → Result Looping (List ℕ)
looping_of names reading body = by_split (split_of names) reading body
