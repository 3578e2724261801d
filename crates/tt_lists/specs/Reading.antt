-- The function that reads list text. It follows the grammar, and answers lengths where that cuts texts.
use Rattle.std.specs.Prelude.{◌≡◌, ℕ, zero, suc, ◌+◌, ◌-◌, nat_lt, Bool, true, false, not, ◌&&◌, ◌==◌, ◌↔◌, List, []}
use Rattle.std.specs.Prelude.{◌∷◌, ◌++◌, length, drop, take, take_while, Option, Some, None}
use Rattle.tt_text.specs.Backslash.{backslash}
use Rattle.tt_text.specs.Braces.{matching_brace}
use Rattle.tt_text.specs.Characters.{is_white_space}
use Rattle.tt_lists.specs.ListText.{IsListText, IsFaulty, is_quote, is_no_white_space}
use Rattle.tt_lists.specs.declared.run.Run.{Run}
use Rattle.tt_lists.specs.declared.run.Stop.{Stop}
use Rattle.tt_lists.specs.declared.run.Stop.TheVariants.{WhiteSpace, Quote}
use Rattle.tt_lists.specs.declared.items.ListFault.{ListFault}
use Rattle.tt_lists.specs.declared.items.ListFault.TheVariants.{OpenBrace, OpenQuote, AfterBrace, AfterQuote}
use Rattle.tt_lists.specs.declared.splitting.Reading.{Reading}
use Rattle.tt_lists.specs.declared.splitting.Reading.TheVariants.{Item, Wrong}
use Rattle.tt_lists.specs.declared.items.Split.{Split}
use Rattle.tt_lists.specs.declared.items.Split.TheVariants.{Items, Bad}

-- what stops a run
abbrev pub stops : Stop → ℕ → Bool
stops WhiteSpace b = is_white_space b
stops Quote b = is_quote b

-- a byte that stands for itself, and does not stop a run
abbrev pub is_plain : (ℕ → Bool) → ℕ → Bool
is_plain stops b = not (stops b) && not (b == 92)

-- one byte more, with what it stands for
abbrev pub prepend : List ℕ → Run → Run
prepend value front_run = record { value = value ++ front_run.value; takes = 1 + front_run.takes }

-- the run at the front of a text, after so many bytes that belong to a sequence
abbrev pub front_run : (ℕ → Bool) → ℕ → List ℕ → Run
front_run stops passed [] = record { value = []; takes = 0 }
front_run stops (suc passed) (b ∷ text) = prepend [] (front_run stops passed text)
front_run stops zero (b ∷ text) =
    elim (stops b) [
      | true ↦ record { value = []; takes = 0 }
      | false ↦ elim (b == 92) [
        | true ↦ prepend (backslash text).value (front_run stops (backslash text).takes text)
        | false ↦ prepend (b ∷ []) (front_run stops zero text)
      ]
    ]

-- the end of a text or white space follows an item
abbrev pub is_separated : List ℕ → Bool
is_separated [] = true
is_separated (b ∷ after) = is_white_space b

-- an item whose braces or quotes have ended, and what follows
abbrev pub closed_item : (List ℕ → ListFault) → List ℕ → ℕ → List ℕ → Reading
closed_item fault item takes after =
    elim (is_separated after) [
      | true ↦ Item item takes
      | false ↦ Wrong (fault (take 20 (take_while is_no_white_space after)))
    ]

abbrev pub in_braces : List ℕ → Option ℕ → Reading
in_braces text None = Wrong OpenBrace
in_braces text (Some place) = closed_item AfterBrace (take place text) (place + 2) (drop (place + 1) text)

abbrev pub in_quotes : List ℕ → Run → Reading
in_quotes text front_run =
    elim (nat_lt front_run.takes (length text)) [
      | true ↦ closed_item AfterQuote front_run.value (front_run.takes + 2) (drop (front_run.takes + 1) text)
      | false ↦ Wrong OpenQuote
    ]

abbrev pub in_bare : Run → Reading
in_bare front_run = Item front_run.value front_run.takes

-- the item at the front of a text that begins with no white space
abbrev pub item_with : ℕ → List ℕ → Reading
item_with b text =
    elim (b == 123) [
      | true ↦ in_braces text (matching_brace text)
      | false ↦ elim (b == 34) [
        | true ↦ in_quotes text (front_run is_quote 0 text)
        | false ↦ in_bare (front_run is_white_space 0 (b ∷ text))
      ]
    ]

unfoldable pub item_at : List ℕ → Reading
item_at [] = Item [] 0
item_at (b ∷ text) = item_with b text

-- an item before those of the rest
abbrev pub with_item : List ℕ → Split → Split
with_item item (Items items) = Items (item ∷ items)
with_item item (Bad fault) = Bad fault

-- the items of a text, after so many bytes that belong to an item
unfoldable pub split_after : ℕ → List ℕ → Split
split_after passed [] = Items []
split_after (suc passed) (b ∷ text) = split_after passed text
split_after zero (b ∷ text) =
    elim (is_white_space b) [
      | true ↦ split_after zero text
      | false ↦ elim (item_at (b ∷ text)) [
        | Item item takes ↦ with_item item (split_after (takes - 1) text)
        | Wrong fault ↦ Bad fault
      ]
    ]

-- what a text is split into
abbrev pub split_of : List ℕ → Split
split_of text = split_after 0 text

-- a text and what it is split into, by the grammar
abbrev pub IsSplit : List ℕ → Split → Type 0
IsSplit text (Items items) = IsListText text items
IsSplit text (Bad fault) = IsFaulty text fault

-- the function answers what the grammar says, and nothing else
abbrev pub SplitLaw : Type 0
SplitLaw = (text : List ℕ) (split : Split) → (split_of text ≡ split) ↔ IsSplit text split
