-- Commands on variables and lists (lappend(n), lassign(n)).
use Rattle.std.specs.Prelude.{◌≡◌, ℕ, List, [], ◌∷◌, length, drop, Option, Some, None}
use Rattle.tt_calls.specs.declared.outcome.Outcome.{Outcome}
use Rattle.tt_calls.specs.Outcomes.{error_outcome, fine}
use Rattle.tt_lists.specs.Messages.{list_message}
use Rattle.tt_lists.specs.Reading.{split_of}
use Rattle.tt_lists.specs.Spelling.{list_of}
use Rattle.tt_lists.specs.declared.items.Split.{Split}
use Rattle.tt_lists.specs.declared.items.Split.TheVariants as split
use Rattle.tt_value.specs.Growing.{list_with_texts}
use Rattle.tt_vars.specs.declared.answers.Written.{Written}
use Rattle.tt_vars.specs.declared.answers.Written.TheVariants.{Yes, No}
use Rattle.tt_store.specs.Held.{Fails, Held, Meaning, Refuses, Sets}
use Rattle.tt_store.specs.Messages.{cannot_set}
use Rattle.tt_store.specs.Scalars.{Changes}
use Rattle.tt_store.specs.Spots.{spot_of}

-- lappend(n): without a value it writes the list as it is
abbrev pub lappend : Meaning
lappend usage (name ∷ values) old outcome new = Changes name [] (list_with_texts values) old outcome new
lappend usage [] old outcome new = Refuses usage old outcome new

-- a text is given to a variable; the message, if it can't be
abbrev pub message_of : (word : List ℕ) → Written → Option (List ℕ)
message_of word Yes = None
message_of word (No fault) = Some (cannot_set word fault)

abbrev pub AssignsOne : (word text : List ℕ) → (old : Held) → Option (List ℕ) → (new : Held) → Type 0
AssignsOne word text old message new =
    (written : Written)
    × Sets old (spot_of word) text new written
    × (message ≡ message_of word written)

-- texts are given to variables one after the other, up to the first that can't be; then its message is the answer
pub data Assigns : (pairs : List (List ℕ × List ℕ)) → (old : Held) → Option (List ℕ) → (new : Held) → Type 0 where
  none : {held : Held} → Assigns [] held None held
  more : {word text : List ℕ} {pairs : List (List ℕ × List ℕ)} {old next new : Held} {message : Option (List ℕ)} →
      AssignsOne word text old None next →
      Assigns pairs next message new →
      Assigns ((word, text) ∷ pairs) old message new
  fails : {word text message : List ℕ} {pairs : List (List ℕ × List ℕ)} {old new : Held} →
      AssignsOne word text old (Some message) new →
      Assigns ((word, text) ∷ pairs) old (Some message) new

-- the first item, and the empty text if there is none
abbrev pub first_of : (items : List (List ℕ)) → List ℕ
first_of [] = []
first_of (item ∷ items) = item

-- names and items, if an item that is missing is empty
abbrev pub names_with_items : (names items : List (List ℕ)) → List (List ℕ × List ℕ)
names_with_items [] items = []
names_with_items (name ∷ names) items = (name, first_of items) ∷ names_with_items names (drop 1 items)

abbrev pub rest_outcome : (rest : List (List ℕ)) → (message : Option (List ℕ)) → Outcome
rest_outcome rest None = fine (list_of rest)
rest_outcome rest (Some message) = error_outcome message

abbrev pub AssignsItems : Split → (names : List (List ℕ)) → (old : Held) → Outcome → (new : Held) → Type 0
AssignsItems (split.Bad fault) names old outcome new = Fails (list_message fault) old outcome new
AssignsItems (split.Items items) names old outcome new =
    (message : Option (List ℕ))
    × Assigns (names_with_items names items) old message new
    × (outcome ≡ rest_outcome (drop (length names) items) message)

-- lassign(n)
abbrev pub lassign : Meaning
lassign usage (list ∷ names) old outcome new = AssignsItems (split_of list) names old outcome new
lassign usage [] old outcome new = Refuses usage old outcome new
