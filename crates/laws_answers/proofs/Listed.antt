-- Commands on variables and lists always come to something.
use Rattle.std.proofs.Common.{ℕ, List, [], ◌∷◌, Option, Some, None, drop, length}
use Rattle.laws_answers.proofs.Holding.{sets}
use Rattle.laws_answers.proofs.Scalars.{changes, refuses}
use Rattle.laws_answers.proofs.Totals.{Good, Total, same, told}
use Rattle.tt_calls.specs.Outcomes.{error_outcome}
use Rattle.tt_lists.specs.Messages.{list_message}
use Rattle.tt_lists.specs.Reading.{split_of}
use Rattle.tt_lists.specs.declared.items.Split.{Split}
use Rattle.tt_lists.specs.declared.items.Split.TheVariants as split
use Rattle.tt_store.specs.Held.{Held}
use Rattle.tt_store.specs.Listed.{Assigns, AssignsItems, AssignsOne, fails, lappend, lassign, message_of, more, names_with_items, none, rest_outcome}
use Rattle.tt_store.specs.Spots.{spot_of}
use Rattle.tt_value.specs.Growing.{list_with_texts}

pub lappend_total : (usage : List ℕ) (words : List (List ℕ)) (old : Held) → Good old → Total (λ outcome new. lappend usage words old outcome new)
lappend_total usage [] old good = refuses usage old good
lappend_total usage (name ∷ values) old good = changes name [] (list_with_texts values) old good

assigns_one : (word text : List ℕ) (old : Held) → Good old → Total (λ message new. AssignsOne word text old message new)
assigns_one word text old good = told (message_of word) (sets old (spot_of word) text good)

SomeAssigned : List (List ℕ × List ℕ) → Held → Type 0
SomeAssigned pairs old = (message : Option (List ℕ)) × (new : Held) × Assigns pairs old message new

assigns_give : (pairs : List (List ℕ × List ℕ)) (old : Held) → Good old → SomeAssigned pairs old
unfolding SomeAssigned
assigns_give [] old good = (None, old, none)
assigns_give ((word, text) ∷ pairs) old good =
    let one = assigns_one word text old good in
    by one.gives.0 one.gives.1 one.gives.2 (λ next is. assigns_give pairs next (one.keeps None next is))
  where
    by : (message : Option (List ℕ)) (next : Held) → AssignsOne word text old message next
        → ((next : Held) → AssignsOne word text old None next → SomeAssigned pairs next) → SomeAssigned ((word, text) ∷ pairs) old
    by None next is rest = let later = rest next is in (later.0, later.1, more is later.2)
    by (Some message) next is rest = (Some message, next, fails is)

assigns_keep : (pairs : List (List ℕ × List ℕ)) (old : Held) (message : Option (List ℕ)) (new : Held) → Good old → Assigns pairs old message new → Good new
assigns_keep pairs old message new good none = good
assigns_keep pairs old message new good (more {word = word} {text = text} {pairs = later} {next = next} is rest) =
    assigns_keep later next message new ((assigns_one word text old good).keeps None next is) rest
assigns_keep pairs old message new good (fails {word = word} {text = text} {message = why} is) = (assigns_one word text old good).keeps (Some why) new is

assigns : (pairs : List (List ℕ × List ℕ)) (old : Held) → Good old → Total (λ message new. Assigns pairs old message new)
unfolding SomeAssigned
assigns pairs old good = record { gives = assigns_give pairs old good; keeps = λ message new is. assigns_keep pairs old message new good is }

pub lassign_total : (usage : List ℕ) (words : List (List ℕ)) (old : Held) → Good old → Total (λ outcome new. lassign usage words old outcome new)
lassign_total usage [] old good = refuses usage old good
lassign_total usage (list ∷ names) old good = by (split_of list)
  where
    by : (items : Split) → Total (λ outcome new. AssignsItems items names old outcome new)
    by (split.Bad fault) = same old (error_outcome (list_message fault)) good
    by (split.Items items) = told (rest_outcome (drop (length names) items)) (assigns (names_with_items names items) old good)
