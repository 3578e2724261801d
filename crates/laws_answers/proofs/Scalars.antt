-- Commands on one variable always come to something.
use Rattle.std.proofs.Common.{ℕ, Bool, List, [], ◌∷◌, Option, Some, None, Result, codes, drop, refl, nat_lt}
use Rattle.std.specs.Option.{option_map}
use Rattle.laws_answers.proofs.Holding.{drops, finds, sets}
use Rattle.laws_answers.proofs.Totals.{Good, Total, after, found, same, told}
use Rattle.tt_calls.specs.Outcomes.{error_outcome}
use Rattle.tt_calls.specs.Usages.{bad_option, wrong_number}
use Rattle.tt_calls.specs.declared.outcome.Outcome.{Outcome}
use Rattle.tt_lists.specs.declared.answer.ListAnswer.{ListAnswer}
use Rattle.tt_lists.specs.declared.answer.ListAnswer.TheVariants.{Made, Bad}
use Rattle.tt_store.specs.Held.{Gives, Held, ReadsWord, Refuses, value_of, write_outcome}
use Rattle.tt_store.specs.Messages.{cannot_unset}
use Rattle.tt_store.specs.Scalars.{Changes, Counts, DropsOne, GivesMade, Unsets, UnsetsAll, UnsetsIf, answer_of_value}
use Rattle.tt_store.specs.Scalars.{append, counting, fails, first_unknown, front, incr}
use Rattle.tt_store.specs.Scalars.{increment_of, more, none, outcome_by, report_of, set_meaning, unset_meaning}
use Rattle.tt_store.specs.Spots.{spot_of}
use Rattle.tt_value.specs.Growing.{text_with_texts}
use Rattle.tt_vars.specs.declared.answers.VarFault.{VarFault}

pub refuses : (usage : List ℕ) (old : Held) → Good old → Total (λ outcome new. Refuses usage old outcome new)
refuses usage old good = same old (error_outcome (wrong_number usage)) good

-- ---- reading and writing ----

pub reads_word : (word : List ℕ) (old : Held) → Good old → (outcome : Outcome) × ReadsWord word old outcome
reads_word word old good = let read = finds old (spot_of word) good in (value_of word read.0, (read.0, read.1, refl))

pub gives : (word text : List ℕ) (old : Held) → Good old → Total (λ outcome new. Gives word text old outcome new)
gives word text old good = told (write_outcome word text) (sets old (spot_of word) text good)

pub set_total : (usage : List ℕ) (words : List (List ℕ)) (old : Held) → Good old → Total (λ outcome new. set_meaning usage words old outcome new)
set_total usage [] old good = refuses usage old good
set_total usage (name ∷ []) old good = found old good (reads_word name old good)
set_total usage (name ∷ value ∷ []) old good = gives name value old good
set_total usage (name ∷ value ∷ next ∷ words) old good = refuses usage old good

-- ---- changing ----

counts : (word missing : List ℕ) (old : Held) → Good old → (found : Result (List ℕ) VarFault) × Counts word missing old found
counts word missing old good = let read = finds old (spot_of word) good in (counting missing read.0, (read.0, read.1, refl))

gives_made : (word : List ℕ) (answer : ListAnswer) (old : Held) → Good old → Total (λ outcome new. GivesMade word answer old outcome new)
gives_made word (Made text) old good = gives word text old good
gives_made word (Bad message) old good = same old (error_outcome message) good

pub changes : (word missing : List ℕ) (change : List ℕ → ListAnswer) (old : Held) → Good old
    → Total (λ outcome new. Changes word missing change old outcome new)
changes word missing change old good =
    after (counts word missing old good) (λ read is. gives_made word (answer_of_value word change read) old good)

pub incr_total : (usage : List ℕ) (words : List (List ℕ)) (old : Held) → Good old → Total (λ outcome new. incr usage words old outcome new)
incr_total usage [] old good = refuses usage old good
incr_total usage (name ∷ []) old good = changes name (codes "0") (increment_of (codes "1")) old good
incr_total usage (name ∷ step ∷ []) old good = changes name (codes "0") (increment_of step) old good
incr_total usage (name ∷ step ∷ next ∷ words) old good = refuses usage old good

pub append_total : (usage : List ℕ) (words : List (List ℕ)) (old : Held) → Good old → Total (λ outcome new. append usage words old outcome new)
append_total usage [] old good = refuses usage old good
append_total usage (name ∷ []) old good = found old good (reads_word name old good)
append_total usage (name ∷ value ∷ values) old good = changes name [] (text_with_texts (value ∷ values)) old good

-- ---- removing ----

module _ (nocomplain : Bool) where
  drops_one : (word : List ℕ) (old : Held) → Good old → Total (λ message new. DropsOne nocomplain word old message new)
  drops_one word old good = told (λ removed. option_map (cannot_unset word) (report_of nocomplain removed)) (drops old (spot_of word) good)

  Some_unset : List (List ℕ) → Held → Type 0
  Some_unset words old = (message : Option (List ℕ)) × (new : Held) × Unsets nocomplain words old message new

  unsets_give : (words : List (List ℕ)) (old : Held) → Good old → Some_unset words old
  unfolding Some_unset
  unsets_give [] old good = (None, old, none)
  unsets_give (word ∷ words) old good =
      let one = drops_one word old good in
      by one.gives.0 one.gives.1 one.gives.2 (λ next is. unsets_give words next (one.keeps None next is))
    where
      by : (message : Option (List ℕ)) (next : Held) → DropsOne nocomplain word old message next
          → ((next : Held) → DropsOne nocomplain word old None next → Some_unset words next) → Some_unset (word ∷ words) old
      by None next is rest = let later = rest next is in (later.0, later.1, more is later.2)
      by (Some message) next is rest = (Some message, next, fails is)

  unsets_keep : (words : List (List ℕ)) (old : Held) (message : Option (List ℕ)) (new : Held) → Good old → Unsets nocomplain words old message new → Good new
  unsets_keep words old message new good none = good
  unsets_keep words old message new good (more {word = word} {words = later} {next = next} is rest) =
      unsets_keep later next message new ((drops_one word old good).keeps None next is) rest
  unsets_keep words old message new good (fails {word = word} {message = why} is) = (drops_one word old good).keeps (Some why) new is

  unsets_all : (words : List (List ℕ)) (old : Held) → Good old → Total (λ outcome new. UnsetsAll nocomplain words old outcome new)
  unfolding Some_unset
  unsets_all words old good =
      told outcome_by (record { gives = unsets_give words old good; keeps = λ message new is. unsets_keep words old message new good is })

pub unset_total : (usage : List ℕ) (words : List (List ℕ)) (old : Held) → Good old → Total (λ outcome new. unset_meaning usage words old outcome new)
unset_total usage words old good = by (first_unknown words)
  where
    by : (unknown : Option (List ℕ)) → Total (λ outcome new. UnsetsIf unknown words old outcome new)
    by (Some word) = same old (error_outcome (bad_option word)) good
    by None = unsets_all (nat_lt 0 (front words)) (drop (front words) words) old good
