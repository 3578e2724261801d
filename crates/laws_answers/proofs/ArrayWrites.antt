-- Arrays are changed: `array set` and `array unset` always come to something.
use Rattle.std.proofs.Common.{ℕ, Bool, true, false, List, [], ◌∷◌, Option, Some, None, codes, is_some, refl, sym, subst}
use Rattle.laws_answers.proofs.ArrayReads.{counts, lists}
use Rattle.laws_answers.proofs.Holding.{drops, sets}
use Rattle.laws_answers.proofs.Scalars.{refuses}
use Rattle.laws_answers.proofs.Totals.{Good, Total, same, told}
use Rattle.tt_calls.specs.Outcomes.{error_outcome, fine}
use Rattle.tt_lists.specs.Messages.{list_message}
use Rattle.tt_lists.specs.Reading.{split_of}
use Rattle.tt_lists.specs.declared.items.Split.{Split}
use Rattle.tt_lists.specs.declared.items.Split.TheVariants as split
use Rattle.tt_store.specs.Held.{Held, IsWritten, write_outcome}
use Rattle.tt_store.specs.Scalars.{outcome_by}
use Rattle.tt_store.specs.Spots.{full_name, spot}
use Rattle.tt_variable_commands.specs.ArrayChanging as changing
use Rattle.tt_variable_commands.specs.ArrayChanging.{DropsEach, DropsIf, DropsLike, DropsOne, DropsWhole, SetsEach, SetsIf, SetsItems, SetsOne, SetsPairs}
use Rattle.tt_variable_commands.specs.ArrayChanging.{array_set, array_unset, is_paired, message_by, none_set, pairs_in}
use Rattle.tt_variable_commands.specs.ArrayReading.{names_like}
use Rattle.tt_variable_commands.specs.Vocabulary.{is_element}
use Rattle.tt_vars.specs.Variables.{Name}

-- ---- elements are set ----

pub written : (name : Name) (index : Option Name) (text : List ℕ) (old : Held) → Good old → Total (λ outcome new. IsWritten old name index text outcome new)
written name index text old good = told (write_outcome (full_name name index) text) (sets old (spot name index) text good)

sets_one : (name index : Name) (text : List ℕ) (old : Held) → Good old → Total (λ message new. SetsOne name index text old message new)
sets_one name index text old good = told (λ outcome. message_by outcome.code outcome.value) (written name (Some index) text old good)

module _ (name : Name) where
  SomeSet : List (Name × List ℕ) → Held → Type 0
  SomeSet pairs old = (message : Option (List ℕ)) × (new : Held) × SetsEach name pairs old message new

  give : (pairs : List (Name × List ℕ)) (old : Held) → Good old → SomeSet pairs old
  unfolding SomeSet
  give [] old good = (None, old, changing.SetsEach.none)
  give ((index, text) ∷ pairs) old good =
      let one = sets_one name index text old good in
      by one.gives.0 one.gives.1 one.gives.2 (λ next is. give pairs next (one.keeps None next is))
    where
      by : (message : Option (List ℕ)) (next : Held) → SetsOne name index text old message next
          → ((next : Held) → SetsOne name index text old None next → SomeSet pairs next) → SomeSet ((index, text) ∷ pairs) old
      by None next is rest = let later = rest next is in (later.0, later.1, changing.SetsEach.more is later.2)
      by (Some message) next is rest = (Some message, next, changing.SetsEach.fails is)

  keep : (pairs : List (Name × List ℕ)) (old : Held) (message : Option (List ℕ)) (new : Held) → Good old → SetsEach name pairs old message new → Good new
  keep pairs old message new good changing.SetsEach.none = good
  keep pairs old message new good (changing.SetsEach.more {index = index} {text = text} {pairs = later} {next = next} is rest) =
      keep later next message new ((sets_one name index text old good).keeps None next is) rest
  keep pairs old message new good (changing.SetsEach.fails {index = index} {text = text} {message = why} is) =
      (sets_one name index text old good).keeps (Some why) new is

  sets_each : (pairs : List (Name × List ℕ)) (old : Held) → Good old → Total (λ message new. SetsEach name pairs old message new)
  unfolding SomeSet
  sets_each pairs old good = record { gives = give pairs old good; keeps = λ message new is. keep pairs old message new good is }

sets_pairs : (element : Bool) (name : Name) (items : List (List ℕ)) (old : Held) → Good old
    → Total (λ outcome new. SetsPairs element name items old outcome new)
sets_pairs true name items old good = same old (none_set name items) good
sets_pairs false name items old good = told outcome_by (sets_each name (pairs_in items) old good)

sets_if : (paired : Bool) (name : Name) (items : List (List ℕ)) (old : Held) → Good old → Total (λ outcome new. SetsIf paired name items old outcome new)
sets_if true name items old good = sets_pairs (is_element name) name items old good
sets_if false name items old good = same old (error_outcome (codes "list must have an even number of elements")) good

sets_items : (list : Split) (name : Name) (old : Held) → Good old → Total (λ outcome new. SetsItems list name old outcome new)
sets_items (split.Items items) name old good = sets_if (is_paired items) name items old good
sets_items (split.Bad fault) name old good = same old (error_outcome (list_message fault)) good

pub set_total : (usage : List ℕ) (words : List (List ℕ)) (old : Held) → Good old → Total (λ outcome new. array_set usage words old outcome new)
set_total usage [] old good = refuses usage old good
set_total usage (name ∷ []) old good = refuses usage old good
set_total usage (name ∷ list ∷ []) old good = sets_items (split_of list) name old good
set_total usage (name ∷ list ∷ next ∷ words) old good = refuses usage old good

-- ---- elements are removed ----

drop_each : (name : Name) (names : List Name) (old : Held) → Good old → (new : Held) × DropsEach name names old new
drop_each name [] old good = (old, changing.DropsEach.none)
drop_each name (index ∷ names) old good =
    let one = drops old (spot name (Some index)) good in
    let rest = drop_each name names one.gives.1 (one.keeps one.gives.0 one.gives.1 one.gives.2) in
    (rest.0, changing.DropsEach.more (one.gives.0, one.gives.2) rest.1)

drop_keep : (name : Name) (names : List Name) (old new : Held) → Good old → DropsEach name names old new → Good new
drop_keep name names old new good changing.DropsEach.none = good
drop_keep name names old new good (changing.DropsEach.more {index = index} {indices = later} {next = next} is rest) =
    drop_keep name later next new ((drops old (spot name (Some index)) good).keeps is.0 next is.1) rest

drops_if : (there : Bool) (name : Name) (old : Held) → Good old → (new : Held) × DropsIf there name old new
drops_if true name old good = let one = drops old (spot name None) good in (one.gives.1, (one.gives.0, one.gives.2))
drops_if false name old good = (old, refl)

drops_if_keep : (there : Bool) (name : Name) (old new : Held) → Good old → DropsIf there name old new → Good new
drops_if_keep true name old new good is = (drops old (spot name None) good).keeps is.0 new is.1
drops_if_keep false name old new good is = subst Good (sym is) good

drops_whole : (name : Name) (old : Held) → Good old → Total (λ outcome new. DropsWhole name old outcome new)
drops_whole name old good =
    let count = counts old name good in
    let gone = drops_if (is_some count.0) name old good in record {
      gives = (fine [], gone.0, (count.0, count.1, gone.1, refl));
      keeps = λ outcome new is. drops_if_keep (is_some is.0) name old new good is.2;
    }

drops_like : (pattern : List ℕ) (name : Name) (old : Held) → Good old → Total (λ outcome new. DropsLike pattern name old outcome new)
drops_like pattern name old good =
    let names = lists old name good in
    let gone = drop_each name (names_like (Some pattern) names.0) old good in record {
      gives = (fine [], gone.0, (names.0, names.1, gone.1, refl));
      keeps = λ outcome new is. drop_keep name (names_like (Some pattern) is.0) old new good is.2;
    }

pub unset_total : (usage : List ℕ) (words : List (List ℕ)) (old : Held) → Good old → Total (λ outcome new. array_unset usage words old outcome new)
unset_total usage [] old good = refuses usage old good
unset_total usage (name ∷ []) old good = drops_whole name old good
unset_total usage (name ∷ pattern ∷ []) old good = drops_like pattern name old good
unset_total usage (name ∷ pattern ∷ next ∷ words) old good = refuses usage old good
