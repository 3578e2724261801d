-- Arrays as they are changed: elements are set and removed (array(n)).
use Rattle.std.specs.Prelude.{◌≡◌, ℕ, ◌%◌, ◌==◌, Bool, true, false, length, List, [], ◌∷◌, Option, Some, None, Result}
use Rattle.std.specs.Prelude.{codes, is_some}
use Rattle.tt_calls.specs.declared.outcome.Code.{Code}
use Rattle.tt_calls.specs.declared.outcome.Code.TheVariants.{Failed}
use Rattle.tt_calls.specs.declared.outcome.Outcome.{Outcome}
use Rattle.tt_calls.specs.Outcomes.{error_outcome, fine}
use Rattle.tt_lists.specs.declared.items.Split.{Split}
use Rattle.tt_lists.specs.declared.items.Split.TheVariants as split
use Rattle.tt_lists.specs.Messages.{list_message}
use Rattle.tt_lists.specs.Reading.{split_of}
use Rattle.tt_store.specs.Held.{Drops, Fails, Held, IsWritten, Meaning, Refuses}
use Rattle.tt_store.specs.Messages.{cannot_set}
use Rattle.tt_store.specs.Scalars.{outcome_by}
use Rattle.tt_store.specs.Spots.{spot, full_name}
use Rattle.tt_vars.specs.declared.answers.VarFault.{VarFault}
use Rattle.tt_vars.specs.declared.answers.VarFault.TheVariants.{NotArray}
use Rattle.tt_vars.specs.Variables.{Name}
use Rattle.tt_variable_commands.specs.ArrayReading.{Counts, Ending, Lists, names_like}
use Rattle.tt_variable_commands.specs.Vocabulary.{is_element}

-- ---- elements are set ----

-- the message of an error
abbrev pub message_by : Code → (value : List ℕ) → Option (List ℕ)
message_by Failed value = Some value
message_by code value = None

-- a text is given to one element; the message, if it can't be
abbrev pub SetsOne : (name index : Name) → (text : List ℕ) → (old : Held) → Option (List ℕ) → (new : Held) → Type 0
SetsOne name index text old message new =
    (outcome : Outcome)
    × IsWritten old name (Some index) text outcome new
    × (message ≡ message_by outcome.code outcome.value)

-- the pairs of an index and a text that a list of items has
abbrev pub pairs_in : (items : List (List ℕ)) → List (Name × List ℕ)
pairs_in [] = []
pairs_in (index ∷ []) = []
pairs_in (index ∷ text ∷ items) = (index, text) ∷ pairs_in items

-- the first of them, and the items after it
abbrev pub first_pair : (items : List (List ℕ)) → Option (Name × List ℕ × List (List ℕ))
first_pair [] = None
first_pair (index ∷ []) = None
first_pair (index ∷ text ∷ items) = Some (index, text, items)

-- texts are given to elements one after the other, up to the first that can't be; then its message is the answer
pub data SetsEach (name : Name) :
    (pairs : List (Name × List ℕ)) → (old : Held) → Option (List ℕ) → (new : Held) → Type 0 where
  none : {held : Held} → SetsEach name [] held None held
  more : {index : Name} {text : List ℕ} {pairs : List (Name × List ℕ)} {old next new : Held}
      {message : Option (List ℕ)} →
      SetsOne name index text old None next →
      SetsEach name pairs next message new →
      SetsEach name ((index, text) ∷ pairs) old message new
  fails : {index : Name} {text message : List ℕ} {pairs : List (Name × List ℕ)} {old new : Held} →
      SetsOne name index text old (Some message) new →
      SetsEach name ((index, text) ∷ pairs) old (Some message) new

-- an element has no elements
abbrev pub none_set : Name → (items : List (List ℕ)) → Outcome
none_set name [] = fine []
none_set name (index ∷ items) = error_outcome (cannot_set (full_name name (Some index)) NotArray)

-- the elements of a list are set
abbrev pub SetsPairs : (element : Bool) → Name → (items : List (List ℕ)) → Ending
SetsPairs true name items old outcome new = (outcome ≡ none_set name items) × (new ≡ old)
SetsPairs false name items old outcome new =
    (message : Option (List ℕ))
    × SetsEach name (pairs_in items) old message new
    × (outcome ≡ outcome_by message)

-- each index has a text
abbrev pub is_paired : (items : List (List ℕ)) → Bool
is_paired items = length items % 2 == 0

-- nothing is set by a list that is not of pairs
abbrev pub SetsIf : (paired : Bool) → Name → (items : List (List ℕ)) → Ending
SetsIf true name items old outcome new = SetsPairs (is_element name) name items old outcome new
SetsIf false name items old outcome new = Fails (codes "list must have an even number of elements") old outcome new

-- nor by a text that is no list
abbrev pub SetsItems : Split → Name → Ending
SetsItems (split.Items items) name old outcome new = SetsIf (is_paired items) name items old outcome new
SetsItems (split.Bad fault) name old outcome new = Fails (list_message fault) old outcome new

-- array set
abbrev pub array_set : Meaning
array_set usage (name ∷ list ∷ []) old outcome new = SetsItems (split_of list) name old outcome new
array_set usage words old outcome new = Refuses usage old outcome new

-- ---- elements are removed ----

-- one element is removed
abbrev pub DropsOne : (name index : Name) → (old new : Held) → Type 0
DropsOne name index old new = (removed : Result Unit VarFault) × Drops old (spot name (Some index)) new removed

-- elements are removed one after the other
pub data DropsEach (name : Name) : (indices : List Name) → (old new : Held) → Type 0 where
  none : {held : Held} → DropsEach name [] held held
  more : {index : Name} {indices : List Name} {old next new : Held} →
      DropsOne name index old next →
      DropsEach name indices next new →
      DropsEach name (index ∷ indices) old new

-- the array itself is removed, if it is there
abbrev pub DropsIf : (there : Bool) → Name → (old new : Held) → Type 0
DropsIf true name old new = (removed : Result Unit VarFault) × Drops old (spot name None) new removed
DropsIf false name old new = new ≡ old

-- then the result is empty
abbrev pub DropsWhole : Name → Ending
DropsWhole name old outcome new =
    (size : Option ℕ)
    × Counts old name size
    × DropsIf (is_some size) name old new
    × (outcome ≡ fine [])

-- the elements are removed that match
abbrev pub DropsLike : (pattern : List ℕ) → Name → Ending
DropsLike pattern name old outcome new =
    (indices : List Name)
    × Lists old name indices
    × DropsEach name (names_like (Some pattern) indices) old new
    × (outcome ≡ fine [])

-- array unset
abbrev pub array_unset : Meaning
array_unset usage (name ∷ []) old outcome new = DropsWhole name old outcome new
array_unset usage (name ∷ pattern ∷ []) old outcome new = DropsLike pattern name old outcome new
array_unset usage words old outcome new = Refuses usage old outcome new
