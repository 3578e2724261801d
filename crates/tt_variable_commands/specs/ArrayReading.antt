-- Arrays as they are read: whether they are there, their size, their indices and their values (array(n)).
use Rattle.std.specs.Prelude.{◌≡◌, ℕ, Bool, true, false, List, [], ◌∷◌, ◌++◌, Option, Some, None, Result, Ok, Err}
use Rattle.std.specs.Prelude.{decimal, filter, is_some, unwrap_or}
use Rattle.tt_calls.specs.declared.outcome.Outcome.{Outcome}
use Rattle.tt_calls.specs.Outcomes.{fine}
use Rattle.tt_lists.specs.Spelling.{list_of}
use Rattle.tt_store.specs.Held.{Finds, HasIndices, HasSize, Held, Meaning, Refuses}
use Rattle.tt_store.specs.Spots.{spot}
use Rattle.tt_text.specs.Characters.{characters}
use Rattle.tt_text.specs.GlobFunction.{is_match}
use Rattle.tt_vars.specs.declared.answers.VarFault.{VarFault}
use Rattle.tt_vars.specs.Variables.{Name}
use Rattle.tt_variable_commands.specs.Vocabulary.{is_element, truth}

-- how a command ends, and what is held then
abbrev pub Ending : Type 1
Ending = (old : Held) → Outcome → (new : Held) → Type 0

-- the indices of the array that a name stands for; an element's name stands for none
abbrev pub HasIndicesIf : (element : Bool) → Held → Name → Option (List Name) → Type 0
HasIndicesIf true held name indices = indices ≡ None
HasIndicesIf false held name indices = HasIndices held name indices

-- the indices, in order of insertion; an array that is missing has none
abbrev pub Lists : Held → Name → (indices : List Name) → Type 0
Lists held name indices =
    (found : Option (List Name))
    × HasIndicesIf (is_element name) held name found
    × (indices ≡ unwrap_or found [])

-- how many elements the array has that a name stands for; None if it stands for none
abbrev pub HasSizeIf : (element : Bool) → Held → Name → Option ℕ → Type 0
HasSizeIf true held name size = size ≡ None
HasSizeIf false held name size = HasSize held name size

-- the same of a name, whatever its form
abbrev pub Counts : Held → Name → Option ℕ → Type 0
Counts held name size = HasSizeIf (is_element name) held name size

-- ---- is it there, and how large? ----

-- a command reports something of an array's size, and changes nothing
abbrev pub TellsSize : (Option ℕ → List ℕ) → Name → Ending
TellsSize tell name old outcome new =
    (size : Option ℕ)
    × Counts old name size
    × (outcome ≡ fine (tell size))
    × (new ≡ old)

-- whether the array is there
abbrev pub exists_report : Option ℕ → List ℕ
exists_report size = truth (is_some size)

-- how many elements it has; a missing array has none
abbrev pub size_report : Option ℕ → List ℕ
size_report size = decimal (unwrap_or size 0)

-- array exists
abbrev pub exists : Meaning
exists usage (name ∷ []) old outcome new = TellsSize exists_report name old outcome new
exists usage words old outcome new = Refuses usage old outcome new

-- array size
abbrev pub size : Meaning
size usage (name ∷ []) old outcome new = TellsSize size_report name old outcome new
size usage words old outcome new = Refuses usage old outcome new

-- ---- indices ----

-- a text matches a pattern (string(n), string match)
abbrev pub is_like : (pattern text : List ℕ) → Bool
is_like pattern text = is_match (characters pattern) (characters text)

-- those that match the pattern, if there is one
abbrev pub names_like : (pattern : Option (List ℕ)) → List Name → List Name
names_like None names = names
names_like (Some pattern) names = filter (is_like pattern) names

-- a list of them is reported
abbrev pub Names : (pattern : Option (List ℕ)) → Name → Ending
Names pattern name old outcome new =
    (indices : List Name)
    × Lists old name indices
    × (outcome ≡ fine (list_of (names_like pattern indices)))
    × (new ≡ old)

-- array names
abbrev pub names : Meaning
names usage (name ∷ []) old outcome new = Names None name old outcome new
names usage (name ∷ pattern ∷ []) old outcome new = Names (Some pattern) name old outcome new
names usage words old outcome new = Refuses usage old outcome new

-- ---- values ----

-- an index and its value; an index without a value is left out
abbrev pub pair_of : (index : Name) → Result (List ℕ) VarFault → List (List ℕ)
pair_of index (Ok text) = index ∷ text ∷ []
pair_of index (Err fault) = []

-- the pair of one index goes after some items
abbrev pub AddsPair : Held → (name index : Name) → (old new : List (List ℕ)) → Type 0
AddsPair held name index old new =
    (found : Result (List ℕ) VarFault)
    × Finds held (spot name (Some index)) found
    × (new ≡ old ++ pair_of index found)

-- the pairs of indices, in their order
pub data PairsOf (held : Held) (name : Name) : (indices : List Name) → (items : List (List ℕ)) → Type 0 where
  none : PairsOf held name [] []
  more : {index : Name} {indices : List Name} {found : Result (List ℕ) VarFault} {items : List (List ℕ)} →
      Finds held (spot name (Some index)) found →
      PairsOf held name indices items →
      PairsOf held name (index ∷ indices) (pair_of index found ++ items)

-- a list of the indices that match is reported, each with its value after it
abbrev pub Gets : (pattern : Option (List ℕ)) → Name → Ending
Gets pattern name old outcome new =
    (indices : List Name) × (items : List (List ℕ))
    × Lists old name indices
    × PairsOf old name (names_like pattern indices) items
    × (outcome ≡ fine (list_of items))
    × (new ≡ old)

-- array get
abbrev pub get : Meaning
get usage (name ∷ []) old outcome new = Gets None name old outcome new
get usage (name ∷ pattern ∷ []) old outcome new = Gets (Some pattern) name old outcome new
get usage words old outcome new = Refuses usage old outcome new
