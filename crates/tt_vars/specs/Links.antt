-- What names stand for after their links (upvar(n), global(n)), and what is done through them.
use Rattle.std.specs.Prelude.{◌≡◌, ℕ, Bool, false, ◌&&◌, ◌||◌, ◌==◌, cond, not, is_some, List, [], Option, None, Some}
use Rattle.std.specs.Prelude.{Result, Ok, Err, IsOk, bytes_eq, length, slice_index_or, slice_set}
use Rattle.std.specs.Borrow.{Bor}
use Rattle.std.specs.Map.{keys_of}
use Rattle.std.specs.Result.{result_map_both}
use Rattle.std.specs.Option.{option_eq, option_map}
use Rattle.tt_lists.specs.declared.answer.ListAnswer.{ListAnswer}
use Rattle.tt_lists.specs.declared.answer.ListAnswer.TheVariants.{Made, Bad}
use Rattle.tt_vars.specs.declared.answers.VarFault.{VarFault}
use Rattle.tt_vars.specs.declared.answers.VarFault.TheVariants.{NoSuchVariable, NoSuchElement, NotArray}
use Rattle.tt_vars.specs.declared.answers.Written.{Written}
use Rattle.tt_vars.specs.declared.answers.Written.TheVariants.{Yes}
use Rattle.tt_vars.specs.declared.answers.Linked.{Linked}
use Rattle.tt_vars.specs.declared.answers.Linked.TheVariants as answers
use Rattle.tt_vars.specs.declared.variable.Place.{Place}
use Rattle.tt_vars.specs.declared.variable.Variable.{Variable}
use Rattle.tt_vars.specs.declared.variable.Variable.TheVariants.{Link}
use Rattle.tt_vars.specs.Variables.{Name, Pairs, Frame, variable_named, leads, elements_of, reading_of}
use Rattle.tt_vars.specs.Variables.{variable_after_write, with, frame_after_removal}
use Rattle.tt_vars.specs.Variables.{result_of, is_set, Puts}

-- the frame with a number, from the global one, 0
abbrev pub frame_at : List Frame → ℕ → Frame
frame_at frames number = slice_index_or frames number []

-- a name in a frame, with an index or without
abbrev pub place_of : ℕ → Name → Option Name → Place
place_of frame name index = record { frame = frame; name = name; index = index }

-- what the name of a place is in its frame
abbrev pub at : List Frame → Place → Option Variable
at frames place = variable_named (frame_at frames place.frame) place.name

-- an element of a place; an element has none
abbrev pub element_of : ℕ → Name → Option Name → Name → Option Place
element_of frame name None index = Some (place_of frame name (Some index))
element_of frame name (Some element) index = None

-- where a link leads from a name with an index or without
abbrev pub onward : Option Place → Option Name → Option Place
onward None index = None
onward (Some to) None = Some to
onward (Some to) (Some index) = element_of to.frame to.name to.index index

-- what a name stands for after its links: a variable or an element; nothing, if it would be an element's element
pub data StandsFor (frames : List Frame) : Place → Option Place → Type 0 where
  itself : {place : Place} → leads (at frames place) ≡ None → StandsFor frames place (Some place)
  nothing : {place : Place} {to : Option Place} →
      leads (at frames place) ≡ Some to →
      onward to place.index ≡ None →
      StandsFor frames place None
  linked : {place next : Place} {to answer : Option Place} →
      leads (at frames place) ≡ Some to →
      onward to place.index ≡ Some next →
      StandsFor frames next answer →
      StandsFor frames place answer

-- ---- reading ----

-- the fault of a missing name; if a link leads to an element, that is what is missing
abbrev pub missing : Option Name → Option Name → VarFault
missing None None = NoSuchVariable
missing None (Some element) = NoSuchElement
missing (Some index) element = NoSuchVariable

-- what reading a name answers, by what it stands for
abbrev pub reading_at : List Frame → Option Name → Option Place → Result (List ℕ) VarFault
reading_at frames index None = Err NotArray
reading_at frames index (Some place) = reading_of (missing index place.index) (at frames place) place.index

abbrev pub Reads : List Frame → Place → Result (List ℕ) VarFault → Type 0
Reads frames place answer =
    (stands : Option Place)
    × StandsFor frames place stands
    × (answer ≡ reading_at frames place.index stands)

-- what the text that is read is read as in its turn, with the faults of reading
abbrev pub ReadsAs : {X : Type 0} → (List ℕ → X) → List Frame → Place → Result X VarFault → Type 0
ReadsAs meaning frames place answer =
    (stands : Option Place)
    × StandsFor frames place stands
    × (answer ≡ result_of meaning (reading_at frames place.index stands))

-- a value that was lent, as its text
abbrev pub lent_text : Result (Bor (List ℕ)) VarFault → Result (List ℕ) VarFault
lent_text answer = result_map_both (λ value. value.now) (λ fault. fault) answer

-- the elements of a place, if it is an array
abbrev pub array_at : Option Variable → Option Name → Option Pairs
array_at variable None = elements_of variable
array_at variable (Some element) = None

abbrev pub elements_at : List Frame → Option Place → Option Pairs
elements_at frames None = None
elements_at frames (Some place) = array_at (at frames place) place.index

-- the indices of the array that a name stands for
abbrev pub HasNames : List Frame → Place → Option (List Name) → Type 0
HasNames frames place names =
    (stands : Option Place)
    × StandsFor frames place stands
    × (names ≡ option_map keys_of (elements_at frames stands))

-- how many elements it has
abbrev pub HasSize : List Frame → Place → Option ℕ → Type 0
HasSize frames place size =
    (stands : Option Place)
    × StandsFor frames place stands
    × (size ≡ option_map length (elements_at frames stands))

-- ---- writing and removing ----

-- the frames, with another one at a number
abbrev pub with_frame : List Frame → ℕ → Frame → List Frame
with_frame frames number frame = slice_set frames number frame

-- the frames after a text was written to what a name stands for
abbrev pub frames_after_write : List Frame → Option Place → List ℕ → Result (List Frame) VarFault
frames_after_write frames None text = Err NotArray
frames_after_write frames (Some place) text =
    result_of (λ variable. with_frame frames place.frame (with (frame_at frames place.frame) place.name variable))
    (variable_after_write (at frames place) place.index text)

abbrev pub Writes : List Frame → Place → List ℕ → List Frame → Written → Type 0
Writes old place text new answer =
    (stands : Option Place)
    × StandsFor old place stands
    × Puts (frames_after_write old stands text) old new answer

-- the text that was made of what is read is written; if none was made nothing has changed
abbrev pub Takes : Result ListAnswer VarFault → List Frame → Place → List Frame → Type 0
Takes (Ok (Made text)) old place new = Writes old place text new Yes
Takes (Ok (Bad message)) old place new = new ≡ old
Takes (Err fault) old place new = new ≡ old

-- what is read is changed (append(n), lappend(n), incr(n))
abbrev pub Changes :
    (List ℕ → ListAnswer) → List Frame → Place → List Frame → Result ListAnswer VarFault → Type 0
Changes change old place new answer =
    ReadsAs change old place answer
    × Takes answer old place new

-- the frames after what a name stands for was removed
abbrev pub frames_after_removal : List Frame → Option Name → Option Place → Result (List Frame) VarFault
frames_after_removal frames index None = Err NotArray
frames_after_removal frames index (Some place) =
    result_of (with_frame frames place.frame)
    (frame_after_removal (missing index place.index) (frame_at frames place.frame) place.name
    (at frames place) place.index)

-- it was removed, or the fault is reported and nothing has changed
abbrev pub Removed : {X : Type 0} →
    Result (List Frame) VarFault → List Frame → List Frame → Result X VarFault → Type 0
Removed (Ok made) old new answer = IsOk answer × (new ≡ made)
Removed (Err fault) old new answer = (answer ≡ Err fault) × (new ≡ old)

abbrev pub Removes : {X : Type 0} → List Frame → Place → List Frame → Result X VarFault → Type 0
Removes old place new answer =
    (stands : Option Place)
    × StandsFor old place stands
    × Removed (frames_after_removal old place.index stands) old new answer

-- ---- linking ----

-- a place is this variable, or one of its elements
abbrev pub is_of : ℕ → Name → Option Place → Bool
is_of frame name None = false
is_of frame name (Some place) = (frame == place.frame) && bytes_eq name place.name

-- a place is this variable
abbrev pub is_variable : ℕ → Name → Option Place → Bool
is_variable frame name None = false
is_variable frame name (Some place) = (frame == place.frame) && bytes_eq name place.name && not (is_some place.index)

-- the answer of a link from a name to what another one stands for, which is `whole` without its index
abbrev pub link_answer : List Frame → ℕ → Name → Option Place → Option Place → Linked
link_answer frames frame name whole stands =
    cond (is_variable frame name stands) answers.Itself
    (cond (is_set (variable_named (frame_at frames frame) name) || is_of frame name whole) answers.Exists answers.Yes)

-- the frames after a link
abbrev pub frames_after_link : Linked → List Frame → ℕ → Name → Option Place → List Frame
frames_after_link answers.Yes frames frame name stands =
    with_frame frames frame (with (frame_at frames frame) name (Link stands))
frames_after_link answers.Exists frames frame name stands = frames
frames_after_link answers.Itself frames frame name stands = frames

abbrev pub Links : List Frame → ℕ → Name → Place → List Frame → Linked → Type 0
Links old frame name other new answer =
    (whole : Option Place) × (stands : Option Place)
    × StandsFor old (place_of other.frame other.name None) whole
    × StandsFor old other stands
    × (answer ≡ link_answer old frame name whole stands)
    × (new ≡ frames_after_link answer old frame name stands)

-- both stand for the same variable or element
abbrev pub is_same : Option Place → Option Place → Bool
is_same None other = false
is_same (Some place) None = false
is_same (Some place) (Some other) =
    (place.frame == other.frame) && bytes_eq place.name other.name && option_eq bytes_eq place.index other.index

abbrev pub AreSame : List Frame → Place → Place → Bool → Type 0
AreSame frames place other answer =
    (stands : Option Place) × (others : Option Place)
    × StandsFor frames place stands
    × StandsFor frames other others
    × (answer ≡ is_same stands others)

-- no name stands for two things
abbrev pub StandsOnceLaw : Type 0
StandsOnceLaw =
    (frames : List Frame) (place : Place) (one two : Option Place) →
    StandsFor frames place one →
    StandsFor frames place two →
    one ≡ two
