-- What a name is in a frame, and what reading, writing and removing it do there (Tcl(n), set(n), unset(n), array(n)).
use Rattle.std.specs.Prelude.{◌≡◌, Bool, true, false, ℕ, List, [], ◌∷◌, Option, None, Some, Result, Ok, Err, bytes_eq}
use Rattle.std.specs.Option.{ok_or}
use Rattle.std.specs.Map.{lookup, remove_entry}
use Rattle.indexmap.specs.IndexMap.{insert_entry}
use Rattle.tt_vars.specs.declared.answers.VarFault.{VarFault}
use Rattle.tt_vars.specs.declared.answers.VarFault.TheVariants.{NoSuchElement, IsArray, NotArray}
use Rattle.tt_vars.specs.declared.answers.Written.{Written}
use Rattle.tt_vars.specs.declared.answers.Written.TheVariants.{Yes, No}
use Rattle.tt_vars.specs.declared.variable.Place.{Place}
use Rattle.tt_vars.specs.declared.variable.Variable.{Variable}
use Rattle.tt_vars.specs.declared.variable.Variable.TheVariants.{Scalar, Array, Link}

-- the name of a variable, or the index of an element
abbrev pub Name : Type 0
Name = List ℕ

-- the elements of an array: pairs of an index and a text, in order of insertion
abbrev pub Pairs : Type 0
Pairs = List (Name × List ℕ)

-- the variables of a procedure, or the global ones, in order of insertion
abbrev pub Frame : Type 0
Frame = List (Name × Variable)

-- what a name is
abbrev pub variable_named : Frame → Name → Option Variable
variable_named frame name = lookup (bytes_eq name) frame

-- where a link leads; None if the name is no link
abbrev pub leads : Option Variable → Option (Option Place)
leads None = None
leads (Some (Scalar text)) = None
leads (Some (Array elements)) = None
leads (Some (Link to)) = Some to

-- a scalar or an array
abbrev pub is_set : Option Variable → Bool
is_set None = false
is_set (Some (Scalar text)) = true
is_set (Some (Array elements)) = true
is_set (Some (Link to)) = false

-- the elements of an array; None if the name is none
abbrev pub elements_of : Option Variable → Option Pairs
elements_of None = None
elements_of (Some (Scalar text)) = None
elements_of (Some (Array elements)) = Some elements
elements_of (Some (Link to)) = None

-- what reading answers; `missing` is the fault if there is no such name
abbrev pub reading_of : VarFault → Option Variable → Option Name → Result (List ℕ) VarFault
reading_of missing None index = Err missing
reading_of missing (Some (Scalar text)) None = Ok text
reading_of missing (Some (Scalar text)) (Some index) = Err NotArray
reading_of missing (Some (Array elements)) None = Err IsArray
reading_of missing (Some (Array elements)) (Some index) = ok_or (lookup (bytes_eq index) elements) NoSuchElement
reading_of missing (Some (Link to)) index = Err NotArray

-- what the name is after a text was written to it
abbrev pub variable_after_write : Option Variable → Option Name → List ℕ → Result Variable VarFault
variable_after_write None None text = Ok (Scalar text)
variable_after_write None (Some index) text = Ok (Array ((index, text) ∷ []))
variable_after_write (Some (Scalar old)) None text = Ok (Scalar text)
variable_after_write (Some (Scalar old)) (Some index) text = Err NotArray
variable_after_write (Some (Array elements)) None text = Err IsArray
variable_after_write (Some (Array elements)) (Some index) text = Ok (Array (insert_entry bytes_eq elements index text))
variable_after_write (Some (Link to)) index text = Err NotArray

-- the frame, if the name is this variable: in its place, or last
abbrev pub with : Frame → Name → Variable → Frame
with frame name variable = insert_entry bytes_eq frame name variable

-- the frame without the name
abbrev pub without : Frame → Name → Frame
without frame name = remove_entry (bytes_eq name) frame

-- the frame, if an array has an element no more, if it had it
abbrev pub without_element : Frame → Name → Pairs → Name → Option (List ℕ) → Result Frame VarFault
without_element frame name elements index None = Err NoSuchElement
without_element frame name elements index (Some text) =
    Ok (with frame name (Array (remove_entry (bytes_eq index) elements)))

-- the frame after the name was removed
abbrev pub frame_after_removal : VarFault → Frame → Name → Option Variable → Option Name → Result Frame VarFault
frame_after_removal missing frame name None index = Err missing
frame_after_removal missing frame name (Some (Scalar text)) None = Ok (without frame name)
frame_after_removal missing frame name (Some (Scalar text)) (Some index) = Err NotArray
frame_after_removal missing frame name (Some (Array elements)) None = Ok (without frame name)
frame_after_removal missing frame name (Some (Array elements)) (Some index) =
    without_element frame name elements index (lookup (bytes_eq index) elements)
frame_after_removal missing frame name (Some (Link to)) index = Err NotArray

-- a result with a change made to what is in it
abbrev pub result_of : {X Y : Type 0} → (X → Y) → Result X VarFault → Result Y VarFault
result_of change (Ok value) = Ok (change value)
result_of change (Err fault) = Err fault

-- what was to be made was made, or the fault is reported and nothing has changed
abbrev pub Puts : {X : Type 0} → Result X VarFault → X → X → Written → Type 0
Puts (Ok made) old new answer = (answer ≡ Yes) × (new ≡ made)
Puts (Err fault) old new answer = (answer ≡ No fault) × (new ≡ old)
