-- What is found by a name, by its place in its frame.
use Rattle.std.specs.Prelude.{◌≡◌, ℕ, ◌<◌, List, Option, None, Some, Result, Ok, Err, bytes_eq, length}
use Rattle.std.specs.Prelude.{slice_get, remove}
use Rattle.std.specs.Map.{lookup, remove_entry, values_of}
use Rattle.std.specs.Option.{ok_or, option_copied}
use Rattle.indexmap.specs.IndexMap.{insert_entry, set_value_at}
use Rattle.tt_lists.specs.declared.answer.ListAnswer.{ListAnswer}
use Rattle.tt_lists.specs.declared.answer.ListAnswer.TheVariants.{Made, Bad}
use Rattle.tt_vars.specs.declared.answers.VarFault.{VarFault}
use Rattle.tt_vars.specs.declared.answers.VarFault.TheVariants.{NoSuchElement, IsArray, NotArray}
use Rattle.tt_vars.specs.declared.variable.Found.{Found}
use Rattle.tt_vars.specs.declared.links.Spot.{Spot}
use Rattle.tt_vars.specs.declared.variable.Place.{Place}
use Rattle.tt_vars.specs.declared.variable.Variable.{Variable}
use Rattle.tt_vars.specs.declared.variable.Variable.TheVariants.{Scalar, Array, Link}
use Rattle.tt_vars.specs.Variables.{Name, Frame, result_of}
use Rattle.tt_vars.specs.Links.{StandsFor, frame_at, place_of, reading_at, frames_after_removal, with_frame}
use Rattle.tt_vars.specs.Links.{frames_after_write}

-- whether a variable has what an index names
abbrev pub has_element : Variable → Option Name → Result Unit VarFault
has_element (Scalar text) None = Ok tt
has_element (Array elements) None = Ok tt
has_element (Array elements) (Some index) =
    result_of (λ text. tt) (ok_or (lookup (bytes_eq index) elements) NoSuchElement)
has_element (Scalar text) (Some index) = Err NotArray
has_element (Link to) index = Err NotArray

-- the text at a place that was found
abbrev pub text_in : Option Variable → Option Name → Option (List ℕ)
text_in (Some (Scalar text)) None = Some text
text_in (Some (Array elements)) (Some element) = lookup (bytes_eq element) elements
text_in (Some (Scalar text)) (Some element) = None
text_in (Some (Array elements)) None = None
text_in (Some (Link to)) element = None
text_in None element = None

abbrev pub text_at : Frame → Found → Option (List ℕ)
text_at frame found = text_in (slice_get (values_of frame) found.variable) found.element

-- the variable with another text at a place that was found
abbrev pub put_in : Variable → Option Name → List ℕ → Variable
put_in (Scalar old) None text = Scalar text
put_in (Array elements) (Some element) text = Array (insert_entry bytes_eq elements element text)
put_in (Scalar old) (Some element) text = Scalar old
put_in (Array elements) None text = Array elements
put_in (Link to) element text = Link to

-- the frame with it
abbrev pub put_by : Frame → ℕ → Option Variable → Option Name → List ℕ → Frame
put_by frame place None element text = frame
put_by frame place (Some variable) element text = set_value_at frame place (put_in variable element text)

abbrev pub put_at : Frame → Found → List ℕ → Frame
put_at frame found text = put_by frame found.variable (slice_get (values_of frame) found.variable) found.element text

-- a variable, elements or a frame after a value in them was changed: with the text, if one was made
abbrev pub after_change : {X : Type 0} → (put : List ℕ → X) → (old : X) → Option ListAnswer → X
after_change put old (Some (Made text)) = put text
after_change put old (Some (Bad message)) = old
after_change put old None = old

-- an array without an element
abbrev pub without_at : Variable → Name → Variable
without_at (Scalar text) element = Scalar text
without_at (Array elements) element = Array (remove_entry (bytes_eq element) elements)
without_at (Link to) element = Link to

-- the frame without what is at a place that was found
abbrev pub removed_in : Frame → ℕ → Option Variable → Option Name → Frame
removed_in frame place variable None = remove frame place
removed_in frame place None (Some element) = frame
removed_in frame place (Some variable) (Some element) = set_value_at frame place (without_at variable element)

abbrev pub removed_at : Frame → Found → Frame
removed_at frame found = removed_in frame found.variable (slice_get (values_of frame) found.variable) found.element

-- a place that was lent, as a place
abbrev pub place_at : Spot → Place
place_at spot = place_of spot.frame spot.name.now (option_copied spot.index)

-- what was found for a name: what is removed by it, what is read, and where a text is written in its stead
abbrev pub IsFound : List Frame → Option Name → Option Place → Result (ℕ × Found) VarFault → Type 0
IsFound frames index stands (Err fault) =
    (frames_after_removal frames index stands ≡ Err fault)
    × (reading_at frames index stands ≡ Err fault)
IsFound frames index stands (Ok found) =
    (found.0 < length frames)
    × (frames_after_removal frames index stands
    ≡ Ok (with_frame frames found.0 (removed_at (frame_at frames found.0) found.1)))
    × (reading_at frames index stands ≡ ok_or (text_at (frame_at frames found.0) found.1) IsArray)
    × ((old text : List ℕ) →
    text_at (frame_at frames found.0) found.1 ≡ Some old →
    frames_after_write frames stands text
    ≡ Ok (with_frame frames found.0 (put_at (frame_at frames found.0) found.1 text)))

-- it was found after the links
abbrev pub FindsAt : List Frame → Place → Result (ℕ × Found) VarFault → Type 0
FindsAt frames place found =
    (stands : Option Place)
    × StandsFor frames place stands
    × IsFound frames place.index stands found
