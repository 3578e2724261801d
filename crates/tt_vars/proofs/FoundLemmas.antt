-- What is found by a name is what reading and removing the name work on.
use Rattle.std.proofs.Common.{◌≡◌, ℕ, List, Option, Some, None, Result, Ok, Err, bytes_eq, slice_get, position, remove}
use Rattle.std.proofs.Common.{refl, ap, sym, subst, ◌∙◌}
use Rattle.std.specs.Map.{keys_of, values_of, lookup, remove_entry}
use Rattle.std.specs.Option.{ok_or}
use Rattle.indexmap.specs.IndexMap.{set_value_at, insert_entry}
use Rattle.indexmap.proofs.MapLemmas.{Found-position, remove_entry-first, insert_entry-first}
use Rattle.tt_vars.specs.declared.answers.VarFault.{VarFault}
use Rattle.tt_vars.specs.declared.answers.VarFault.TheVariants.{NoSuchElement, IsArray}
use Rattle.tt_vars.specs.declared.variable.Variable.{Variable}
use Rattle.tt_vars.specs.declared.variable.Variable.TheVariants.{Scalar, Array, Link}
use Rattle.tt_vars.specs.Variables.{Name, Frame, variable_named, leads, reading_of, with, without_element, frame_after_removal, result_of, variable_after_write}
use Rattle.tt_vars.specs.declared.variable.Found.{Found}
use Rattle.tt_vars.specs.declared.variable.Place.{Place}
use Rattle.tt_vars.specs.Links.{at, frame_at, with_frame, frames_after_write}
use Rattle.tt_vars.specs.inside.Found.{has_element, put_at, put_by, text_at, text_in, removed_in}

err_is_ok : {X E : Type 0} {e : E} {x : X} → Err e ≡ Ok x → ⊥
err_is_ok h = cc

module _ {X : Type 0} (es : List (Name × X)) (n : Name) (i : ℕ) (p : position (bytes_eq n) (keys_of es) ≡ Some i) where
  at_place : lookup (bytes_eq n) es ≡ slice_get (values_of es) i
  at_place = (Found-position (bytes_eq n) es i p).value

  removed_place : remove_entry (bytes_eq n) es ≡ remove es i
  removed_place = remove_entry-first (bytes_eq n) es i (Found-position (bytes_eq n) es i p).first

  put_place : (w : X) → insert_entry bytes_eq es n w ≡ set_value_at es i w
  put_place w = insert_entry-first bytes_eq n w es i (Found-position (bytes_eq n) es i p).first

same_ok : {X : Type 0} {x y : X} → ◌≡◌ {A = Result X VarFault} (Ok x) (Ok y) → x ≡ y
same_ok h = cc

same_err : {X : Type 0} {x y : VarFault} → ◌≡◌ {A = Result X VarFault} (Err x) (Err y) → x ≡ y
same_err h = cc

no_link_found : (v : Variable) (index : Option Name) → has_element v index ≡ Ok tt → leads (Some v) ≡ None
no_link_found (Scalar text) index is = refl
no_link_found (Array elements) index is = refl
no_link_found (Link to) index is = absurd (err_is_ok is)

Faults : VarFault → Frame → Name → Variable → Option Name → VarFault → Type 0
Faults missing frame n v index fault = (frame_after_removal missing frame n (Some v) index ≡ Err fault) × (reading_of missing (Some v) index ≡ Err fault)

faults : (missing : VarFault) (frame : Frame) (n : Name) (v : Variable) (index : Option Name) (fault : VarFault) → has_element v index ≡ Err fault →
    Faults missing frame n v index fault
unfolding Faults
faults missing frame n (Scalar text) None fault is = absurd (err_is_ok (sym is))
faults missing frame n (Array elements) None fault is = absurd (err_is_ok (sym is))
faults missing frame n (Scalar text) (Some index) fault is = (ap Err (same_err is), ap Err (same_err is))
faults missing frame n (Link to) index fault is = (ap Err (same_err is), ap Err (same_err is))
faults missing frame n (Array elements) (Some index) fault is = by (lookup (bytes_eq index) elements) is
  where
    by : (r : Option (List ℕ)) → result_of {Y = Unit {0}} (λ text. tt) (ok_or r NoSuchElement) ≡ Err fault
        → (without_element frame n elements index r ≡ Err fault) × (ok_or r NoSuchElement ≡ Err fault)
    by None is = (ap Err (same_err is), ap Err (same_err is))
    by (Some text) is = absurd (err_is_ok (sym is))

Finds : VarFault → Frame → Name → Variable → ℕ → Option Name → Type 0
Finds missing frame n v i index =
    (frame_after_removal missing frame n (Some v) index ≡ Ok (removed_in frame i (Some v) index))
    × (reading_of missing (Some v) index ≡ ok_or (text_in (Some v) index) IsArray)

finds : (missing : VarFault) (frame : Frame) (n : Name) (v : Variable) (i : ℕ) (index : Option Name) →
    position (bytes_eq n) (keys_of frame) ≡ Some i → has_element v index ≡ Ok tt → Finds missing frame n v i index
unfolding Finds
finds missing frame n (Scalar text) i None p is = (ap Ok (removed_place frame n i p), refl)
finds missing frame n (Array elements) i None p is = (ap Ok (removed_place frame n i p), refl)
finds missing frame n (Scalar text) i (Some index) p is = absurd (err_is_ok is)
finds missing frame n (Link to) i index p is = absurd (err_is_ok is)
finds missing frame n (Array elements) i (Some index) p is = by (lookup (bytes_eq index) elements) is
  where
    by : (r : Option (List ℕ)) → result_of {Y = Unit {0}} (λ text. tt) (ok_or r NoSuchElement) ≡ Ok tt
        → (without_element frame n elements index r ≡ Ok (removed_in frame i (Some (Array elements)) (Some index)))
        × (ok_or r NoSuchElement ≡ ok_or r IsArray)
    by None is = absurd (err_is_ok is)
    by (Some text) is = (ap Ok (put_place frame n i p (Array (remove_entry (bytes_eq index) elements))), refl)

none_at : {old : List ℕ} → None ≡ Some old → ⊥
none_at h = cc

-- if a text is found, another is written in its stead
puts : (frame : Frame) (n : Name) (v : Variable) (i : ℕ) (index : Option Name) (old text : List ℕ) →
    position (bytes_eq n) (keys_of frame) ≡ Some i → has_element v index ≡ Ok tt → text_in (Some v) index ≡ Some old →
    result_of (with frame n) (variable_after_write (Some v) index text) ≡ Ok (put_by frame i (Some v) index text)
puts frame n (Scalar was) i None old text p is there = ap Ok (put_place frame n i p (Scalar text))
puts frame n (Array elements) i None old text p is there = absurd (none_at there)
puts frame n (Scalar was) i (Some index) old text p is there = absurd (err_is_ok is)
puts frame n (Link to) i index old text p is there = absurd (err_is_ok is)
puts frame n (Array elements) i (Some index) old text p is there =
    ap Ok (put_place frame n i p (Array (insert_entry bytes_eq elements index text)))

module _ (missing : VarFault) (frame : Frame) (n : Name) (v : Variable) (index : Option Name) (named_is : variable_named frame n ≡ Some v) where
  pub find-fault : (fault : VarFault) → has_element v index ≡ Err fault → frame_after_removal missing frame n (variable_named frame n) index ≡ Err fault
  unfolding Faults
  find-fault fault is = ap (λ s. frame_after_removal missing frame n s index) named_is ∙ (faults missing frame n v index fault is).0

  pub find-no_text : (fault : VarFault) → has_element v index ≡ Err fault → reading_of missing (variable_named frame n) index ≡ Err fault
  unfolding Faults
  find-no_text fault is = ap (λ s. reading_of missing s index) named_is ∙ (faults missing frame n v index fault is).1

  module _ (i : ℕ) (p : position (bytes_eq n) (keys_of frame) ≡ Some i) (is : has_element v index ≡ Ok tt) where
    there : Some v ≡ slice_get (values_of frame) i
    there = sym named_is ∙ at_place frame n i p

    pub find-removed : frame_after_removal missing frame n (variable_named frame n) index ≡ Ok (removed_in frame i (slice_get (values_of frame) i) index)
    unfolding Finds
    find-removed = ap (λ s. frame_after_removal missing frame n s index) named_is ∙ (finds missing frame n v i index p is).0 ∙ ap (λ s. Ok (removed_in frame i s index)) there

    pub find-text : reading_of missing (variable_named frame n) index ≡ ok_or (text_in (slice_get (values_of frame) i) index) IsArray
    unfolding Finds
    find-text = ap (λ s. reading_of missing s index) named_is ∙ (finds missing frame n v i index p is).1 ∙ ap (λ s. ok_or (text_in s index) IsArray) there

    pub find-no_link : leads (slice_get (values_of frame) i) ≡ None
    find-no_link = ap leads (sym there) ∙ no_link_found v index is

    pub find-written : (old text : List ℕ) → text_in (slice_get (values_of frame) i) index ≡ Some old
        → result_of (with frame n) (variable_after_write (variable_named frame n) index text) ≡ Ok (put_by frame i (slice_get (values_of frame) i) index text)
    find-written old text found =
        ap (λ s. result_of (with frame n) (variable_after_write s index text)) named_is
        ∙ puts frame n v i index old text p is (ap (λ s. text_in s index) there ∙ found)
        ∙ ap (λ s. Ok (put_by frame i s index text)) there

written-in : (frames : List Frame) (place : Place) (made : Result Variable VarFault) (after : Frame) →
    result_of (with (frame_at frames place.frame) place.name) made ≡ Ok after →
    result_of (λ v. with_frame frames place.frame (with (frame_at frames place.frame) place.name v)) made ≡ Ok (with_frame frames place.frame after)
written-in frames place (Ok v) after is = ap Ok (ap (with_frame frames place.frame) (same_ok is))
written-in frames place (Err fault) after is = absurd (err_is_ok is)

-- what is written in its frame is written among the frames
pub found-written : (frames : List Frame) (stands : Option Place) (place : Place) (frame : Frame) (found : Found) →
    stands ≡ Some place → frame ≡ frame_at frames place.frame →
    ((old text : List ℕ) → text_at frame found ≡ Some old →
    result_of (with frame place.name) (variable_after_write (variable_named frame place.name) place.index text) ≡ Ok (put_at frame found text)) →
    (old text : List ℕ) → text_at (frame_at frames place.frame) found ≡ Some old →
    frames_after_write frames stands text ≡ Ok (with_frame frames place.frame (put_at (frame_at frames place.frame) found text))
found-written frames stands place frame found is here each old text there =
    ap (λ s. frames_after_write frames s text) is
    ∙ written-in frames place (variable_after_write (at frames place) place.index text) (put_at (frame_at frames place.frame) found text)
    (subst (λ f. (old text : List ℕ) → text_at f found ≡ Some old →
    result_of (with f place.name) (variable_after_write (variable_named f place.name) place.index text) ≡ Ok (put_at f found text)) here each old text there)

-- what is written at a place with an index is written with a copy of the index
pub written-copy : (frame : Frame) (n : Name) (index copy : Option Name) (place : ℕ) → copy ≡ index →
    ((old text : List ℕ) → text_in (slice_get (values_of frame) place) index ≡ Some old →
    result_of (with frame n) (variable_after_write (variable_named frame n) index text) ≡ Ok (put_by frame place (slice_get (values_of frame) place) index text)) →
    (old text : List ℕ) → text_in (slice_get (values_of frame) place) copy ≡ Some old →
    result_of (with frame n) (variable_after_write (variable_named frame n) index text) ≡ Ok (put_by frame place (slice_get (values_of frame) place) copy text)
written-copy frame n index copy place is each old text there =
    each old text (ap (text_in (slice_get (values_of frame) place)) (sym is) ∙ there)
    ∙ ap (λ e. Ok (put_by frame place (slice_get (values_of frame) place) e text)) (sym is)
