-- A name that is no link stands for itself.
use Rattle.std.proofs.Common.{◌≡◌, ℕ, List, [], Option, Some, None, Result, Ok, Err, IfNone, IfOk, IfSome, refl, ap, sym, subst, ◌∙◌}
use Rattle.std.proofs.lemmas.List.{set-get_or}
use Rattle.std.specs.Option.{option_map}
use Rattle.tt_lists.specs.declared.answer.ListAnswer.{ListAnswer}
use Rattle.tt_lists.specs.declared.answer.ListAnswer.TheVariants.{Made, Bad}
use Rattle.tt_vars.specs.declared.answers.VarFault.{VarFault}
use Rattle.tt_vars.specs.declared.answers.Written.TheVariants.{Yes}
use Rattle.tt_vars.specs.declared.variable.Variable.{Variable}
use Rattle.tt_vars.specs.declared.variable.Variable.TheVariants.{Scalar, Array, Link}
use Rattle.tt_vars.specs.Variables.{Name, Frame, Puts, leads, reading_of, result_of, variable_after_write, variable_named, with}
use Rattle.tt_vars.specs.Links.{Changes, Reads, ReadsAs, Takes, Writes, at, frame_at, itself, missing, place_of, with_frame}
use Rattle.tt_vars.specs.inside.Found.{after_change, put_in, text_in}
use Rattle.tt_vars.proofs.FrameLemmas.{with_same_frame}

module _ (change : List ℕ → ListAnswer) (frame : Frame) (n : Name) where
  abbrev pub IsChanged : Frame → ListAnswer → Type 0
  IsChanged new made =
      (old : List ℕ)
      × (variable_named frame n ≡ Some (Scalar old))
      × (made ≡ change old)
      × (new ≡ after_change (λ text. with frame n (Scalar text)) frame (Some made))

  put : (text : List ℕ) (w : Variable) (made : ListAnswer) → variable_named frame n ≡ Some (Scalar text)
      → w ≡ after_change (put_in (Scalar text) None) (Scalar text) (Some made)
      → with frame n w ≡ after_change (λ text. with frame n (Scalar text)) frame (Some made)
  put text w (Made longer) there is = ap (with frame n) is
  put text w (Bad message) there is = with_same_frame frame n (Scalar text) w there is

  -- a scalar that was changed
  changed-scalar : (v w : Variable) (answer : Option ListAnswer) → variable_named frame n ≡ Some v
      → answer ≡ option_map change (text_in (Some v) None) → w ≡ after_change (put_in v None) v answer
      → IfSome answer (λ made. IsChanged (with frame n w) made)
  changed-scalar (Scalar text) w answer there is new =
      subst (λ a. IfSome a (λ made. IsChanged (with frame n w) made)) (sym is)
      (text, there, refl, put text w (change text) there (new ∙ ap (after_change (put_in (Scalar text) None) (Scalar text)) is))
  changed-scalar (Array elements) w answer there is new =
      subst (λ a. IfSome a (λ made. IsChanged (with frame n w) made)) (sym is) tt
  changed-scalar (Link to) w answer there is new =
      subst (λ a. IfSome a (λ made. IsChanged (with frame n w) made)) (sym is) tt

  pub changed-ok : {E : Type 0} (inside : Frame) (v w : Variable) (result : Result (Option ListAnswer) E) → inside ≡ frame
      → variable_named frame n ≡ Some v → IfOk result (λ answer. answer ≡ option_map change (text_in (Some v) None))
      → IfOk result (λ answer. w ≡ after_change (put_in v None) v answer)
      → IfOk result (λ answer. IfSome answer (λ made. IsChanged (with inside n w) made))
  changed-ok inside v w (Ok answer) same there is new =
      subst (λ f. IfSome answer (λ made. IsChanged (with f n w) made)) (sym same) (changed-scalar v w answer there is new)
  changed-ok inside v w (Err fault) same there is new = is

  -- what was not changed
  none-changed : (v w : Variable) (answer : Option ListAnswer) → variable_named frame n ≡ Some v
      → w ≡ after_change (put_in v None) v answer → IfNone answer (with frame n w ≡ frame)
  none-changed v w None there is = with_same_frame frame n v w there is
  none-changed v w (Some made) there is = tt

  pub none-ok : {E : Type 0} (inside : Frame) (v w : Variable) (result : Result (Option ListAnswer) E) → inside ≡ frame
      → variable_named frame n ≡ Some v → IfOk result (λ answer. w ≡ after_change (put_in v None) v answer)
      → IfOk result (λ answer. IfNone answer (with inside n w ≡ frame))
  none-ok inside v w (Ok answer) same there is =
      subst (λ f. IfNone answer (with f n w ≡ frame)) (sym same) (none-changed v w answer there is)
  none-ok inside v w (Err fault) same there is = is

module _ (frames : List Frame) (number : ℕ) (name : Name) (before : Frame) (is : before ≡ frame_at frames number) where
  pub reads-here : (index : Option Name) (text : List ℕ) → leads (variable_named before name) ≡ None
      → ((fault : VarFault) → reading_of fault (variable_named before name) index ≡ Ok text) → Reads frames (place_of number name index) (Ok text)
  reads-here index text link value = (
    Some (place_of number name index),
    itself (ap (λ f. leads (variable_named f name)) (sym is) ∙ link),
    sym (ap (λ f. reading_of (missing index index) (variable_named f name) index) (sym is) ∙ value (missing index index)),
  )

  there : (old : List ℕ) → variable_named before name ≡ Some (Scalar old) → at frames (place_of number name None) ≡ Some (Scalar old)
  there old scalar = ap (λ f. variable_named f name) (sym is) ∙ scalar

  writes-here : (new : Frame) (old text : List ℕ) → variable_named before name ≡ Some (Scalar old) → new ≡ with before name (Scalar text)
      → Writes frames (place_of number name None) text (with_frame frames number new) Yes
  writes-here new old text scalar put = (
    Some (place_of number name None),
    itself (ap leads (there old scalar)),
    subst (λ v. Puts (result_of (λ variable. with_frame frames number (with (frame_at frames number) name variable))
        (variable_after_write v None text)) frames (with_frame frames number new) Yes) (sym (there old scalar))
        (refl, ap (with_frame frames number) (put ∙ ap (λ f. with f name (Scalar text)) is)),
  )

  pub written-here : (new : Frame) (text : List ℕ) (index : Option Name) → index ≡ None
      → (old : List ℕ) × (variable_named before name ≡ Some (Scalar old)) → new ≡ with before name (Scalar text)
      → Writes frames (place_of number name index) text (with_frame frames number new) Yes
  written-here new text index none scalar put =
      subst (λ i. Writes frames (place_of number name i) text (with_frame frames number new) Yes) (sym none)
      (writes-here new scalar.0 text scalar.1 put)

  takes : (new : Frame) (old : List ℕ) (made : ListAnswer) → variable_named before name ≡ Some (Scalar old)
      → new ≡ after_change (λ text. with before name (Scalar text)) before (Some made)
      → Takes (Ok made) frames (place_of number name None) (with_frame frames number new)
  takes new old (Made text) scalar put = writes-here new old text scalar put
  takes new old (Bad message) scalar put = ap (with_frame frames number) (put ∙ is) ∙ set-get_or frames number []

  changes-here : (change : List ℕ → ListAnswer) (new : Frame) (made : ListAnswer) → IsChanged change before name new made
      → Changes change frames (place_of number name None) (with_frame frames number new) (Ok made)
  changes-here change new made changed = (
    (
      Some (place_of number name None),
      itself (ap leads (there changed.0 changed.1)),
      ap Ok changed.2
          ∙ sym (ap (λ v. result_of change (reading_of (missing None None) v None)) (there changed.0 changed.1)),
    ),
    takes new changed.0 made changed.1 changed.3,
  )

  pub changed-here : (change : List ℕ → ListAnswer) (new : Frame) (made : ListAnswer) (index : Option Name) → index ≡ None
      → IsChanged change before name new made → Changes change frames (place_of number name index) (with_frame frames number new) (Ok made)
  changed-here change new made index none changed =
      subst (λ i. Changes change frames (place_of number name i) (with_frame frames number new) (Ok made)) (sym none)
      (changes-here change new made changed)
