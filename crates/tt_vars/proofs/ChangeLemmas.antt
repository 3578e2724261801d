-- A value that was changed where it stands was written there.
use Rattle.std.proofs.Common.{◌≡◌, ℕ, List, [], Option, Some, None, Result, Ok, slice_get, refl, ap, sym, subst, ◌∙◌}
use Rattle.std.proofs.lemmas.List.{set-get_or}
use Rattle.std.specs.Option.{ok_or, option_map}
use Rattle.std.specs.Map.{values_of}
use Rattle.indexmap.specs.IndexMap.{set_value_at}
use Rattle.tt_lists.specs.declared.answer.ListAnswer.{ListAnswer}
use Rattle.tt_lists.specs.declared.answer.ListAnswer.TheVariants.{Made, Bad}
use Rattle.tt_vars.specs.declared.answers.VarFault.{VarFault}
use Rattle.tt_vars.specs.declared.answers.VarFault.TheVariants.{IsArray}
use Rattle.tt_vars.specs.declared.answers.Written.TheVariants.{Yes}
use Rattle.tt_vars.specs.declared.variable.Place.{Place}
use Rattle.tt_vars.specs.declared.variable.Found.{Found}
use Rattle.tt_vars.specs.declared.variable.Variable.{Variable}
use Rattle.tt_vars.specs.Variables.{Frame, Puts, result_of}
use Rattle.tt_vars.specs.Links.{Changes, Takes, frame_at, with_frame}
use Rattle.tt_vars.specs.inside.Found.{FindsAt, after_change, put_at, put_by, put_in, text_at}
use Rattle.tt_vars.proofs.FrameLemmas.{set_value_at-same}

pub in-frame : (frame : Frame) (found : Found) (v w : Variable) (answer : Option ListAnswer) → slice_get (values_of frame) found.variable ≡ Some v
    → w ≡ after_change (put_in v found.element) v answer → set_value_at frame found.variable w ≡ after_change (put_at frame found) frame answer
in-frame frame found v w None at is = ap (set_value_at frame found.variable) is ∙ set_value_at-same frame found.variable v at
in-frame frame found v w (Some (Bad message)) at is = ap (set_value_at frame found.variable) is ∙ set_value_at-same frame found.variable v at
in-frame frame found v w (Some (Made text)) at is =
    ap (set_value_at frame found.variable) is ∙ ap (λ s. put_by frame found.variable s found.element text) (sym at)

module _ (change : List ℕ → ListAnswer) (old : List Frame) (place : Place) (number : ℕ) (found : Found) (is : FindsAt old place (Ok (number, found))) where
  stays : with_frame old number (frame_at old number) ≡ old
  stays = set-get_or old number []

  made : (answer : ListAnswer) (text : List ℕ) → text_at (frame_at old number) found ≡ Some text
      → Takes (Ok answer) old place (with_frame old number (after_change (put_at (frame_at old number) found) (frame_at old number) (Some answer)))
  made (Bad message) text at = stays
  made (Made longer) text at = (
    is.0,
    is.1,
    subst (λ made. Puts made old (with_frame old number (put_at (frame_at old number) found longer)) Yes)
        (sym (is.2.3 text longer at)) (refl, refl),
  )

  changed-at : (text : Option (List ℕ)) → text_at (frame_at old number) found ≡ text
      → Changes change old place
      (with_frame old number (after_change (put_at (frame_at old number) found) (frame_at old number) (option_map change text)))
      (ok_or (option_map change text) IsArray)
  changed-at None at = ((is.0, is.1, ap (result_of change) (sym (is.2.2 ∙ ap (λ t. ok_or t IsArray) at))), stays)
  changed-at (Some text) at =
      ((is.0, is.1, ap (result_of change) (sym (is.2.2 ∙ ap (λ t. ok_or t IsArray) at))), made (change text) text at)

  pub changes : (before new : Frame) (answer : Option ListAnswer) (told : Result ListAnswer VarFault) → before ≡ frame_at old number → told ≡ ok_or answer IsArray
      → answer ≡ option_map change (text_at before found) → new ≡ after_change (put_at before found) before answer
      → Changes change old place (with_frame old number new) told
  changes before new answer told here told_is answer_is new_is =
      let answered : answer ≡ option_map change (text_at (frame_at old number) found) =
      answer_is ∙ ap (λ f. option_map change (text_at f found)) here in
      rw (told_is, new_is, here, answered) (changed-at (text_at (frame_at old number) found) refl)
