-- What a system tells of the machine.
use Rattle.std.proofs.Common.{◌≡◌, ◌∙◌, ℕ, IfSome, IsTrue, List, Option, Some, None, false, is_some, refl, sym}
use Rattle.std.specs.Option.{option_map}
use Rattle.tt_calls.specs.declared.request.Request.{Request}
use Rattle.tt_core.proofs.ActionLemmas.{Of, of-machine}
use Rattle.tt_core.proofs.CrewLemmas as crew
use Rattle.tt_core.proofs.StandLemmas.{In, asked-in}
use Rattle.tt_core.proofs.StepLemmas.{able, goes}
use Rattle.tt_core.specs.Stage.{Began}
use Rattle.tt_core.specs.Telling.{IsAsking, IsSilent, IsStep}
use Rattle.tt_core.specs.declared.told.Told.{Told}
use Rattle.tt_core.specs.inside.Crew.{Places, asked_by, interp_of}
use Rattle.tt_core.specs.inside.Standing.{InPlaces, IsOf}
use Rattle.tt_devices.specs.Streams.{Grows}
use Rattle.tt_interp.specs.Interps.{Interpreter, request_of, serving_of}
use Rattle.tt_kept.specs.declared.setup.Setup.{Setup}
use Rattle.tt_run.specs.Acting.{Happens, IsAnswer}
use Rattle.tt_run.specs.Desk.{Ground, can_act}
use Rattle.tt_run.specs.declared.desk.Acted.{Acted}
use Rattle.tt_shared.specs.Acts.{act}
use Rattle.tt_shared.specs.declared.applied.Line.{Line}
use Rattle.tt_threads.specs.Rows.{is_living}

pub unmet : {X : Type 0} (found : Option X) → is_some found ≡ false → found ≡ None
unmet None is = refl
unmet (Some x) is = absurd (cc is)

module _ {S K E : Type 0} (held : S → Option (List ℕ)) (got_out : K → Option (List ℕ)) (got_err : E → Option (List ℕ)) where
  -- a step is what was asked and what answering it gave
  pub told-of : (setup : Setup) (began : Began S K E) (old new : Ground S K E) (number : ℕ) (request : Request) (told : Told) (did : Acted)
      (places : Places)
      → Some request ≡ asked_by places number → IsTrue (can_act old number request)
      → ((line : Line) × Happens held got_out got_err Grows old number request line new × IsAnswer did (act old.shared number request line).gives)
      → IsOf told (asked_by places number) did
      → In held got_out got_err setup began old places
      → Of held got_out got_err setup began old (IsStep number told)
  told-of setup began old new number request told did places asks can happens is stood =
      let one = asked-in places number request asks in
      let has = able old number request can in
      let line = happens.0 in
      of-machine held got_out got_err setup began old (InPlaces places) (IsStep number told) has.nothing_met stood (λ machine its there.
      let asking = one.asks machine there (rw (← its.is_shared) has.lives) in
      let went = goes held old new number request (serving_of one.interp.standing) line machine its has asking happens.1.read happens.1.shared in
      let given = asks ∙ is.request in
      let same : request ≡ told.request = cc given in
      record {
        next = went.next;
        steps = went.steps;
        request = sym same ∙ sym went.asked;
        reply = rw (went.asked, went.took, ← its.is_shared) (is.reply ∙ happens.2.reply);
        made = rw (went.asked, went.took, ← its.is_shared) (is.made ∙ happens.2.made);
      })

  pub told-if : (setup : Setup) (began : Began S K E) (old new : Ground S K E) (number : ℕ) (request : Request) (did : Acted)
      (places : Places)
      → Some request ≡ asked_by places number → IsTrue (can_act old number request)
      → ((line : Line) × Happens held got_out got_err Grows old number request line new × IsAnswer did (act old.shared number request line).gives)
      → (told : Option Told) → IfSome told (λ told. IsOf told (asked_by places number) did)
      → In held got_out got_err setup began old places
      → IfSome told (λ told. Of held got_out got_err setup began old (IsStep number told))
  told-if setup began old new number request did places asks can happens None is stood = tt
  told-if setup began old new number request did places asks can happens (Some told) is stood =
      told-of setup began old new number request told did places asks can happens is stood

  -- what a thread asks that lives
  pub asking : (setup : Setup) (began : Began S K E) (desk : Ground S K E) (number : ℕ) (request : Request) (places : Places)
      → Some request ≡ asked_by places number → desk.kept ≡ None → IsTrue (is_living desk.shared.rows number)
      → In held got_out got_err setup began desk places
      → Of held got_out got_err setup began desk (IsAsking number request)
  asking setup began desk number request places is kept lives stood =
      let one = asked-in places number request is in
      of-machine held got_out got_err setup began desk (InPlaces places) (IsAsking number request) kept stood (λ machine its are.
      record { serving = serving_of one.interp.standing; asks = one.asks machine are (rw (← its.is_shared) lives) })

  none-asked : (found : Option Interpreter) → None ≡ option_map (λ (interp : Interpreter). request_of interp.standing) found → found ≡ None
  none-asked None is = refl
  none-asked (Some interp) is = absurd (cc is)

  -- one without an interpreter asks nothing
  pub unasked-silent : (setup : Setup) (began : Began S K E) (desk : Ground S K E) (number : ℕ) (places : Places)
      → desk.kept ≡ None → None ≡ asked_by places number → In held got_out got_err setup began desk places
      → Of held got_out got_err setup began desk (IsSilent number)
  unasked-silent setup began desk number places kept is stood =
      of-machine held got_out got_err setup began desk (InPlaces places) (IsSilent number) kept stood (λ machine its are request serving asking.
      crew.silent machine.setup number machine.threads places asking.thread are (none-asked (interp_of places number) is) asking.made request
      serving asking.next)
