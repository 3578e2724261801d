-- What is reported of a value that was changed where it stands is what is made of the value that was found.
use Rattle.std.proofs.Common.{◌≡◌, ℕ, List, [], Result, Ok, Err, IfOk, refl, ap, sym, subst, ◌∙◌}
use Rattle.tt_calls.specs.declared.outcome.Outcome.{Outcome}
use Rattle.tt_calls.specs.Outcomes.{error_outcome, fine}
use Rattle.tt_lists.specs.declared.answer.ListAnswer.{ListAnswer}
use Rattle.tt_lists.specs.declared.answer.ListAnswer.TheVariants.{Made, Bad}
use Rattle.tt_vars.specs.declared.answers.VarFault.{VarFault}
use Rattle.tt_vars.specs.declared.answers.Written.TheVariants.{Yes}
use Rattle.tt_vars.specs.Links as variables
use Rattle.tt_vars.specs.Variables.{result_of}
use Rattle.tt_store.specs.Held.{AreMarked, Held, place}
use Rattle.tt_store.specs.Levels.{with_frames}
use Rattle.tt_store.specs.Messages.{cannot_read}
use Rattle.tt_store.specs.Scalars.{Changes, GivesMade, counting, answer_of_value}
use Rattle.tt_store.specs.Spots.{spot_of}

same_ok : {x y : ListAnswer} → ◌≡◌ {A = Result ListAnswer VarFault} (Ok x) (Ok y) → x ≡ y
same_ok h = cc

same_err : {x y : VarFault} → ◌≡◌ {A = Result ListAnswer VarFault} (Err x) (Err y) → x ≡ y
same_err h = cc

ok_is_err : {x : ListAnswer} {y : VarFault} → ◌≡◌ {A = Result ListAnswer VarFault} (Ok x) (Err y) → ⊥
ok_is_err h = cc

-- the value that was found, if one was made longer
found : (change : List ℕ → ListAnswer) (missing : List ℕ) (word : List ℕ) (old : Held) (answer : ListAnswer) (read : Result (List ℕ) VarFault)
    → Ok answer ≡ result_of change read → answer ≡ answer_of_value word change (counting missing read)
found change missing word old answer (Ok value) is = same_ok is
found change missing word old answer (Err fault) is = absurd (ok_is_err is)

-- the fault that was found
missed : (change : List ℕ → ListAnswer) (missing : List ℕ) (fault : VarFault) (read : Result (List ℕ) VarFault) → Err fault ≡ result_of change read →
    read ≡ Err fault
missed change missing fault (Ok value) is = absurd (ok_is_err (sym is))
missed change missing fault (Err other) is = ap Err (sym (same_err is))

module _ (change : List ℕ → ListAnswer) (missing : List ℕ) (word : List ℕ) (old : Held) where
  from-made : (new : Held) (answer : ListAnswer) (outcome : Outcome)
      → variables.Changes change old.levels.frames (place old (spot_of word)) new.levels.frames (Ok answer) → GivesMade word answer old outcome new
      → Changes word missing change old outcome new
  from-made new answer outcome changed-at gives =
      let read = variables.reading_at old.levels.frames (spot_of word).index changed-at.0.0 in (
        counting missing read,
        (read, (changed-at.0.0, changed-at.0.1, refl), refl),
        subst (λ a. GivesMade word a old outcome new)
            (found change missing word old answer read changed-at.0.2) gives,
      )

  pub made : (new : Held) (text : List ℕ) (outcome : Outcome)
      → variables.Changes change old.levels.frames (place old (spot_of word)) new.levels.frames (Ok (Made text))
      → new.levels ≡ with_frames old.levels new.levels.frames → AreMarked new.levels.frames (place old (spot_of word)) old.watches new.watches
      → outcome ≡ fine text → Changes word missing change old outcome new
  made new text outcome changed-at rest marks told =
      from-made new (Made text) outcome changed-at
      (Yes, record { writes = changed-at.1; marks = marks; rest = ap (λ levels. record { levels = levels; watches = new.watches }) rest }, told)

  pub same : (new : Held) → new.levels ≡ with_frames old.levels new.levels.frames → new.levels.frames ≡ old.levels.frames → new.watches ≡ old.watches → new ≡ old
  same new rest frames watches =
      ap (λ levels. record { levels = levels; watches = new.watches }) (rest ∙ ap (with_frames old.levels) frames)
      ∙ ap (λ w. record { levels = old.levels; watches = w }) watches

  pub bad : (new : Held) (message : List ℕ) (outcome : Outcome)
      → variables.Changes change old.levels.frames (place old (spot_of word)) new.levels.frames (Ok (Bad message))
      → new.levels ≡ with_frames old.levels new.levels.frames → new.watches ≡ old.watches
      → outcome ≡ error_outcome message → Changes word missing change old outcome new
  bad new message outcome changed-at rest watches told = from-made new (Bad message) outcome changed-at (told, same new rest changed-at.1 watches)

  from-missed : (mid new : Held) (fault : VarFault) → variables.Changes change old.levels.frames (place old (spot_of word)) mid.levels.frames (Err fault)
      → (outcome : Outcome) → GivesMade word (answer_of_value word change (counting missing (Err fault))) old outcome new
      → Changes word missing change old outcome new
  from-missed mid new fault changed-at outcome gives =
      let read = variables.reading_at old.levels.frames (spot_of word).index changed-at.0.0 in (
        counting missing read,
        (read, (changed-at.0.0, changed-at.0.1, refl), refl),
        subst (λ r. GivesMade word (answer_of_value word change (counting missing r)) old outcome new) (sym (missed change missing fault read changed-at.0.2)) gives,
      )

  pub unread : (new : Held) (fault : VarFault) (outcome : Outcome)
      → variables.Changes change old.levels.frames (place old (spot_of word)) new.levels.frames (Err fault)
      → new.levels ≡ with_frames old.levels new.levels.frames → new.watches ≡ old.watches
      → counting missing (Err fault) ≡ Err fault → outcome ≡ error_outcome (cannot_read word fault)
      → Changes word missing change old outcome new
  unread new fault outcome changed-at rest watches counts told =
      from-missed new new fault changed-at outcome
      (subst (λ r. GivesMade word (answer_of_value word change r) old outcome new) (sym counts) (told, same new rest changed-at.1 watches))

  pub begun : (mid new : Held) (fault : VarFault) (outcome : Outcome)
      → variables.Changes change old.levels.frames (place old (spot_of word)) mid.levels.frames (Err fault)
      → mid.levels ≡ with_frames old.levels mid.levels.frames → mid.watches ≡ old.watches
      → counting missing (Err fault) ≡ Ok missing → GivesMade word (change missing) mid outcome new
      → Changes word missing change old outcome new
  begun mid new fault outcome changed-at rest watches counts gives =
      from-missed mid new fault changed-at outcome (subst (λ r. GivesMade word (answer_of_value word change r) old outcome new) (sym counts)
      (subst (λ held. GivesMade word (change missing) held outcome new) (same mid rest changed-at.1 watches) gives))

  pub begun-ok : {E : Type 0} (mid new : Held) (fault : VarFault) (result : Result Outcome E)
      → variables.Changes change old.levels.frames (place old (spot_of word)) mid.levels.frames (Err fault)
      → mid.levels ≡ with_frames old.levels mid.levels.frames → mid.watches ≡ old.watches
      → counting missing (Err fault) ≡ Ok missing → IfOk result (λ outcome. GivesMade word (change missing) mid outcome new)
      → IfOk result (λ outcome. Changes word missing change old outcome new)
  begun-ok mid new fault (Ok outcome) changed-at rest watches counts gives = begun mid new fault outcome changed-at rest watches counts gives
  begun-ok mid new fault (Err e) changed-at rest watches counts gives = gives

  pub bad-ok : {E : Type 0} (new : Held) (message : List ℕ) (result : Result Outcome E)
      → variables.Changes change old.levels.frames (place old (spot_of word)) new.levels.frames (Ok (Bad message))
      → new.levels ≡ with_frames old.levels new.levels.frames → new.watches ≡ old.watches
      → IfOk result (λ outcome. outcome ≡ error_outcome message) → IfOk result (λ outcome. Changes word missing change old outcome new)
  bad-ok new message (Ok outcome) changed-at rest watches told = bad new message outcome changed-at rest watches told
  bad-ok new message (Err e) changed-at rest watches told = told

  pub unread-ok : {E : Type 0} (new : Held) (fault : VarFault) (result : Result Outcome E)
      → variables.Changes change old.levels.frames (place old (spot_of word)) new.levels.frames (Err fault)
      → new.levels ≡ with_frames old.levels new.levels.frames → new.watches ≡ old.watches
      → counting missing (Err fault) ≡ Err fault → IfOk result (λ outcome. outcome ≡ error_outcome (cannot_read word fault))
      → IfOk result (λ outcome. Changes word missing change old outcome new)
  unread-ok new fault (Ok outcome) changed-at rest watches counts told = unread new fault outcome changed-at rest watches counts told
  unread-ok new fault (Err e) changed-at rest watches counts told = told
