-- What is done to a scalar of the current frame, if nothing is watched.
use Rattle.std.proofs.Common.{◌≡◌, ℕ, ℤ, pos, false, ◌<◌, List, [], ◌∷◌, Option, None, Some, IfOk, IfSome, Result, Ok, Err, codes, get_or, length, refl, ap, sym, subst, ◌∙◌, arith}
use Rattle.std.specs.Fmt.{signed_decimal}
use Rattle.std.specs.Int.{w64}
use Rattle.std.specs.Prelude.{FitsSigned}
use Rattle.std.proofs.lemmas.Fmt.{decimal_digit}
use Rattle.tt_calls.specs.declared.outcome.Outcome.{Outcome}
use Rattle.tt_calls.specs.Outcomes.{fine}
use Rattle.tt_lists.specs.declared.answer.ListAnswer.{ListAnswer}
use Rattle.tt_lists.specs.declared.answer.ListAnswer.TheVariants.{Made}
use Rattle.tt_number.specs.Numerals.{whole_of}
use Rattle.tt_number.specs.Operators.{binary_of}
use Rattle.tt_number.specs.declared.operators.NumOp.TheVariants.{Add}
use Rattle.tt_number.proofs.Reading.Decimal.{decimal_law}
use Rattle.tt_script.specs.Names.{element_of, global_of}
use Rattle.tt_vars.specs.declared.answers.VarFault.{VarFault}
use Rattle.tt_vars.specs.declared.answers.Written.{Written}
use Rattle.tt_vars.specs.declared.answers.Written.TheVariants.{No, Yes}
use Rattle.tt_vars.specs.declared.variable.Place.{Place}
use Rattle.tt_vars.specs.Links as variables
use Rattle.tt_vars.specs.Links.{place_of}
use Rattle.tt_vars.specs.Variables.{Frame, Name, Puts}
use Rattle.tt_store.proofs.Changed.{same}
use Rattle.tt_store.specs.declared.watch.Watch.{Watch}
use Rattle.tt_store.specs.declared.spot.Spot.{Spot}
use Rattle.tt_store.specs.Commands.{Runs}
use Rattle.tt_store.specs.declared.answers.Answer.TheVariants as answers
use Rattle.tt_store.specs.Held.{AreMarked, Finds, Gives, Held, IsRead, Sets, place}
use Rattle.tt_store.specs.Levels.{with_frames}
use Rattle.tt_store.specs.Scalars.{Changes, GivesMade, increment_of, increment_by, sum_with_step, sum_answer}
use Rattle.tt_store.specs.Spots.{place_in, spot, spot_by, spot_in, spot_of}

no_is_yes : {fault : VarFault} → ◌≡◌ {A = Written} (No fault) Yes → ⊥
no_is_yes h = cc

abbrev here : Name → Option Name → Spot
here name index = record { global = false; name = name; index = index }

pub local : (name : Name) (index : Option Name) → global_of name ≡ None → spot name index ≡ here name index
local name index g = ap (λ rest. spot_by rest name index) g

pub plain : (name : Name) → element_of name ≡ None → global_of name ≡ None → spot_of name ≡ here name None
plain name e g = ap (λ element. spot_in element name) e ∙ local name None g

-- a name of the current frame is read
pub is_read : (held : Held) (name : Name) (index : Option Name) (text : List ℕ) → global_of name ≡ None
    → variables.Reads held.levels.frames (place_of held.levels.current name index) (Ok text) → IsRead held name index (fine text)
is_read held name index text g reads =
    (Ok text, subst (λ spot. Finds held spot (Ok text)) (sym (local name index g)) reads, refl)

pub copy_read : (held : Held) (name : Name) (index : Option Name) (copy : Option (List ℕ)) (text : List ℕ) → global_of name ≡ None
    → variables.Reads held.levels.frames (place_of held.levels.current name index) (Ok text) → IfSome copy (λ value. value ≡ text)
    → IfSome copy (λ value. IsRead held name index (fine value))
copy_read held name index None text g reads same = tt
copy_read held name index (Some value) text g reads same =
    subst (λ t. IsRead held name index (fine t)) (sym same) (is_read held name index text g reads)

pub finds : (held : Held) (name : Name) (found : Result (List ℕ) VarFault) → element_of name ≡ None → global_of name ≡ None
    → variables.Reads held.levels.frames (place_of held.levels.current name None) found → Finds held (spot_of name) found
finds held name found e g reads = subst (λ spot. Finds held spot found) (sym (plain name e g)) reads

-- none is marked if there are none
pub unmarked : (frames : List Frame) (place : Place) (old new : List Watch) → old ≡ [] → new ≡ old → AreMarked frames place old new
unmarked frames place old new none same = record {
  counted = ap length same;
  each = λ k watch within. absurd (omega (arith, within, ap length none));
}

-- a name of the current frame is written
pub sets : (old new : Held) (name text : List ℕ) → element_of name ≡ None → global_of name ≡ None → old.watches ≡ []
    → variables.Writes old.levels.frames (place_of old.levels.current name None) text new.levels.frames Yes
    → new.levels ≡ with_frames old.levels new.levels.frames → new.watches ≡ old.watches → Sets old (spot_of name) text new Yes
sets old new name text e g none writes rest same =
    subst (λ spot. Sets old spot text new Yes) (sym (plain name e g))
    (record {
      writes = writes;
      marks = unmarked new.levels.frames (place old (here name None)) old.watches new.watches none same;
      rest = ap (λ levels. record { levels = levels; watches = new.watches }) rest;
    })

-- where nothing could be written nothing has changed
not_put : (made : Result (List Frame) VarFault) (old new : List Frame) (fault : VarFault) → Puts made old new (No fault) → new ≡ old
not_put (Ok made) old new fault put = absurd (no_is_yes put.0)
not_put (Err other) old new fault put = put.1

pub unwritten : (old new : Held) (frame : Place) (text : List ℕ) (fault : VarFault)
    → variables.Writes old.levels.frames frame text new.levels.frames (No fault) → new.levels ≡ with_frames old.levels new.levels.frames
    → new.watches ≡ old.watches → new ≡ old
unwritten old new frame text fault writes rest same =
    ap (λ levels. record { levels = levels; watches = new.watches })
    (rest ∙ ap (with_frames old.levels) (not_put (variables.frames_after_write old.levels.frames writes.0 text) old.levels.frames new.levels.frames fault writes.2))
    ∙ ap (λ w. record { levels = old.levels; watches = w }) same

-- what is changed in the current frame is changed at the word's spot
pub changed_here : (change : List ℕ → ListAnswer) (word : Name) (old : Held) (frames : List Frame) (answer : Result ListAnswer VarFault)
    → element_of word ≡ None → global_of word ≡ None
    → variables.Changes change old.levels.frames (place_of old.levels.current word None) frames answer
    → variables.Changes change old.levels.frames (place old (spot_of word)) frames answer
changed_here change word old frames answer e g is =
    subst (λ spot. variables.Changes change old.levels.frames (place old spot) frames answer) (sym (plain word e g)) is

-- what could not be read has not changed
no_frames : (change : List ℕ → ListAnswer) (old new : List Frame) (at : Place) (answer : Result ListAnswer VarFault) (fault : VarFault) → answer ≡ Err fault
    → variables.Changes change old at new answer → new ≡ old
no_frames change old new at answer fault is changes = let both = subst (λ a. variables.Changes change old at new a) is changes in both.1

pub unchanged_here : (change : List ℕ → ListAnswer) (word missing : Name) (old new : Held) (answer : Result ListAnswer VarFault) (fault : VarFault)
    → answer ≡ Err fault → variables.Changes change old.levels.frames (place_of old.levels.current word None) new.levels.frames answer
    → new.levels ≡ with_frames old.levels new.levels.frames → new.watches ≡ old.watches → new ≡ old
unchanged_here change word missing old new answer fault is changes rest watches =
    same change missing word old new rest
    (no_frames change old.levels.frames new.levels.frames (place_of old.levels.current word None) answer fault is changes) watches

pub same_changes : {E : Type 0} (change : List ℕ → ListAnswer) (word missing : Name) (old mid new : Held) (result : Result Outcome E) → mid ≡ old
    → IfOk result (λ outcome. Changes word missing change mid outcome new) → IfOk result (λ outcome. Changes word missing change old outcome new)
same_changes change word missing old mid new result is changes = subst (λ held. IfOk result (λ outcome. Changes word missing change held outcome new)) is changes

pub gives : (old new : Held) (name text : List ℕ) → Sets old (spot_of name) text new Yes → Gives name text old (fine text) new
gives old new name text set = (Yes, set, refl)

-- a number is increased
pub increased : (old new : Held) (name text : List ℕ) (number step sum : ℤ) → FitsSigned w64 number → FitsSigned w64 step
    → text ≡ signed_decimal number → Ok sum ≡ binary_of Add number step → Finds old (spot_of name) (Ok text)
    → Sets old (spot_of name) (signed_decimal sum) new Yes
    → Changes name (codes "0") (increment_of (signed_decimal step)) old (fine (signed_decimal sum)) new
increased old new name text number step sum fits also is gives_sum finds set =
    let by_value : increment_of (signed_decimal step) text ≡ sum_with_step number (signed_decimal step) (whole_of (signed_decimal step)) =
    ap (increment_of (signed_decimal step)) is
    ∙ ap (increment_by (signed_decimal step) (signed_decimal number)) (decimal_law number fits) in
    let by_step : sum_with_step number (signed_decimal step) (whole_of (signed_decimal step)) ≡ sum_answer (binary_of Add number step) =
    ap (sum_with_step number (signed_decimal step)) (decimal_law step also) in
    let made : Made (signed_decimal sum) ≡ increment_of (signed_decimal step) text =
    ap sum_answer gives_sum ∙ sym (by_value ∙ by_step) in (
      Ok text,
      (Ok text, finds, refl),
      subst (λ answer. GivesMade name answer old (fine (signed_decimal sum)) new) made (gives old new name (signed_decimal sum) set),
    )

pub one : signed_decimal (pos 1) ≡ codes "1"
one = decimal_digit 1 (omega arith)

-- incr(n) without an increment
pub incr_one : (result : Option (List ℕ)) (words : List (List ℕ)) (old new : Held) (name : List ℕ) → words ≡ name ∷ []
    → IfSome result (λ value. Changes name (codes "0") (increment_of (signed_decimal (pos 1))) old (fine value) new)
    → IfSome result (λ value. Runs (codes "incr" ∷ words) old (answers.Outcome (fine value)) new)
incr_one None words old new name is changes = tt
incr_one (Some value) words old new name is changes =
    subst (λ ws. Runs (codes "incr" ∷ ws) old (answers.Outcome (fine value)) new) (sym is)
    (fine value, subst (λ step. Changes name (codes "0") (increment_of step) old (fine value) new) one changes, refl)

-- a name that keeps a number, which is seen as a word
pub increased_as : (old new : Held) (word name text given value : List ℕ) (number step sum : ℤ) → FitsSigned w64 number
    → FitsSigned w64 step → name ≡ word → element_of name ≡ None → global_of name ≡ None → text ≡ signed_decimal number
    → Ok sum ≡ binary_of Add number step → given ≡ signed_decimal sum → value ≡ signed_decimal sum
    → variables.Reads old.levels.frames (place_of old.levels.current name None) (Ok text) → Sets old (spot_of name) given new Yes
    → Changes word (codes "0") (increment_of (signed_decimal step)) old (fine value) new
increased_as old new word name text given value number step sum fits also named e g is added given_is value_is reads set =
    subst (λ w. Changes w (codes "0") (increment_of (signed_decimal step)) old (fine value) new) named
    (subst (λ v. Changes name (codes "0") (increment_of (signed_decimal step)) old (fine v) new) (sym value_is)
    (increased old new name text number step sum fits also is added (finds old name (Ok text) e g reads)
    (subst (λ t. Sets old (spot_of name) t new Yes) given_is set)))

-- a slice of one item
pub single : (words : List (List ℕ)) (name : List ℕ) → 0 < length words → length words < 2 → name ≡ get_or words 0 name → words ≡ name ∷ []
single [] name some few is = absurd (omega (arith, some))
single (word ∷ []) name some few is = ap (λ (n : List ℕ). n ∷ []) (sym is)
single (word ∷ next ∷ words) name some few is = absurd (omega (arith, few))
