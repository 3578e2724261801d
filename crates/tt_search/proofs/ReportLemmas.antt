-- That reports alone are put on standard error.
use Rattle.std.proofs.Common.{◌≡◌, ℕ, List, [], ◌++◌, Option, None, Some, refl, sym, subst, append-nil}
use Rattle.tt_devices.proofs.StreamLemmas.{Grows-append, Grows-same}
use Rattle.tt_devices.specs.Memory.{Supply}
use Rattle.tt_devices.specs.Streams.{Empties, GrowsByPart}
use Rattle.tt_devices.specs.declared.sink.Sink.{Ghosts as OfSink}
use Rattle.tt_search.specs.Searched.{IsReported, IsWholeInput, PutsRefusal}
use Rattle.tt_session.specs.Lines.{PutsLine, line_of}
use Rattle.tt_session.specs.Lines as line
use Rattle.tt_session.specs.declared.status.Status.{Status}
use Rattle.tt_session.specs.declared.status.Status.TheVariants.{Done, Usage, NoFile, BadSchedule, TooLong}
use Rattle.tt_session.specs.declared.status.Status.TheVariants.{ScheduleEnded, Stalled, StepLimit}
use Rattle.tt_session.specs.declared.status.Status.TheVariants.{ReadFault, WriteFault, NoMemory}

pub no-report : (got : Option (List ℕ)) → IsReported got got
no-report got = record { text = []; grew = Grows-same got }

pub two-reports : (old middle new : Option (List ℕ)) → IsReported old middle → IsReported middle new → IsReported old new
two-reports old middle new one other = record {
  text = one.text ++ other.text;
  grew = Grows-append old middle new one.text other.text one.grew other.grew;
}

pub part-report : (old new : Option (List ℕ)) (piece : List ℕ) → GrowsByPart old new piece → IsReported old new
part-report old new piece is = record { text = is.part; grew = is.grew }

-- a status line is a report
pub line-report : {E : Type 0} (errors : OfSink E) (before : ℕ) (status : Status) (old new : E) → PutsLine errors before status [] old new
    → IsReported (errors.got old) (errors.got new)
line-report {E = E} errors before status old new (line.silent none same) =
    subst (λ (e : E). IsReported (errors.got old) (errors.got e)) (sym same) (no-report (errors.got old))
line-report {E = E} errors before status old new (line.whole some grew steady) = record { text = line_of status ++ []; grew = grew }
line-report {E = E} errors before status old new (line.part some grew rises) = part-report (errors.got old) (errors.got new) (line_of status ++ []) grew

-- the line of a refusal, by whether it is one of wrong usage
pub refusal-put : {E : Type 0} (errors : OfSink E) (status : Status) (old new : E)
    → (status ≡ Usage → IsReported (errors.got old) (errors.got new))
    → ((status ≡ Usage → ⊥) → PutsLine errors (errors.fault_count old) status [] old new)
    → PutsRefusal errors status old new
refusal-put errors Usage old new usage others = usage refl
refusal-put errors (Done code) old new usage others = others (λ is. cc is)
refusal-put errors (NoFile name) old new usage others = others (λ is. cc is)
refusal-put errors (BadSchedule place) old new usage others = others (λ is. cc is)
refusal-put errors (TooLong entries) old new usage others = others (λ is. cc is)
refusal-put errors ScheduleEnded old new usage others = others (λ is. cc is)
refusal-put errors Stalled old new usage others = others (λ is. cc is)
refusal-put errors (StepLimit steps) old new usage others = others (λ is. cc is)
refusal-put errors ReadFault old new usage others = others (λ is. cc is)
refusal-put errors WriteFault old new usage others = others (λ is. cc is)
refusal-put errors NoMemory old new usage others = others (λ is. cc is)

-- what was read of a source to its end is all that it held
pub whole-input : (old new : Option (List ℕ)) (bytes : List ℕ) (supply : Supply) → Empties old new bytes → supply.left ≡ bytes → IsWholeInput old supply
whole-input None new bytes supply is same = tt
whole-input (Some held) None bytes supply is same = absurd is.0
whole-input (Some held) (Some left) bytes supply is same = rw (same, is.0, is.1) (sym (append-nil bytes))
