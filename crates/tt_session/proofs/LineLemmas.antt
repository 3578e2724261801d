-- How a status line is put, piece by piece.
use Rattle.std.proofs.Common.{◌≡◌, ◌∙◌, ◌↔◌, ℕ, List, [], ◌++◌, Option, Ok, Err, Result, OnOk, OnErr, IsTrue, refl, sym, ap, append_assoc, append-nil}
use Rattle.tt_devices.proofs.StreamLemmas.{Grows-append}
use Rattle.tt_devices.specs.Faults.{Rises}
use Rattle.tt_devices.specs.Streams.{Grows, GrowsByPart}
use Rattle.tt_devices.specs.declared.sink.Sink.{Ghosts as OfSink}
use Rattle.tt_session.specs.Lines.{IsSilent, PutsLine, line_of, part, whole}
use Rattle.tt_session.specs.declared.status.Place.TheVariants.{Byte, Entry}
use Rattle.tt_session.specs.declared.status.Status.{Status}
use Rattle.tt_session.specs.declared.status.Status.TheVariants.{Done, Usage, NoFile, BadSchedule, TooLong}
use Rattle.tt_session.specs.declared.status.Status.TheVariants.{ScheduleEnded, Stalled, StepLimit}
use Rattle.tt_session.specs.declared.status.Status.TheVariants.{ReadFault, WriteFault, NoMemory}

-- a first part of a piece is one of a longer piece
pub part-front : (old new : Option (List ℕ)) (piece more : List ℕ) → GrowsByPart old new piece → GrowsByPart old new (piece ++ more)
part-front old new piece more p = record {
  part = p.part;
  rest = p.rest ++ more;
  cut = ap (λ (bytes : List ℕ). bytes ++ more) p.cut ∙ append_assoc p.part p.rest more;
  grew = p.grew;
}

-- a piece and a first part of the next
pub part-after : (old mid new : Option (List ℕ)) (piece more : List ℕ) → Grows old mid piece → GrowsByPart mid new more → GrowsByPart old new (piece ++ more)
part-after old mid new piece more grows p = record {
  part = piece ++ p.part;
  rest = p.rest;
  cut = ap (λ (bytes : List ℕ). piece ++ bytes) p.cut ∙ sym (append_assoc piece p.part p.rest);
  grew = Grows-append old mid new piece p.part grows p.grew;
}

-- four pieces, as a line has them
pub all-four : (a b c d e : Option (List ℕ)) (name words more last : List ℕ) → Grows a b name → Grows b c words → Grows c d more
    → Grows d e last → Grows a e (name ++ ((words ++ more) ++ last))
all-four a b c d e name words more last p q r s =
    Grows-append a b e name ((words ++ more) ++ last) p (Grows-append b d e (words ++ more) last (Grows-append b c d words more q r) s)

pub first-fails : (a b : Option (List ℕ)) (name words more last : List ℕ) → GrowsByPart a b name → GrowsByPart a b (name ++ ((words ++ more) ++ last))
first-fails a b name words more last p = part-front a b name ((words ++ more) ++ last) p

pub second-fails : (a b c : Option (List ℕ)) (name words more last : List ℕ) → Grows a b name → GrowsByPart b c words
    → GrowsByPart a c (name ++ ((words ++ more) ++ last))
second-fails a b c name words more last p q =
    part-after a b c name ((words ++ more) ++ last) p (part-front b c (words ++ more) last (part-front b c words more q))

pub third-fails : (a b c d : Option (List ℕ)) (name words more last : List ℕ) → Grows a b name → Grows b c words → GrowsByPart c d more
    → GrowsByPart a d (name ++ ((words ++ more) ++ last))
third-fails a b c d name words more last p q r =
    part-after a b d name ((words ++ more) ++ last) p (part-front b d (words ++ more) last (part-after b c d words more q r))

pub fourth-fails : (a b c d e : Option (List ℕ)) (name words more last : List ℕ) → Grows a b name → Grows b c words → Grows c d more
    → GrowsByPart d e last → GrowsByPart a e (name ++ ((words ++ more) ++ last))
fourth-fails a b c d e name words more last p q r s =
    part-after a b e name ((words ++ more) ++ last) p (part-after b d e (words ++ more) last (Grows-append b c d words more q r) s)

-- what holds holds of a failure
pub on-err : {T X : Type 0} (result : Result T X) (P : Type 0) → P → OnErr result P
on-err (Ok x) P is = tt
on-err (Err x) P is = is

-- the line was put, and the bytes after it, or a first part of them
pub put-by : {E U X : Type 0} (errors : OfSink E) (before : ℕ) (status : Status) (more : List ℕ) (old new : E) (result : Result U X)
    → ¬ (IsSilent errors before (line_of status ++ more) old)
    → OnOk result (Grows (errors.got old) (errors.got new) (line_of status ++ more))
    → OnErr result (GrowsByPart (errors.got old) (errors.got new) (line_of status ++ more))
    → OnOk result (errors.fault_count new ≡ errors.fault_count old) → OnErr result (Rises (errors.fault_count old) (errors.fault_count new))
    → PutsLine errors before status more old new
put-by errors before status more old new (Ok x) loud grows cut steady rises = whole loud grows steady
put-by errors before status more old new (Err x) loud grows cut steady rises = part loud cut rises

-- a line alone is all that is told if there is nothing more
pub line-alone : (old new : Option (List ℕ)) (line more : List ℕ) → more ≡ [] → Grows old new line → Grows old new (line ++ more)
line-alone old new line more none grows = rw (none, append-nil line) grows

-- every status but that of a run that is over has a line
pub only-done : (status : Status) (more : List ℕ) → line_of status ++ more ≡ [] → (code : ℕ) × (status ≡ Done code)
only-done (Done code) more is = (code, refl)
only-done Usage more is = absurd (cc is)
only-done (NoFile name) more is = absurd (cc is)
only-done (BadSchedule (Byte offset)) more is = absurd (cc is)
only-done (BadSchedule (Entry number)) more is = absurd (cc is)
only-done (TooLong entries) more is = absurd (cc is)
only-done ScheduleEnded more is = absurd (cc is)
only-done Stalled more is = absurd (cc is)
only-done (StepLimit steps) more is = absurd (cc is)
only-done ReadFault more is = absurd (cc is)
only-done WriteFault more is = absurd (cc is)
only-done NoMemory more is = absurd (cc is)

pub no-more : (status : Status) (more : List ℕ) (code : ℕ) → status ≡ Done code → line_of status ++ more ≡ [] → more ≡ []
no-more status more code is none = rw is at none
