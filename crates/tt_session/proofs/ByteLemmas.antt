-- What standard error got of two answers.
use Rattle.std.proofs.Common.{◌≡◌, ℕ, List, [], ◌++◌, inl, inr, subst, sym}
use Rattle.tt_devices.proofs.StreamLemmas.{Grows-append, Grows-same}
use Rattle.tt_devices.specs.Faults.{Rises}
use Rattle.tt_devices.specs.Streams.{Grows}
use Rattle.tt_devices.specs.declared.sink.Sink.{Ghosts as OfSink}
use Rattle.tt_session.specs.AnswerLaws.{GotSame}
use Rattle.tt_session.specs.Lines.{PutsLine, line_of}
use Rattle.tt_session.specs.Lines as lines
use Rattle.tt_session.specs.declared.status.Status.{Status}

-- the line of a call is put if its standard error met no failure
pub line-put : {E : Type 0} (errors : OfSink E) (before : ℕ) (status : Status) (more : List ℕ) (old new : E)
    → errors.fault_count old ≡ before → ¬ (Rises before (errors.fault_count new)) → PutsLine errors before status more old new
    → Grows (errors.got old) (errors.got new) (line_of status ++ more)
line-put {E = E} errors before status more old new was steady (lines.silent (inl none) same) =
    rw none (subst (λ (sink : E). Grows (errors.got old) (errors.got sink) []) (sym same) (Grows-same (errors.got old)))
line-put {E = E} errors before status more old new was steady (lines.silent (inr rises) same) =
    absurd (steady (subst (λ (sink : E). Rises before (errors.fault_count sink)) (sym same) rises))
line-put errors before status more old new was steady (lines.whole loud grew still) = grew
line-put errors before status more old new was steady (lines.part loud grew rises) =
    absurd (steady (subst (λ (n : ℕ). Rises n (errors.fault_count new)) was rises))

-- two answers with the same line, after the same bytes
pub got-same : {E : Type 0} (errors : OfSink E) (line last wrote : List ℕ) (old middle new before between after : E) → line ≡ last
    → Grows (errors.got old) (errors.got middle) wrote → Grows (errors.got before) (errors.got between) wrote
    → Grows (errors.got middle) (errors.got new) line → Grows (errors.got between) (errors.got after) last
    → GotSame (errors.got old) (errors.got new) (errors.got before) (errors.got after)
got-same errors line last wrote old middle new before between after same grew grows more most = record {
  bytes = wrote ++ line;
  grew = Grows-append (errors.got old) (errors.got middle) (errors.got new) wrote line grew more;
  grows = Grows-append (errors.got before) (errors.got between) (errors.got after) wrote line grows
      (subst (λ (bytes : List ℕ). Grows (errors.got between) (errors.got after) bytes) (sym same) most);
}
