use Rattle.std.proofs.Common.{refl}
use Rattle.tt_session.specs.Recording.{failed, no_memory, written}
use Rattle.tt_session.proofs.recording.put_record.Goals as goal
use Rattle.tt_session.proofs.recording.put_record.Goals.{in-NoMemory, in_default-matches}

pub returns-in_default-print-clause-records : goal.returns-in_default-print-clause-records
returns-in_default-print-clause-records g c = rw c.in-Some.is (no_memory refl (record { same = refl; steady = refl }))

pub returns-in-Ok-write-clause-records : goal.returns-in-Ok-write-clause-records
returns-in-Ok-write-clause-records g c =
    rw c.in-Some.is (written
    (λ is. elim c.match-matches.branch
    [ in-NoMemory w ↦ absurd (cc (w.matches-is, c.if-matches.false)) | in_default-matches w ↦ w.in_default-matches.not-NoMemory is ])
    c.status-in-Ok-write.ensures
    (record {
      text = c.as_bytes.result.now;
      is_text = rw c.as_bytes.ensures.bytes c.in-Ok.ensures;
      found = c.in-Ok-write.ensures.written;
      steady = c.in-Ok-write.ensures.steady;
      others = c.in-Ok-write.ensures.others;
    }))

pub returns-clause-records : goal.returns-clause-records
returns-clause-records g c =
    rw c.in-Some.is (failed
    (λ is. elim c.match-matches.branch
    [ in-NoMemory w ↦ absurd (cc (w.matches-is, c.if-matches.false)) | in_default-matches w ↦ w.in_default-matches.not-NoMemory is ])
    refl (record { rises = c.in-Err.ensures.cause; others = c.in-Err.ensures.others }))
