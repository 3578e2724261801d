use Rattle.tt_words.specs.CodeValues.{plain_as_text}
use Rattle.tt_session.specs.Answer.{read}
use Rattle.tt_session.proofs.CloseLemmas.{not-generate, not-replay, unread-answer}
use Rattle.tt_session.proofs.FreelyLemmas.{plain-steps, plain-workers}
use Rattle.tt_session.proofs.on_workers.plain.Goals as goal

pub unreachable-requires : goal.unreachable-requires
unreachable-requires g c = not-replay _ c.requires.0 _ c.requires.1 (rw c.in-Ok-Replay.field-0-is at c.in-Ok-Replay.ensures.asked)

pub unreachable-requires-in-Ok-Generate : goal.unreachable-requires-in-Ok-Generate
unreachable-requires-in-Ok-Generate g c = not-generate _ c.requires.0 _ c.requires.1 (rw c.in-Ok-Generate.field-0-is at c.in-Ok-Generate.ensures.asked)

pub returns-in-Ok-Plain : goal.returns-in-Ok-Plain
returns-in-Ok-Plain g c = read _ (rw c.in-Ok-Plain.field-0-is at c.in-Ok-Plain.ensures.asked) c.start.ensures

pub start-requires-clause-workers : goal.start-requires-clause-workers
start-requires-clause-workers g c κs within = plain-workers _ (plain_as_text c.in-Ok-Plain.asked) (rw c.in-Ok-Plain.field-0-is at c.in-Ok-Plain.ensures.asked)

pub start-requires-clause-steps : goal.start-requires-clause-steps
start-requires-clause-steps g c κs within = plain-steps _ (plain_as_text c.in-Ok-Plain.asked) (rw c.in-Ok-Plain.field-0-is at c.in-Ok-Plain.ensures.asked)

pub returns-in-Err : goal.returns-in-Err
returns-in-Err g c =
    unread-answer g.F.Files g.S.Source g.K.Sink g.E.Sink _ c.in-Err.why _ _ _ c.in-Err.ensures.refused c.refuse.ensures.status
    c.refuse.ensures.no_step c.refuse.ensures.streams c.refuse.ensures.line
