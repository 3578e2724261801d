use Rattle.tt_session.specs.Answer.{read}
use Rattle.tt_session.proofs.CloseLemmas.{no-plain, not-generate, not-replay, unread-answer, usage-answer}
use Rattle.tt_session.proofs.without_workers.alone.Goals as goal

pub returns-in-Err-clause-answer : goal.returns-in-Err-clause-answer
returns-in-Err-clause-answer g c =
    unread-answer g.F.Files g.S.Source g.K.Sink g.E.Sink _ c.in-Err.why _ _ _ c.in-Err.ensures.refused c.refuse.ensures.status
    c.refuse.ensures.no_step c.refuse.ensures.streams c.refuse.ensures.line

pub returns-in-Err-clause-usage : goal.returns-in-Err-clause-usage
returns-in-Err-clause-usage g c =
    usage-answer g.F.Files g.S.Source g.K.Sink g.E.Sink _ c.args.files.now c.args.files.now
    (record { input = c.args.input; output = c.args.output; errors = c.args.errors }) c.refuse.result
    (unread-answer g.F.Files g.S.Source g.K.Sink g.E.Sink _ c.in-Err.why c.args.files.now
    (record { input = c.args.input; output = c.args.output; errors = c.args.errors }) c.refuse.result c.in-Err.ensures.refused
    c.refuse.ensures.status c.refuse.ensures.no_step c.refuse.ensures.streams c.refuse.ensures.line)

pub returns-in-Err-clause-not_plain : goal.returns-in-Err-clause-not_plain
returns-in-Err-clause-not_plain g c = no-plain c.in-Err.why _ _ c.in-Err.ensures.refused c.refuse.ensures.status

pub returns-in-Ok-Replay-clause-answer : goal.returns-in-Ok-Replay-clause-answer
returns-in-Ok-Replay-clause-answer g c = read _ (rw c.in-Ok-Replay.field-0-is at c.in-Ok-Replay.ensures.asked) c.replay-ended.ensures

pub returns-in-Ok-Replay-clause-usage : goal.returns-in-Ok-Replay-clause-usage
returns-in-Ok-Replay-clause-usage g c =
    usage-answer g.F.Files g.S.Source g.K.Sink g.E.Sink _ _ _ _ _ (read _ (rw c.in-Ok-Replay.field-0-is at c.in-Ok-Replay.ensures.asked) c.replay-ended.ensures)

pub returns-in-Ok-Replay-clause-not_plain : goal.returns-in-Ok-Replay-clause-not_plain
returns-in-Ok-Replay-clause-not_plain g c = λ some named reads. not-replay _ named _ reads (rw c.in-Ok-Replay.field-0-is at c.in-Ok-Replay.ensures.asked)

pub returns-clause-answer : goal.returns-clause-answer
returns-clause-answer g c = read _ (rw c.in-Ok-Generate.field-0-is at c.in-Ok-Generate.ensures.asked) c.generate-ended.ensures

pub returns-clause-usage : goal.returns-clause-usage
returns-clause-usage g c =
    usage-answer g.F.Files g.S.Source g.K.Sink g.E.Sink _ _ _ _ _
    (read _ (rw c.in-Ok-Generate.field-0-is at c.in-Ok-Generate.ensures.asked) c.generate-ended.ensures)

pub returns-clause-not_plain : goal.returns-clause-not_plain
returns-clause-not_plain g c = λ some named reads. not-generate _ named _ reads (rw c.in-Ok-Generate.field-0-is at c.in-Ok-Generate.ensures.asked)
