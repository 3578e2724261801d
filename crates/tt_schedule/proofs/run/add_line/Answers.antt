use Rattle.std.proofs.Common.{◌+◌, ◌∙◌, ap, List, ℕ}
use Rattle.tt_schedule.specs.inside.Runs.{end_of}
use Rattle.tt_schedule.specs.declared.run.Run.{Run}
use Rattle.tt_schedule.proofs.RunLemmas.{adds-line, adds-runs}
use Rattle.tt_schedule.proofs.run.add_line.Goals as goal

pub returns-clause-runs : goal.returns-clause-runs
returns-clause-runs c =
    let end = ap (λ (n : ℕ). n + c.args.line.steps) (c.step_count.ensures ∙ ap (λ (runs : List Run). end_of 0 runs) c.deref.ensures.value) in
    rw c.in_ok-push.ensures.items (adds-runs c.args.runs.now.items c.args.line _ c.requires.runs c.requires.line c.requires.differs c.requires.few end)

pub returns-clause-lines : goal.returns-clause-lines
returns-clause-lines c =
    let end = ap (λ (n : ℕ). n + c.args.line.steps) (c.step_count.ensures ∙ ap (λ (runs : List Run). end_of 0 runs) c.deref.ensures.value) in
    rw c.in_ok-push.ensures.items (adds-line c.args.runs.now.items c.args.line _ end)
