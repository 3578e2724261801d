use Rattle.std.proofs.Common.{◌+◌, ◌∙◌, ap, List, ℕ}
use Rattle.tt_schedule.specs.inside.Runs.{end_of, LastDiffers}
use Rattle.tt_schedule.specs.declared.run.Run.{Run}
use Rattle.tt_schedule.proofs.RunLemmas.{adds-same, adds-other, last-more, AddsStep}
use Rattle.tt_schedule.proofs.run.add_step.Goals as goal

same : (c : goal.After-put) → AddsStep c.args.runs.now.items c.put.new.runs.items c.args.thread
same c =
    let end = ap (λ (n : ℕ). n + 1) (c.step_count-end.ensures ∙ ap (λ (runs : List Run). end_of 0 runs) c.deref.ensures.value) in
    rw c.put.ensures.added
    (adds-same c.args.runs.now.items c.pop.new.self.items c.in-Some.last c.args.thread _ c.in-Some.ensures.items c.requires.runs c.requires.thread end c.requires.few c.if-last-thread.true)

pub returns-in-Some-clause-runs : goal.returns-in-Some-clause-runs
returns-in-Some-clause-runs c = (same c).runs

pub returns-in-Some-clause-steps : goal.returns-in-Some-clause-steps
returns-in-Some-clause-steps c = (same c).steps

other : (c : goal.After-put-in-Some-2-2) → AddsStep c.args.runs.now.items c.put-in-Some-2-2.new.runs.items c.args.thread
other c =
    let end = ap (λ (n : ℕ). n + 1) (c.step_count-end.ensures ∙ ap (λ (runs : List Run). end_of 0 runs) c.deref.ensures.value) in
    let differs : LastDiffers c.args.runs.now.items c.args.thread =
    rw c.in-Some.ensures.items (last-more c.pop.new.self.items c.in-Some.last c.args.thread c.if-last-thread.false) in
    rw (c.put-in-Some-2-2.ensures.added, c.put-in-Some-2.ensures.added, ← c.in-Some.ensures.items)
    (adds-other c.args.runs.now.items c.args.thread _ c.requires.runs c.requires.thread end c.requires.few differs)

pub returns-in-Some-2-clause-runs : goal.returns-in-Some-2-clause-runs
returns-in-Some-2-clause-runs c = (other c).runs

pub returns-in-Some-2-clause-steps : goal.returns-in-Some-2-clause-steps
returns-in-Some-2-clause-steps c = (other c).steps
