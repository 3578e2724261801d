use Rattle.std.proofs.Common.{◌≡◌, ◌+◌, ◌-◌, ◌/◌, arith, sym}
use Rattle.tt_schedule.specs.declared.run.Run.{Run}
use Rattle.tt_schedule.proofs.PlaceLemmas.{around-all, around-after, step-at, thread-range}
use Rattle.tt_schedule.proofs.run.thread_at.Goals as goal

pub loop-low-init : goal.loop-low-init
loop-low-init c = around-all c.args.runs.now c.args.place c.requires.within

pub loop-low-preserved-then-runs-middle : goal.loop-low-preserved-then-runs-middle
loop-low-preserved-then-runs-middle c =
    let middle = c.loop-low.low + (c.loop-low.high - c.loop-low.low) / 2 in
    around-after c.args.runs.now c.args.place c.loop-low.low middle c.loop-low.high _ c.requires.runs c.loop-low.invariant (omega arith)
    (omega arith) c.if-runs-middle.true

pub returns-clause-thread : goal.returns-clause-thread
returns-clause-thread c =
    let d : Run = record { thread = 0; end = 0 } in
    let around = c.loop-low.invariant in
    let order = around.order in
    let same : c.loop-low.high ≡ c.loop-low.low = omega arith in
    let within = rw same at around.within in
    let after = rw same at (around.after d) in
    let at = step-at 0 c.args.runs.now c.loop-low.low c.args.place d c.requires.runs (omega arith) within after (λ k less. around.before k d less) in
    let place : c.args.place - 0 ≡ c.args.place = omega arith in
    sym (rw place at at)

pub returns-clause-range : goal.returns-clause-range
returns-clause-range c =
    let around = c.loop-low.invariant in
    let order = around.order in
    let within = around.within in
    thread-range 0 c.args.runs.now c.loop-low.low (record { thread = 0; end = 0 }) c.requires.runs (omega arith)
