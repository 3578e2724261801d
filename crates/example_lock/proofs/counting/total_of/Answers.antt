use Rattle.std.proofs.Common.{◌≡◌, Some, sum, replicate, ap, ◌∙◌, arith}
use Rattle.tt_noted.specs.Passes.{note_of}
use Rattle.tt_noted.proofs.Callers.{all_fresh, fresh_at, all_written, all_with, one_note_each}
use Rattle.example_lock.proofs.Counts.{sum_replicate}
use Rattle.example_lock.proofs.counting.total_of.Goals as goal

pub for_each_mut-requires-clause-accepts : goal.for_each_mut-requires-clause-accepts
for_each_mut-requires-clause-accepts g c κs within i p inside at =
    let fresh = fresh_at c.in-Ok.lock c.args.threads _ _ _ c.in-Ok.ensures.passes c.as_mut_slice.ensures.value i p.now inside at in
    let count = c.in-Ok.ensures.count in (fresh.of_lock, fresh.no_turn, omega (arith, c.requires.1), fresh.noted)

pub close-requires-clause-all : goal.close-requires-clause-all
close-requires-clause-all g c κs =
    all_written c.in-Ok.lock _ _ _ _
    (all_fresh c.in-Ok.lock c.args.threads _ _ c.in-Ok.ensures.passes c.in-Ok.ensures.count) c.as_mut_slice.ensures.value c.for_each_mut.auto.s c.in-Ok.passes.ok.0
    (λ i d inside. let did = (c.for_each_mut.ensures i d inside).1 in (did.argument.now, did.after_call.now, did.argument_is, did.left, did.call.0, did.call.1))

pub returns : goal.returns
returns g c =
    let all = all_written c.in-Ok.lock _ _ _ _
    (all_fresh c.in-Ok.lock c.args.threads _ _ c.in-Ok.ensures.passes c.in-Ok.ensures.count) c.as_mut_slice.ensures.value c.for_each_mut.auto.s c.in-Ok.passes.ok.0
    (λ i d inside. let did = (c.for_each_mut.ensures i d inside).1 in (did.argument.now, did.after_call.now, did.argument_is, did.left, did.call.0, did.call.1)) in
    let noted = all_with c.in-Ok.lock (λ p. note_of p ≡ Some c.args.rounds) _ _ _ _ c.as_mut_slice.ensures.value c.for_each_mut.auto.s c.in-Ok.passes.ok.0
    (λ i d inside. let did = (c.for_each_mut.ensures i d inside).1 in (did.after_call.now, did.left, did.call.2)) in
    let f = c.close.ensures.fits in
    let same = one_note_each c.in-Ok.lock _ f.0 c.args.rounds all f.1 f.2 noted in
    record { total = f.3.0 ∙ ap sum (same ∙ ap (λ n. replicate n c.args.rounds) c.in-Ok.ensures.count) ∙ sum_replicate c.args.threads c.args.rounds }
