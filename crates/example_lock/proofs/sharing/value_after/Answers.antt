use Rattle.tt_noted.proofs.Callers.{all_fresh, fresh_at, all_written}
use Rattle.example_lock.proofs.sharing.value_after.Goals as goal

pub for_each_mut-requires-clause-accepts : goal.for_each_mut-requires-clause-accepts
for_each_mut-requires-clause-accepts g c κs within i p inside at =
    let fresh = fresh_at c.in_ok-lock.lock c.args.threads _ _ _ c.in_ok-lock.ensures.passes c.as_mut_slice.ensures.value i p.now inside at in
    (fresh.of_lock, fresh.no_turn)

pub close-requires-clause-all : goal.close-requires-clause-all
close-requires-clause-all g c κs within =
    all_written c.in_ok-lock.lock _ _ _ _
    (all_fresh c.in_ok-lock.lock c.args.threads _ _ c.in_ok-lock.ensures.passes c.in_ok-lock.ensures.count) c.as_mut_slice.ensures.value c.for_each_mut.auto.s c.in_ok-lock.passes.ok.0
    (λ i d inside. let did = (c.for_each_mut.ensures i d inside).1 in (did.argument.now, did.after_call.now, did.argument_is, did.left, did.call.0, did.call.1))
