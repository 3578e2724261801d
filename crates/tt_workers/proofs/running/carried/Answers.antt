use denote.Param.{param}
use Rattle.std.proofs.Common.{◌≡◌, ◌∙◌, ◌<◌, ℕ, zero, suc, List, [], ◌∷◌, length, None, Some, ap, arith, get_or, refl, replicate, rules, subst, sym}
use Rattle.tt_noted.specs.Passes.{note_of}
use Rattle.tt_noted.proofs.Callers.{all_fresh, all_with, all_written, fresh_at, one_note_each}
use Rattle.tt_workers.proofs.Crossing.{pass-send, state-send, worker-sync}
use Rattle.tt_workers.specs.inside.Workers.{IsNoted}
use Rattle.tt_workers.specs.inside.World.{IsTied}
use Rattle.tt_workers.proofs.running.carried.Goals as goal

-- within the list the default doesn't matter
any-default : {A : Type 0} (xs : List A) (i : ℕ) (a b : A) → i < length xs → get_or xs i a ≡ get_or xs i b
any-default [] i a b inside = absurd (omega arith)
any-default (x ∷ xs) zero a b inside = refl
any-default (x ∷ xs) (suc i) a b inside = any-default xs i a b (omega arith)

pub for_each_mut-requires-send-T : goal.for_each_mut-requires-send-T
for_each_mut-requires-send-T g c κs within =
    pass-send (param 1 g.row.S) (param 2 g.row.K) (param 3 g.row.E) g.S.Source g.K.Sink g.E.Sink _ c.type_bounds.send-S c.type_bounds.send-K
    c.type_bounds.send-E

pub for_each_mut-requires-sync-F : goal.for_each_mut-requires-sync-F
for_each_mut-requires-sync-F g c κs within = record {
  shared = (worker-sync (param 1 g.row.S) (param 2 g.row.K) (param 3 g.row.E) g.S.Source g.K.Sink g.E.Sink
      (param 0 g.row.R) (param 4 g.row.G) κs.1.1.1.1.1.1.0 κs.1.1.1.1.1.1.1.0 κs.1.1.1.1.1.1.1.1.0
      c.type_bounds.sync-R c.type_bounds.sync-G c.type_bounds.send-S c.type_bounds.send-K c.type_bounds.send-E).shared;
}

pub close-requires-send-T-State : goal.close-requires-send-T-State
close-requires-send-T-State g c κs within =
    state-send (param 1 g.row.S) (param 2 g.row.K) (param 3 g.row.E) g.S.Source g.K.Sink g.E.Sink _ c.type_bounds.send-S
    c.type_bounds.send-K c.type_bounds.send-E

pub for_each_mut-requires-clause-accepts : goal.for_each_mut-requires-clause-accepts
for_each_mut-requires-clause-accepts g c κs within i p inside at =
    let fresh = fresh_at c.args.lock c.args.workers _ _ _ c.requires.passes c.as_mut_slice.ensures.value i p.now inside at in (
      (fresh.of_lock, fresh.no_turn, subst (λ found. IsNoted (λ note. note.out ≡ None) found) (sym fresh.noted) c.requires.vacant),
      search rules,
    )

pub close-requires-clause-all : goal.close-requires-clause-all
close-requires-clause-all g c κs within =
    all_written c.args.lock _ _ _ _ (all_fresh c.args.lock c.args.workers _ _ c.requires.passes c.requires.count)
    c.as_mut_slice.ensures.value c.for_each_mut.auto.s c.args.passes.ok.0
    (λ i d inside. let did = (c.for_each_mut.ensures i d inside).1 in (did.argument.now, did.after_call.now, did.argument_is, did.left, did.call.0, did.call.1))

pub returns : goal.returns
returns g c =
    let all = all_written c.args.lock _ _ _ _ (all_fresh c.args.lock c.args.workers _ _ c.requires.passes c.requires.count)
    c.as_mut_slice.ensures.value c.for_each_mut.auto.s c.args.passes.ok.0
    (λ i d inside. let did = (c.for_each_mut.ensures i d inside).1 in
    (did.argument.now, did.after_call.now, did.argument_is, did.left, did.call.0, did.call.1)) in
    let noted = all_with c.args.lock (λ p. note_of p ≡ Some c.args.note.now) _ _ _ _ c.as_mut_slice.ensures.value c.for_each_mut.auto.s c.args.passes.ok.0
    (λ i d inside. let did = (c.for_each_mut.ensures i d inside).1 in
    let fresh =
    fresh_at c.args.lock c.args.workers _ _ _ c.requires.passes c.as_mut_slice.ensures.value i did.argument.now inside
    (did.argument_is ∙ any-default _ i d did.argument.now inside) in
    (did.after_call.now, did.left, did.call.2 ∙ fresh.noted)) in
    let f = c.close.ensures.fits in
    let same = one_note_each c.args.lock _ f.0 c.args.note.now all f.1 f.2 noted in
    record {
      tied = subst (λ notes. IsTied g.S.Source g.K.Sink g.E.Sink c.close.result.value notes) (same ∙ ap
          (λ n. replicate n c.args.note.now) c.requires.count) f.3;
    }
