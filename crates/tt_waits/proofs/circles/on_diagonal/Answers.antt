use Rattle.std.proofs.Common.{◌+◌, ◌∙◌, ap, sym, subst, arith}
use Rattle.tt_waits.specs.inside.Places.{AreOnDiagonal}
use Rattle.tt_waits.proofs.circles.on_diagonal.Goals.{then-is_marked+in_ok-push, else-is_marked}
use Rattle.tt_waits.proofs.Walking.{one_found, none_found}
use Rattle.tt_waits.proofs.circles.on_diagonal.Goals as goal

pub loop-place-preserved : goal.loop-place-preserved
loop-place-preserved c =
    let threads = c.args.threads.now in
    let rows = c.args.rows.now in
    let place = c.loop-place.place in
    elim c.if-is_marked.branch [
      | then-is_marked+in_ok-push w ↦
          subst (λ items. AreOnDiagonal threads rows (place + 1) items) (sym (ap (λ v. v.items) w.found-is ∙ w.in_ok-push.ensures.items))
          (one_found threads rows place c.loop-place.found.items c.loop-place.invariant c.requires.ascending
          (omega (arith, c.loop-place-test.true, c.requires.count)) (c.is_marked.ensures.0 w.if-is_marked.true))
      | else-is_marked w ↦
          subst (λ items. AreOnDiagonal threads rows (place + 1) items) (sym (ap (λ v. v.items) w.found-is))
          (none_found threads rows place c.loop-place.found.items c.loop-place.invariant
          (λ mark. let marked = c.is_marked.ensures.1 mark in absurd (cc (marked, w.if-is_marked.false))))
    ]
