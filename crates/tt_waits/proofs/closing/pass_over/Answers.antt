use Rattle.std.proofs.Common.{ℕ, ◌+◌, ◌∙◌, ◌↔◌, ap, sym, subst}
use Rattle.tt_waits.specs.inside.Marks.{IsMarked}
use Rattle.tt_waits.proofs.Passing.{IsPassed, place_joined, place_passed}
use Rattle.tt_waits.proofs.closing.pass_over.Goals.{then-is_marked, else-is_marked}
use Rattle.tt_waits.proofs.closing.pass_over.Goals as goal

pub loop-place-preserved : goal.loop-place-preserved
loop-place-preserved c =
    let old = IsMarked c.args.rows.now in
    let now = IsMarked c.loop-place.rows in
    let stop = c.args.stop in
    let place = c.loop-place.place in
    record {
      same_count = elim c.if-is_marked.branch [
        | then-is_marked w ↦ ap (λ rows. rows.count) w.rows-is ∙ w.join.ensures.count ∙ c.loop-place.invariant.same_count
        | else-is_marked w ↦ ap (λ rows. rows.count) w.rows-is ∙ c.loop-place.invariant.same_count
      ];
      so_far = elim c.if-is_marked.branch [
        | then-is_marked w ↦
            subst (λ rows. (i j : ℕ) → IsMarked rows i j ↔ IsPassed old stop (place + 1) i j) (sym w.rows-is)
            (place_joined {old = old} {now = now} stop place c.loop-place.invariant.so_far (IsMarked w.join.new.self)
            (c.is_marked.ensures.0 w.if-is_marked.true) w.join.ensures.marks)
        | else-is_marked w ↦
            subst (λ rows. (i j : ℕ) → IsMarked rows i j ↔ IsPassed old stop (place + 1) i j) (sym w.rows-is)
            (place_passed {old = old} {now = now} stop place c.loop-place.invariant.so_far
            (λ mark. let marked = c.is_marked.ensures.1 mark in absurd (cc (marked, w.if-is_marked.false))))
      ];
    }
