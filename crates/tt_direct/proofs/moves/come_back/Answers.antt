use Rattle.std.proofs.Common.{rules, ◌≡◌, refl}
use Rattle.tt_evaluation.specs.Frames.{plan_of}
use Rattle.tt_frames.specs.Frames.{after, on_got}
use Rattle.tt_outcomes.specs.declared.ending.Ending.TheVariants.{Fine}
use Rattle.tt_direct.proofs.Staying.{called_ends, called_fine, called_moves, stays_at}
use Rattle.tt_direct.specs.Leading.{TclStack}
use Rattle.tt_direct.specs.declared.came.Came.TheVariants as came
use Rattle.tt_direct.proofs.moves.come_back.Goals as goal

pub returns-in_ok-next-in-Fine : goal.returns-in_ok-next-in-Fine
returns-in_ok-next-in-Fine c =
    let old = c.args.stack.now in
    let stack : TclStack = record old { state = c.go_on.new.state } in
    record {
      came_back = λ kept held whole before here on.
          stays_at (after c.args.frame (Fine c.in-Fine.value) old.state) (plan_of after on_got c.in_ok-next-in-Fine.next stack.state) old stack
          c.in_ok-next-in-Fine.ensures.gone_on refl refl
          (called_fine kept held whole old before c.args.came c.args.frame c.in-Fine.value c.in-Fine.is on);
    }

pub returns-in_ok-next-in-Ends : goal.returns-in_ok-next-in-Ends
returns-in_ok-next-in-Ends c =
    let old = c.args.stack.now in
    let stack : TclStack = record old { state = c.go_on-in-Ends.new.state } in
    let ending = c.into_inner.result in
    let ends : c.args.came ≡ came.Ends ending = search rules in
    record {
      came_back = λ kept held whole before here on.
          stays_at (after c.args.frame ending old.state) (plan_of after on_got c.in_ok-next-in-Ends.next stack.state) old stack
          c.in_ok-next-in-Ends.ensures.gone_on refl refl
          (called_ends kept held whole old before c.args.came c.args.frame ending ends on).1;
    }

pub returns-in_ok-came-in-Moves : goal.returns-in_ok-came-in-Moves
returns-in_ok-came-in-Moves c =
    record {
      came_back = λ kept held whole before here on.
          c.in_ok-came-in-Moves.ensures.left kept held whole before here
          (called_moves kept held whole c.args.stack.now before c.args.came c.args.frame c.in-Moves.next c.in-Moves.is on);
    }
