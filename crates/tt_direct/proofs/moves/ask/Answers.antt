use Rattle.std.proofs.Common.{rules, refl}
use Rattle.tt_evaluation.specs.Frames.{plan_of}
use Rattle.tt_evaluation.specs.Plans.{Asks}
use Rattle.tt_frames.specs.Frames.{after, on_got}
use Rattle.tt_direct.proofs.Staying.{comes_now, same_plan, settled}
use Rattle.tt_direct.specs.Leading.{TclStack}
use Rattle.tt_direct.proofs.moves.ask.Goals as goal

pub returns-then-is_request : goal.returns-then-is_request
returns-then-is_request c =
    let old = c.args.stack.now in
    let whole = Asks c.args.want old.state (on_got c.args.asking) in
    record {
      asked = comes_now c.in_ok-came.came whole old (search rules) (c.in_ok-came.ensures.moves old.state)
          (same_plan c.args.kept.now whole whole old old refl refl refl);
    }

pub returns : goal.returns
returns c =
    let old = c.args.stack.now in
    let stack : TclStack = record old { state = c.answer.new.state } in
    record {
      asked = settled (plan_of after on_got c.in_ok-next.next stack.state) (Asks c.args.want old.state (on_got c.args.asking)) stack old
          c.in_ok-next.ensures refl refl;
    }
