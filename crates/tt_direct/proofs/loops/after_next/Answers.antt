use Rattle.std.proofs.Common.{rules, ◌≡◌, ap}
use Rattle.tt_evaluation.specs.Plans.{Goes}
use Rattle.tt_frames.specs.declared.job.Frame.TheVariants as frames
use Rattle.tt_frames.specs.declared.job.Job.TheVariants as job
use Rattle.tt_frames.specs.declared.job.Loop.{Loop}
use Rattle.tt_direct.proofs.Staying.{called_ends, called_fine, called_moves_as}
use Rattle.tt_direct.specs.inside.Loops.{loop_of}
use Rattle.tt_direct.specs.declared.came.Came.TheVariants as came
use Rattle.tt_direct.proofs.loops.after_next.Goals as goal

pub returns-in-Fine : goal.returns-in-Fine
returns-in-Fine c =
    let loop = loop_of c.args.parts.now in
    record {
      done = λ kept held whole before here on.
          called_fine kept held whole c.args.stack.now before c.args.came (frames.LoopNext loop) c.in-Fine.field-0 c.in-Fine.is on;
    }

pub returns-in-Ends : goal.returns-in-Ends
returns-in-Ends c =
    let loop = loop_of c.args.parts.now in
    let old = c.args.stack.now in
    let ending = c.into_inner.result in
    let ends : c.args.came ≡ came.Ends ending = search rules in
    record {
      done = λ kept held whole before here on.
          c.in_ok-turned-in-Ends.ensures (Goes (job.Loop loop)) kept held whole old before
          (called_ends kept held whole old before c.args.came (frames.LoopNext loop) ending ends on).1;
    }

pub returns : goal.returns
returns c =
    let loop = loop_of c.args.parts.now in
    let made : Loop = c.in_ok-whole-in-Moves.field-0 in
    let same : loop ≡ made = search rules in
    record {
      done = λ kept held whole before here on.
          c.in_ok-came-in-Moves.ensures.left kept held whole before here
          (called_moves_as kept held whole c.args.stack.now before c.args.came (frames.LoopNext loop) (frames.LoopNext made) c.in-Moves.next
          (ap frames.LoopNext same) c.in-Moves.is on);
    }
