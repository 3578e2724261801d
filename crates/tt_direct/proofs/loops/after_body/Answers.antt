use Rattle.std.proofs.Common.{rules, ◌≡◌, ap}
use Rattle.tt_frames.specs.Loops.{following}
use Rattle.tt_frames.specs.declared.job.Frame.TheVariants as frames
use Rattle.tt_frames.specs.declared.job.Loop.{Loop}
use Rattle.tt_direct.proofs.Staying.{called_ends, called_fine, called_moves_as}
use Rattle.tt_direct.specs.inside.Loops.{loop_of}
use Rattle.tt_direct.specs.declared.came.Came.TheVariants as came
use Rattle.tt_direct.proofs.loops.after_body.Goals as goal

pub returns-in-Fine : goal.returns-in-Fine
returns-in-Fine c =
    let loop = loop_of c.args.parts.now in
    record {
      done = λ kept held whole before here on.
          called_fine kept held whole c.args.stack.now before c.args.came (frames.LoopBody loop) c.in-Fine.field-0 c.in-Fine.is on;
    }

pub returns-in-Ends : goal.returns-in-Ends
returns-in-Ends c =
    let loop = loop_of c.args.parts.now in
    let old = c.args.stack.now in
    let ending = c.into_inner.result in
    let ends : c.args.came ≡ came.Ends ending = search rules in
    record {
      done = λ kept held whole before here on.
          c.in_ok-turned-in-Ends.ensures (following loop) kept held whole old before
          (called_ends kept held whole old before c.args.came (frames.LoopBody loop) ending ends on).1;
    }

pub returns : goal.returns
returns c =
    let loop = loop_of c.args.parts.now in
    let made : Loop = c.in_ok-whole-in-Moves.field-0 in
    let same : loop ≡ made = search rules in
    record {
      done = λ kept held whole before here on.
          c.in_ok-came-in-Moves.ensures.left kept held whole before here
          (called_moves_as kept held whole c.args.stack.now before c.args.came (frames.LoopBody loop) (frames.LoopBody made) c.in-Moves.next
          (ap frames.LoopBody same) c.in-Moves.is on);
    }
