use Rattle.std.proofs.Common.{rules, ◌≡◌, ◌+◌, refl}
use Rattle.tt_evaluation.specs.Frames.{plan_of}
use Rattle.tt_frames.specs.Frames.{after, on_got}
use Rattle.tt_frames.specs.Tcl.{plan}
use Rattle.tt_direct.proofs.Staying.{over, stays_at}
use Rattle.tt_direct.specs.Leading.{TclStack}
use Rattle.tt_direct.proofs.moves.begin_round.Goals as goal

pub returns : goal.returns
returns c =
    let old = c.args.stack.now in
    let middle : TclStack = record old { steps = c.in_ok-stack.field-0 } in
    let stack : TclStack = record middle { state = c.begin.new.state } in
    let spent : old.steps ≡ middle.steps + 1 = search rules in
    record {
      begun = λ kept. stays_at (plan c.args.job old.state) (plan_of after on_got c.in_ok-next.next stack.state) middle stack
          c.in_ok-next.ensures.begun refl refl (over kept c.args.job middle old refl spent refl);
    }
