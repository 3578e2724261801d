use Rattle.std.proofs.Common.{rules, ◌≡◌, ◌+◌, refl}
use Rattle.tt_evaluation.specs.Plans.{Goes}
use Rattle.tt_frames.specs.declared.job.Job.TheVariants as job
use Rattle.tt_direct.proofs.Turning.{turned_goes, turned_over}
use Rattle.tt_direct.specs.Leading.{TclStack}
use Rattle.tt_direct.proofs.loops.pass_over.Goals as goal

pub returns-in_ok-stack-in-Goes : goal.returns-in_ok-stack-in-Goes
returns-in_ok-stack-in-Goes c =
    let old = c.args.stack.now in
    let stack : TclStack = record old { steps = c.in_ok-stack-in-Goes.field-0 } in
    let spent : old.steps ≡ stack.steps + 1 = search rules in
    record {
      over = λ kept held whole all before on.
          turned_over whole stack old refl spent refl (turned_goes kept held all old before c.args.turned (Goes (job.Loop whole)) c.in-Goes.is on);
    }
