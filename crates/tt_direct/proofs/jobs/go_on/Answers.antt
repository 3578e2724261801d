use Rattle.std.proofs.Common.{rules, ◌≡◌, ◌∙◌, refl, ap}
use Rattle.tt_code.specs.Needs.{Needs}
use Rattle.tt_code.specs.Running.{needs, with_value}
use Rattle.tt_evaluation.specs.Frames.{plan_of}
use Rattle.tt_evaluation.specs.declared.language.Move.TheVariants.{Done}
use Rattle.tt_frames.specs.Expressions.{needs_then}
use Rattle.tt_frames.specs.Frames.{after, command_ended, command_given, on_got}
use Rattle.tt_frames.specs.declared.job.Frame.{Frame}
use Rattle.tt_outcomes.specs.declared.ending.Ending.{Ending}
use Rattle.tt_frames.specs.declared.job.Frame.TheVariants as frames
use Rattle.tt_direct.proofs.Staying.{lands_at, same_next}
use Rattle.tt_direct.specs.Leading.{TclStack}
use Rattle.tt_direct.proofs.jobs.go_on.Goals as goal

pub returns-in_ok-came-in-Needs : goal.returns-in_ok-came-in-Needs
returns-in_ok-came-in-Needs c =
    let old = c.args.stack.now in
    record {
      goes_on = lands_at c.after_need.new.kept c.args.kept.now c.in_ok-came-in-Needs.came c.into_next.result (after c.args.frame c.args.ending)
          (command_given c.in-Needs.command c.args.ending old.state) c.after_need.new.stack old c.into_next.ensures.next
          (ap (λ (f : Frame). after f c.args.ending old.state) c.in-Needs.is) c.in_ok-came-in-Needs.ensures;
    }

pub returns-in_ok-came-in-Does : goal.returns-in_ok-came-in-Does
returns-in_ok-came-in-Does c =
    let old = c.args.stack.now in
    record {
      goes_on = lands_at c.after_command.new.kept c.args.kept.now c.in_ok-came-in-Does.came c.into_next-in-Does.result (after c.args.frame c.args.ending)
          (command_ended c.in-Does.command c.args.ending old.state) c.after_command.new.stack old c.into_next-in-Does.ensures.next
          (ap (λ (f : Frame). after f c.args.ending old.state) c.in-Does.is) c.in_ok-came-in-Does.ensures;
    }

pub returns-in_ok-came-in-Fine : goal.returns-in_ok-came-in-Fine
returns-in_ok-came-in-Fine c =
    let old = c.args.stack.now in
    let purpose = c.in-Expression.purpose in
    let code = c.in-Expression.code in
    let given : with_value code c.in-Fine.value ≡ needs c.give.new.self = search rules in
    record {
      goes_on = lands_at c.compute.new.kept c.args.kept.now c.in_ok-came-in-Fine.came c.into_next-in-Fine.result (after c.args.frame c.args.ending)
          (needs_then purpose (needs c.give.new.self) old.state) c.compute.new.stack old c.into_next-in-Fine.ensures.next
          (ap (λ (f : Frame). after f c.args.ending old.state) c.in-Expression.is
          ∙ ap (λ (e : Ending). after (frames.Expression purpose code) e old.state) c.in-Fine.is
          ∙ ap (λ (n : Needs). needs_then purpose n old.state) given) c.in_ok-came-in-Fine.ensures.runs;
    }

pub returns-in_default-ending : goal.returns-in_default-ending
returns-in_default-ending c =
    let old = c.args.stack.now in
    record {
      goes_on = same_next c.args.kept.now (plan_of after on_got (Done c.args.ending)) (after c.args.frame c.args.ending) old old (search rules) refl refl;
    }

pub returns-in_ok-next-in_default : goal.returns-in_ok-next-in_default
returns-in_ok-next-in_default c =
    let old = c.args.stack.now in
    let stack : TclStack = record old { state = c.go_on.new.state } in
    record {
      goes_on = same_next c.args.kept.now (plan_of after on_got c.in_ok-next-in_default.next) (after c.args.frame c.args.ending) stack old
          c.in_ok-next-in_default.ensures.gone_on refl refl;
    }
