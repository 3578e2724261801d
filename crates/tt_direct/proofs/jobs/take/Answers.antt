use Rattle.std.proofs.Common.{refl, sym, ap}
use Rattle.tt_evaluation.specs.Frames.{plan_of}
use Rattle.tt_frames.specs.Frames.{after, command_ended, command_needs, on_got}
use Rattle.tt_frames.specs.Scripts.{command_then}
use Rattle.tt_frames.specs.Vocabulary.{ending_of}
use Rattle.tt_frames.specs.declared.job.Asking.{Asking}
use Rattle.tt_direct.proofs.Staying.{lands_at, leads_of, same_next}
use Rattle.tt_direct.specs.Leading.{TclStack}
use Rattle.tt_direct.proofs.jobs.take.Goals as goal

pub returns-in_ok-next-in-Wanted : goal.returns-in_ok-next-in-Wanted
returns-in_ok-next-in-Wanted c =
    let old = c.args.stack.now in
    record {
      goes_on = leads_of c.after_value.new.kept c.args.kept.now (plan_of after on_got c.in_ok-next-in-Wanted.next)
          (after c.in-Wanted.frame (ending_of c.args.got)) (on_got c.args.asking c.args.got) c.after_value.new.stack old
          (sym (ap (λ (a : Asking). on_got a c.args.got old.state) c.in-Wanted.is)) c.in_ok-next-in-Wanted.ensures;
    }

pub returns-in_ok-came-in-Runs : goal.returns-in_ok-came-in-Runs
returns-in_ok-came-in-Runs c =
    let old = c.args.stack.now in
    record {
      goes_on = lands_at c.after_words.new.kept c.args.kept.now c.in_ok-came-in-Runs.came c.into_next.result (on_got c.args.asking c.args.got)
          (command_then (command_ended c.in-Runs.command) c.args.got old.state) c.after_words.new.stack old c.into_next.ensures.next
          (ap (λ (a : Asking). on_got a c.args.got old.state) c.in-Runs.is) c.in_ok-came-in-Runs.ensures;
    }

pub returns-in_ok-next-in-Paused : goal.returns-in_ok-next-in-Paused
returns-in_ok-next-in-Paused c =
    let old = c.args.stack.now in
    record {
      goes_on = leads_of c.after_reply.new.kept c.args.kept.now (plan_of after on_got c.in_ok-next-in-Paused.next)
          (command_needs c.in-Paused.command) (on_got c.args.asking c.args.got) c.after_reply.new.stack old
          (sym (ap (λ (a : Asking). on_got a c.args.got old.state) c.in-Paused.is)) c.in_ok-next-in-Paused.ensures;
    }

pub returns-in_ok-next-in_default : goal.returns-in_ok-next-in_default
returns-in_ok-next-in_default c =
    let old = c.args.stack.now in
    let stack : TclStack = record old { state = c.take.new.state } in
    record {
      goes_on = same_next c.args.kept.now (plan_of after on_got c.in_ok-next-in_default.next) (on_got c.args.asking c.args.got) stack old
          c.in_ok-next-in_default.ensures.taken refl refl;
    }
