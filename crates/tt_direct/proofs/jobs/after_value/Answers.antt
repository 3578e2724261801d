use Rattle.std.proofs.Common.{ap}
use Rattle.tt_evaluation.specs.Frames.{plan_of}
use Rattle.tt_frames.specs.Frames.{after, on_got}
use Rattle.tt_frames.specs.Vocabulary.{ending_of}
use Rattle.tt_outcomes.specs.declared.ending.Ending.{Ending}
use Rattle.tt_direct.proofs.Staying.{leads_of}
use Rattle.tt_direct.proofs.jobs.after_value.Goals as goal

pub returns : goal.returns
returns c =
    let old = c.args.stack.now in
    let frame = c.args.frame in
    leads_of c.go_on.new.kept c.args.kept.now (plan_of after on_got c.in_ok-next.next) (after frame c.in_ok-ending.ending)
    (after frame (ending_of c.args.got)) c.go_on.new.stack old
    (ap (λ (e : Ending). after frame e old.state) c.in_ok-ending.ensures.ending) c.in_ok-next.ensures.goes_on
