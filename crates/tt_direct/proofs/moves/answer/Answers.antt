use Rattle.std.proofs.Common.{rules, ◌≡◌, ◌∙◌, ap, sym}
use Rattle.tt_evaluation.specs.Frames.{plan_of}
use Rattle.tt_evaluation.specs.Plans.{Asks}
use Rattle.tt_frames.specs.Frames.{after, on_got}
use Rattle.tt_frames.specs.declared.job.Asking.{Asking}
use Rattle.tt_direct.proofs.Remains.{given, remains_as}
use Rattle.tt_direct.proofs.moves.answer.Goals as goal

pub returns : goal.returns
returns c =
    let old = c.args.state.now in
    let got = c.in_ok-got.got in
    let same : c.in_ok-got.asking ≡ c.args.asking = search rules in
    remains_as (on_got c.args.asking got old) (plan_of after on_got c.in_ok-next.next c.take.new.state) (Asks c.args.want old (on_got c.args.asking))
    (ap (λ (a : Asking). on_got a got old) (sym same) ∙ c.in_ok-next.ensures.taken)
    (given c.args.want old (on_got c.args.asking) got c.get.new.kept c.args.kept.now c.in_ok-got.ensures.got)
