use Rattle.std.proofs.Common.{◌≡◌, ◌∙◌, arith}
use Rattle.tt_waiting.proofs.WaitingLemmas.{all, more}
use Rattle.tt_waiting.proofs.report.all_waiting.Goals as goal

pub loop-before-preserved : goal.loop-before-preserved
loop-before-preserved g c =
    let pushed = c.in_ok-push_waiting.ensures.pushed in
    λ going. more g.S.Source.held c.args.system.now c.loop-before.before c.loop-before.waiting.items c.push_waiting.new.waiting.items pushed.0
    (c.loop-before.invariant going) pushed.1 (pushed.2 going)

pub returns : goal.returns
returns g c =
    let last : c.loop-before.before ≡ c.thread_count-count.result = omega arith in
    record {
      are = λ going. all g.S.Source.held c.args.system.now c.loop-before.before c.shared.result.now c.loop-before.waiting.items
          (c.loop-before.invariant going) (c.shared.ensures.shared going) (last ∙ c.thread_count-count.ensures.made);
    }
