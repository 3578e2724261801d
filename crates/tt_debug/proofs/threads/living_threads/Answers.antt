use Rattle.std.proofs.Common.{◌≡◌, ◌∙◌, arith, length}
use Rattle.tt_debug.proofs.ThreadLemmas.{all-lines, more-lines}
use Rattle.tt_debug.proofs.threads.living_threads.Goals as goal

pub loop-before-preserved : goal.loop-before-preserved
loop-before-preserved g c =
    let pushed = c.in_ok-push_thread.ensures.pushed in
    more-lines g.S.Source.held c.args.system.now c.loop-before.before c.loop-before.text c.push_thread.new.text pushed.0
    c.loop-before.invariant pushed.1 pushed.2

pub returns : goal.returns
returns g c =
    let last : c.loop-before.before ≡ c.thread_count-count.result = omega arith in
    record {
      threads = all-lines g.S.Source.held c.args.system.now c.loop-before.before c.shared.result.now c.loop-before.text
          c.loop-before.invariant (c.shared.ensures.shared c.requires.going) (last ∙ c.thread_count-count.ensures.made) c.requires.not_over;
    }
