use Rattle.std.proofs.Common.{◌≡◌, ◌++◌, ◌-◌, ◌+◌, suc, ◌∙◌, append_assoc, append-nil, arith, sym, ap}
use Rattle.tt_generate.proofs.JobLemmas.{lines_more, lines_none}
use Rattle.tt_generate.proofs.script.push_jobs.Goals as goal

pub loop-preserved : goal.loop-preserved
loop-preserved c =
    let one_less : c.args.size - c.loop.counter ≡ suc (c.args.size - (c.loop.counter + 1)) = omega arith in
    let more = lines_more (c.args.size - c.loop.counter) (c.args.size - (c.loop.counter + 1)) c.loop.generator one_less in
    rw (c.in_ok-push_job.ensures, c.next_job-job.ensures.job, c.next_job-job.ensures.rest, append_assoc, ← more)
    c.loop.invariant

pub returns : goal.returns
returns c =
    let none : c.args.size - c.loop.counter ≡ 0 = omega arith in
    let no_lines = lines_none (c.args.size - c.loop.counter) c.loop.generator none in
    sym (append-nil c.loop.text) ∙ (ap (λ rest. c.loop.text ++ rest) (sym no_lines) ∙ c.loop.invariant)
