use Rattle.std.proofs.Common.{◌≡◌, ◌∙◌, append_assoc, refl}
use Rattle.tt_generate.specs.Workload.{line_and_newline, job_line}
use Rattle.tt_generate.proofs.script.push_job.Goals as goal

pub returns : goal.returns
returns c =
    let line : c.as_bytes.result.now ≡ line_and_newline (job_line c.args.job) =
    c.as_bytes.ensures.value ∙ (c.in_ok-line.ensures.ok ∙ simp append_assoc refl) in
    rw line at c.push_bytes.ensures.pushed
