use Rattle.tt_generate.specs.Workload.{jobs}
use Rattle.tt_generate.proofs.JobLemmas.{pieces}
use Rattle.tt_generate.proofs.script.workload.Goals as goal

pub returns : goal.returns
returns c =
    record {
      made =
          rw (
            c.in_ok-push_count.ensures,
            c.in_ok-push_bytes.ensures.pushed,
            c.in_ok-push_jobs.ensures,
            c.in_ok-text.ensures.made,
            c.seed_from_u64-generator.ensures,
          )
          (pieces (jobs c.args.number c.args.size) c.args.size);
    }
