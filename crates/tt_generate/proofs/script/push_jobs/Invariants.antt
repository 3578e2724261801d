use Rattle.std.proofs.Common.{◌≡◌, ◌++◌, ◌*◌, ◌-◌}
use Rattle.rand_core.specs.Steps.{first_words}
use Rattle.rand_pcg.specs.Pcg.{pcg32}
use Rattle.tt_generate.specs.inside.JobLines.{job_lines}
use Rattle.tt_generate.proofs.script.push_jobs.Given as goal

-- the lines so far and those that are left are all the lines
abbrev pub invariant-loop : goal.invariant-loop
invariant-loop l =
    l.text ++ job_lines (first_words pcg32 (2 * (l.size - l.counter)) l.generator)
    ≡ l.initial.text ++ job_lines (first_words pcg32 (2 * l.size) l.initial.generator)
