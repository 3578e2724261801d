-- The lines of jobs by themselves.
use Rattle.std.specs.Prelude.{ℕ, List, map}
use Rattle.std.specs.List.{flat_map}
use Rattle.tt_generate.specs.Workload.{job_line, jobs_of, line_and_newline}

-- the lines of jobs alone
abbrev pub job_lines : (words : List ℕ) → List ℕ
job_lines words = flat_map line_and_newline (map job_line (jobs_of words))
