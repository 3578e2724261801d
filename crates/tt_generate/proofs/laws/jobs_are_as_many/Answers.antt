use Rattle.tt_generate.specs.Workload.{generator_of}
use Rattle.tt_generate.proofs.JobLemmas.{all_jobs, count_of_jobs}
use Rattle.tt_generate.proofs.laws.jobs_are_as_many.Goals as goal

pub returns : goal.returns
returns c = λ number size. (count_of_jobs size (generator_of number), all_jobs size (generator_of number))
