-- A script made of a number: the words of a generator, the jobs that they give, and the lines.
use Rattle.std.specs.Prelude.{◌≡◌, ◌<◌, ◌*◌, ◌%◌, ℕ, List, [], ◌∷◌, ◌++◌, length, map, codes}
use Rattle.std.specs.Fmt.{decimal}
use Rattle.std.specs.List.{flat_map, AllByRecursion}
use Rattle.rand_core.specs.Pcg32Seed.{pcg32_seed}
use Rattle.rand_core.specs.Steps.{first_words}
use Rattle.rand_pcg.specs.Lcg.{Lcg}
use Rattle.rand_pcg.specs.Pcg.{pcg32, pcg32_of_seed}
use Rattle.tt_generate.specs.declared.script.Job.{Job}

-- the generator: PCG XSH RR 64/32, seeded with the number
abbrev pub generator_of : ℕ → Lcg
generator_of number = pcg32_of_seed (pcg32_seed 16 number)

-- two words give a job: the first its key, and the second its value
abbrev pub job_of : (word next : ℕ) → Job
job_of word next = record { key = word % 8; value = next % 1000 }

-- the jobs that words give, two by two
abbrev pub jobs_of : (words : List ℕ) → List Job
jobs_of [] = []
jobs_of (word ∷ []) = []
jobs_of (word ∷ next ∷ words) = job_of word next ∷ jobs_of words

-- a job is posted to the pool: it adds its value to the sum of its key
abbrev pub job_line : Job → List ℕ
job_line job =
    codes "lappend jobs [tpool::post $p {tsv::incr sum k" ++
    (decimal job.key ++ (32 ∷ (decimal job.value ++ codes "}]")))

-- how many jobs there were
abbrev pub last_line : (size : ℕ) → List ℕ
last_line size = codes "puts \"jobs " ++ (decimal size ++ codes "\"")

-- the lines of the script
abbrev pub lines_of : (jobs : List Job) (size : ℕ) → List (List ℕ)
lines_of jobs size =
    codes "set p [tpool::create -maxworkers 4]"
    ∷ codes "set jobs {}"
    ∷ (map job_line jobs
    ++ (codes "while {[llength $jobs]} {tpool::wait $p $jobs jobs}"
    ∷ codes "foreach k [lsort [tsv::array names sum]] {puts \"$k [tsv::get sum $k]\"}"
    ∷ last_line size
    ∷ []))

-- a line with its newline
abbrev pub line_and_newline : (line : List ℕ) → List ℕ
line_and_newline line = line ++ (10 ∷ [])

-- the jobs of a script of this size
abbrev pub jobs : (number size : ℕ) → List Job
jobs number size = jobs_of (first_words pcg32 (2 * size) (generator_of number))

-- the script that a number gives at a size
abbrev pub workload_text : (number size : ℕ) → List ℕ
workload_text number size = flat_map line_and_newline (lines_of (jobs number size) size)

-- a key and a value that a job may have
pub record IsJob (job : Job) : Type 0 where
  pub key : job.key < 8
  pub value : job.value < 1000

-- there are `size` jobs, each with a key below 8 and a value below 1000
abbrev pub JobsLaw : Type 0
JobsLaw = (number size : ℕ) → (length (jobs number size) ≡ size) × AllByRecursion IsJob (jobs number size)
