-- The words of a generator, two by two.
use Rattle.std.proofs.Common.{◌≡◌, ℕ, zero, suc, ◌*◌, List, [], ◌∷◌, ◌++◌, length, arith, refl, ap, sym, codes, map, append-nil, append_assoc, ◌∙◌}
use Rattle.std.specs.List.{AllByRecursion, flat_map}
use Rattle.std.proofs.lemmas.Grind.{flat_map-append}
use Rattle.rand_core.specs.Steps.{first_words}
use Rattle.rand_pcg.specs.Lcg.{Lcg}
use Rattle.rand_pcg.specs.Pcg.{pcg32}
use Rattle.tt_generate.specs.Workload.{IsJob, line_and_newline, job_line, job_of, jobs_of, last_line, lines_of}
use Rattle.tt_generate.specs.inside.JobLines.{job_lines}
use Rattle.tt_generate.specs.declared.script.Job.{Job}

-- the jobs of two words more
pub jobs_more : (n : ℕ) (s : Lcg) →
    jobs_of (first_words pcg32 (2 * suc n) s) ≡ job_of (pcg32 s).0 (pcg32 (pcg32 s).1).0
    ∷ jobs_of (first_words pcg32 (2 * n) (pcg32 (pcg32 s).1).1)
unfolding first_words
jobs_more n s =
    let twice : 2 * suc n ≡ suc (suc (2 * n)) = omega arith in
    rw twice refl

-- no words give no jobs
pub jobs_none : (s : Lcg) → jobs_of (first_words pcg32 (2 * 0) s) ≡ []
unfolding first_words
jobs_none s = refl

-- the lines of a job and of those after it
pub lines_more : (n m : ℕ) (s : Lcg) → n ≡ suc m →
    job_lines (first_words pcg32 (2 * n) s) ≡ line_and_newline (job_line (job_of (pcg32 s).0 (pcg32 (pcg32 s).1).0))
    ++ job_lines (first_words pcg32 (2 * m) (pcg32 (pcg32 s).1).1)
lines_more n m s e = rw (e, jobs_more m s) refl

pub lines_none : (n : ℕ) (s : Lcg) → n ≡ 0 → job_lines (first_words pcg32 (2 * n) s) ≡ []
lines_none n s e = rw (e, jobs_none s) refl

-- two words give a key below 8 and a value below 1000
is_job : (word next : ℕ) → IsJob (job_of word next)
is_job word next = record { key = omega arith; value = omega arith }

pub count_of_jobs : (size : ℕ) (s : Lcg) → length (jobs_of (first_words pcg32 (2 * size) s)) ≡ size
count_of_jobs zero s = rw (jobs_none s) refl
count_of_jobs (suc size) s = rw (jobs_more size s) (ap suc (count_of_jobs size (pcg32 (pcg32 s).1).1))

pub all_jobs : (size : ℕ) (s : Lcg) → AllByRecursion IsJob (jobs_of (first_words pcg32 (2 * size) s))
all_jobs zero s = rw (jobs_none s) tt
all_jobs (suc size) s = rw (jobs_more size s) (is_job _ _, all_jobs size (pcg32 (pcg32 s).1).1)

-- what stands before the jobs, and after them up to the last line
abbrev pub before_jobs : List ℕ
before_jobs = codes "set p [tpool::create -maxworkers 4]\nset jobs {}\n"

abbrev pub after_jobs : List ℕ
after_jobs =
    codes "while {[llength $jobs]} {tpool::wait $p $jobs jobs}\nforeach k [lsort [tsv::array names sum]] {puts \"$k [tsv::get sum $k]\"}\n"

-- the lines after the jobs
abbrev pub lines_after : (size : ℕ) → List (List ℕ)
lines_after size =
    codes "while {[llength $jobs]} {tpool::wait $p $jobs jobs}"
    ∷ codes "foreach k [lsort [tsv::array names sum]] {puts \"$k [tsv::get sum $k]\"}"
    ∷ last_line size
    ∷ []

-- the script, piece by piece
pub pieces : (jobs : List Job) (size : ℕ) →
    ((before_jobs ++ flat_map line_and_newline (map job_line jobs)) ++ after_jobs) ++ line_and_newline (last_line size)
    ≡ flat_map line_and_newline (lines_of jobs size)
pieces jobs size =
    let middle : List ℕ = flat_map line_and_newline (map job_line jobs) in
    let last : List ℕ = line_and_newline (last_line size) in
    append_assoc (before_jobs ++ middle) after_jobs last
    ∙ (append_assoc before_jobs middle (after_jobs ++ last)
    ∙ ap (λ (t : List ℕ). before_jobs ++ t)
    (ap (λ (t : List ℕ). middle ++ (after_jobs ++ t)) (sym (append-nil last))
    ∙ sym (flat_map-append line_and_newline (map job_line jobs) (lines_after size))))
