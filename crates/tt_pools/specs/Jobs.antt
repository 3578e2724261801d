-- The jobs of a pool (tpool(n)). They are numbered from 1; a text names the one whose number it writes.
use Rattle.std.specs.Prelude.{ℕ, ◌+◌, Bool, true, false, ◌&&◌, ◌||◌, ◌==◌, not, List, [], ◌∷◌, ◌++◌, length, codes}
use Rattle.std.specs.Prelude.{Option, Some, None, is_some, option_and_then, if◌then◌else◌}
use Rattle.indexmap.specs.IndexSet.{insert_key}
use Rattle.std.specs.BTreeMap.{insert_entry, is_at}
use Rattle.std.specs.List.{fold, list_any}
use Rattle.std.specs.Map.{lookup, remove_entry, values_of}
use Rattle.std.specs.Ordering.{nat_cmp}
use Rattle.std.specs.Prelude.{bytes_eq}
use Rattle.tt_calls.specs.Outcomes.{error_outcome}
use Rattle.tt_calls.specs.declared.outcome.Outcome.{Outcome}
use Rattle.tt_ids.specs.Ids.{number_named}
use Rattle.tt_pools.specs.declared.jobs.Begun.{Begun}
use Rattle.tt_pools.specs.declared.jobs.Queued.{Queued}

-- the jobs that no worker has begun, and what those came to that are done, each under its number; those that workers
-- have begun, each under its worker's number; all in order; and the number that the next one draws
pub record JobTable : Type 0 where
  pub queued : List (ℕ × Queued)
  pub begun : List (ℕ × Begun)
  pub done : List (ℕ × Outcome)
  pub next : ℕ

abbrev pub no_jobs : JobTable
no_jobs = record { queued = []; begun = []; done = []; next = 1 }

abbrev pub at : {X : Type 0} → List (ℕ × X) → ℕ → Option X
at jobs n = lookup (is_at (nat_cmp n)) jobs

abbrev pub without : {X : Type 0} → List (ℕ × X) → ℕ → List (ℕ × X)
without jobs n = remove_entry (is_at (nat_cmp n)) jobs

-- a job more, which draws a number also if it is detached
abbrev pub with_posted_job : JobTable → (script : List ℕ) → (detached : Bool) → JobTable
with_posted_job jobs script detached = record jobs {
  queued = insert_entry nat_cmp jobs.queued jobs.next (record { script = script; detached = detached });
  next = jobs.next + 1;
}

-- how many are not done
abbrev pub unfinished : JobTable → ℕ
unfinished jobs = length jobs.queued + length jobs.begun

-- ---- what a text names: no detached job ----

abbrev pub is_own_queued : Option Queued → Bool
is_own_queued None = false
is_own_queued (Some job) = not job.detached

abbrev pub is_own_begun : ℕ → Begun → Bool
is_own_begun n begun = begun.job == n && not begun.detached

abbrev pub is_named : (ℕ → Bool) → List ℕ → Bool
is_named passes text = elim (number_named text) [ Some n ↦ passes n | None ↦ false ]

abbrev pub is_queued : JobTable → List ℕ → Bool
is_queued jobs text = is_named (λ n. is_own_queued (at jobs.queued n)) text

abbrev pub is_begun : JobTable → List ℕ → Bool
is_begun jobs text = is_named (λ n. list_any (is_own_begun n) (values_of jobs.begun)) text

abbrev pub is_done : JobTable → List ℕ → Bool
is_done jobs text = is_named (λ n. is_some (at jobs.done n)) text

abbrev pub is_pending : JobTable → List ℕ → Bool
is_pending jobs text = is_queued jobs text || is_begun jobs text

-- ---- tpool::cancel ----

-- the jobs that are left, those that were cancelled, and the others that there are, each once
pub record Cancelled : Type 0 where
  pub jobs : JobTable
  pub gone : List (List ℕ)
  pub others : List (List ℕ)

abbrev pub without_queued : JobTable → List ℕ → JobTable
without_queued jobs text =
    elim (number_named text) [ Some n ↦ record jobs { queued = without jobs.queued n } | None ↦ jobs ]

abbrev pub cancels_one : Cancelled → List ℕ → Cancelled
cancels_one before text =
    if is_queued before.jobs text
    then record before { jobs = without_queued before.jobs text; gone = before.gone ++ text ∷ [] }
    else if is_begun before.jobs text || is_done before.jobs text
    then record before { others = insert_key bytes_eq before.others text }
    else before

abbrev pub cancels : JobTable → List (List ℕ) → Cancelled
cancels jobs texts = fold cancels_one (record { jobs = jobs; gone = []; others = [] }) texts

-- ---- workers ----

-- the oldest job is begun by a worker
abbrev pub with_begun_job : JobTable → ℕ → (ℕ × Queued) → List (ℕ × Queued) → JobTable
with_begun_job jobs t job later = record jobs {
  queued = later;
  begun = insert_entry nat_cmp jobs.begun t (record { job = job.0; detached = job.1.detached });
}

-- a begun job is done: what it came to is recorded, but of a detached one
abbrev pub with_outcome : JobTable → ℕ → Begun → Outcome → JobTable
with_outcome jobs t job outcome =
    if job.detached then record jobs { begun = without jobs.begun t } else
    record jobs { begun = without jobs.begun t; done = insert_entry nat_cmp jobs.done job.job outcome }

-- the end of a worker: its job has failed
abbrev pub fails : JobTable → ℕ → Option Begun → JobTable
fails jobs t None = jobs
fails jobs t (Some job) = with_outcome jobs t job (error_outcome (codes "target thread died"))

abbrev pub has_none : {X : Type 0} → List (ℕ × X) → Bool
has_none [] = true
has_none (entry ∷ entries) = false

-- what a job came to, which is reported once
abbrev pub outcome_of : JobTable → List ℕ → Option Outcome
outcome_of jobs text = option_and_then (at jobs.done) (number_named text)

abbrev pub without_outcome : JobTable → List ℕ → JobTable
without_outcome jobs text =
    elim (number_named text) [ Some n ↦ record jobs { done = without jobs.done n } | None ↦ jobs ]

abbrev pub oldest : List (ℕ × Queued) → Option (ℕ × Queued)
oldest [] = None
oldest (job ∷ later) = Some job

abbrev pub begins : JobTable → ℕ → List (ℕ × Queued) → JobTable
begins jobs t [] = jobs
begins jobs t (job ∷ later) = with_begun_job jobs t job later

abbrev pub is_job : ℕ → Option Begun → Bool
is_job n None = false
is_job n (Some job) = job.job == n

abbrev pub finishes : JobTable → ℕ → ℕ → Outcome → Option Begun → JobTable
finishes jobs t n outcome None = jobs
finishes jobs t n outcome (Some job) = if job.job == n then with_outcome jobs t job outcome else jobs
