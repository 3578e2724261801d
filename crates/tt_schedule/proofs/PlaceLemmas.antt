use Rattle.std.proofs.Common.{◌≡◌, ◌<◌, ◌≤◌, ◌+◌, ◌-◌, ℕ, zero, suc, List, [], ◌∷◌, length, get_or, refl, ◌∙◌, arith}
use lib.ListN.{replicate}
use Rattle.std.proofs.Math.ListN.{get_or-append}
use Rattle.std.proofs.lemmas.List.{length-replicate, get_or-replicate, get_or-append-add}
use Rattle.tt_schedule.specs.declared.run.Run.{Run}
use Rattle.tt_schedule.specs.inside.Runs.{lines_from, end_of, AreRuns}
use Rattle.tt_schedule.specs.ScheduleText.{steps_of}
use Rattle.tt_ids.specs.ThreadNumbers.{IsInRange}

-- the run that has the step at a place is at low or after it, and at high or before it
pub record IsAround (runs : List Run) (place low high : ℕ) : Type 0 where
  pub order : low ≤ high
  pub within : high < length runs
  pub before : (k : ℕ) (d : Run) → k < low → (get_or runs k d).end ≤ place
  pub after : (d : Run) → place < (get_or runs high d).end

-- each run ends after the start
pub ends-after : (start : ℕ) (runs : List Run) (k : ℕ) (d : Run) → AreRuns start runs → k < length runs → start < (get_or runs k d).end
ends-after start [] k d are h = absurd (omega arith)
ends-after start (run ∷ runs) zero d are h = are.0.some
ends-after start (run ∷ runs) (suc k) d are h =
    let some = are.0.some in
    let later = ends-after run.end runs k d are.2 (omega arith) in
    omega arith

-- the runs end at their last end
pub end_of-last : (start : ℕ) (runs : List Run) (d : Run) → 0 < length runs → (get_or runs (length runs - 1) d).end ≡ end_of start runs
end_of-last start [] d h = absurd (omega arith)
end_of-last start (run ∷ []) d h = refl
end_of-last start (run ∷ next ∷ runs) d h =
    let place : length (run ∷ next ∷ runs) - 1 ≡ suc (length (next ∷ runs) - 1) = omega arith in
    rw place (end_of-last run.end (next ∷ runs) d (omega arith))

-- the step at a place is of the run that it falls in
pub step-at : (start : ℕ) (runs : List Run) (k place : ℕ) (d : Run) → AreRuns start runs → start ≤ place → k < length runs →
    place < (get_or runs k d).end → ((j : ℕ) → j < k → (get_or runs j d).end ≤ place) →
    get_or (steps_of (lines_from start runs)) (place - start) 0 ≡ (get_or runs k d).thread
step-at start [] k place d are low h inside before = absurd (omega arith)
step-at start (run ∷ runs) zero place d are low h inside before =
    let short : place - start < run.end - start = omega arith in
    let here : place - start < length (replicate (run.end - start) run.thread) = omega (arith, length-replicate (run.end - start) run.thread) in
    get_or-append (replicate (run.end - start) run.thread) (steps_of (lines_from run.end runs)) 0 (place - start) here
    ∙ get_or-replicate (run.end - start) (place - start) run.thread 0 short
step-at start (run ∷ runs) (suc k) place d are low h inside before =
    let passed : run.end ≤ place = before 0 (omega arith) in
    let some = are.0.some in
    let later : place - start ≡ length (replicate (run.end - start) run.thread) + (place - run.end) =
    omega (arith, length-replicate (run.end - start) run.thread) in
    rw (later, get_or-append-add (replicate (run.end - start) run.thread) (steps_of (lines_from run.end runs)) (place - run.end) 0)
    (step-at run.end runs k place d are.2 passed (omega arith) inside (λ j less. before (suc j) (omega arith)))

-- each run is of a thread in range
pub thread-range : (start : ℕ) (runs : List Run) (k : ℕ) (d : Run) → AreRuns start runs → k < length runs → IsInRange (get_or runs k d).thread
thread-range start [] k d are h = absurd (omega arith)
thread-range start (run ∷ runs) zero d are h = are.0.thread
thread-range start (run ∷ runs) (suc k) d are h = thread-range run.end runs k d are.2 (omega arith)

-- ends go up
pub ends-up : (start : ℕ) (runs : List Run) (j k : ℕ) (d e : Run) → AreRuns start runs → j ≤ k → k < length runs → (get_or runs j d).end ≤ (get_or runs k e).end
ends-up start [] j k d e are order h = absurd (omega arith)
ends-up start (run ∷ runs) zero zero d e are order h = omega arith
ends-up start (run ∷ runs) zero (suc k) d e are order h =
    let later = ends-after run.end runs k e are.2 (omega arith) in
    omega arith
ends-up start (run ∷ runs) (suc j) zero d e are order h = absurd (omega arith)
ends-up start (run ∷ runs) (suc j) (suc k) d e are order h = ends-up run.end runs j k d e are.2 (omega arith) (omega arith)

pub nonempty : (runs : List Run) (place : ℕ) → place < end_of 0 runs → 0 < length runs
nonempty [] place h = absurd (omega arith)
nonempty (run ∷ runs) place h = omega arith

pub around-all : (runs : List Run) (place : ℕ) → place < end_of 0 runs → IsAround runs place 0 (length runs - 1)
around-all runs place h =
    let some = nonempty runs place h in
    record {
      order = omega arith;
      within = omega arith;
      before = λ k d less. absurd (omega arith);
      after = λ d. rw (end_of-last 0 runs d some) h;
    }

pub around-after : (runs : List Run) (place low middle high : ℕ) (d : Run) → AreRuns 0 runs → IsAround runs place low high → low ≤ middle → middle < high →
    (get_or runs middle d).end ≤ place → IsAround runs place (middle + 1) high
around-after runs place low middle high d are around above below passed =
    let within = around.within in
    record {
      order = omega arith;
      within = within;
      before = λ k e less.
          let up = ends-up 0 runs k middle e d are (omega arith) (omega arith) in
          omega arith;
      after = around.after;
    }
