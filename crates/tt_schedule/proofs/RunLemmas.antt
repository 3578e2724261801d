use Rattle.std.proofs.Common.{◌≡◌, ◌≢◌, ◌<◌, ◌≤◌, ◌+◌, ◌-◌, ℕ, List, [], ◌∷◌, ◌++◌, length, refl, ap, ◌∙◌, arith, append_assoc, append-nil, length-append}
use lib.ListN.{replicate}
use Rattle.std.specs.List.{AllByRecursion}
use Rattle.std.proofs.lemmas.List.Concat.{flat_map-append}
use Rattle.std.proofs.lemmas.List.{replicate_more, length-replicate}
use Rattle.tt_schedule.specs.declared.line.Line.{Line}
use Rattle.tt_schedule.specs.declared.run.Run.{Run}
use Rattle.tt_schedule.specs.inside.Runs.{lines_from, end_of, IsRun, LastDiffers, AreRuns}
use Rattle.tt_schedule.specs.ScheduleText.{AreLines, IsLine, NeighboursDiffer, steps_of, most_steps}
use Rattle.tt_ids.specs.ThreadNumbers.{IsInRange}

-- one more run at the end
pub end_of-more : (start : ℕ) (runs : List Run) (run : Run) → end_of start (runs ++ run ∷ []) ≡ run.end
end_of-more start [] run = refl
end_of-more start (first ∷ runs) run = end_of-more first.end runs run

pub lines_from-more : (start : ℕ) (runs : List Run) (run : Run) →
    lines_from start (runs ++ run ∷ []) ≡ lines_from start runs ++ (record { thread = run.thread; steps = run.end - end_of start runs }) ∷ []
lines_from-more start [] run = refl
lines_from-more start (first ∷ runs) run =
    ap (λ (lines : List Line). (record { thread = first.thread; steps = first.end - start }) ∷ lines) (lines_from-more first.end runs run)

pub last-more : (runs : List Run) (run : Run) (thread : ℕ) → run.thread ≢ thread → LastDiffers (runs ++ run ∷ []) thread
last-more [] run thread differs = differs
last-more (first ∷ []) run thread differs = differs
last-more (first ∷ next ∷ runs) run thread differs = last-more (next ∷ runs) run thread differs

pub last-is : (runs : List Run) (run : Run) (thread : ℕ) → LastDiffers (runs ++ run ∷ []) thread → run.thread ≢ thread
last-is [] run thread differs = differs
last-is (first ∷ []) run thread differs = differs
last-is (first ∷ next ∷ runs) run thread differs = last-is (next ∷ runs) run thread differs

pub runs-more : (start : ℕ) (runs : List Run) (run : Run) → AreRuns start runs → IsRun (end_of start runs) run → LastDiffers runs run.thread →
    AreRuns start (runs ++ run ∷ [])
runs-more start [] run are is differs = (is, tt, tt)
runs-more start (first ∷ []) run are is differs = (are.0, differs, (is, tt, tt))
runs-more start (first ∷ next ∷ runs) run are is differs = (are.0, are.1, runs-more first.end (next ∷ runs) run are.2 is differs)

-- the parts of runs that end with this one
pub record EndsWith (start : ℕ) (runs : List Run) (run : Run) : Type 0 where
  pub before : AreRuns start runs
  pub last : IsRun (end_of start runs) run
  pub differs : LastDiffers runs run.thread

pub runs-split : (start : ℕ) (runs : List Run) (run : Run) → AreRuns start (runs ++ run ∷ []) → EndsWith start runs run
runs-split start [] run are = record { before = tt; last = are.0; differs = tt }
runs-split start (first ∷ []) run are = record { before = (are.0, tt, tt); last = are.2.0; differs = are.1 }
runs-split start (first ∷ next ∷ runs) run are =
    let rest = runs-split first.end (next ∷ runs) run are.2 in
    record { before = (are.0, are.1, rest.before); last = rest.last; differs = rest.differs }

-- the runs have as many steps as their ends say
pub length-steps : (start : ℕ) (runs : List Run) → AreRuns start runs → length (steps_of (lines_from start runs)) + start ≡ end_of start runs
length-steps start [] are = omega arith
length-steps start (run ∷ runs) are =
    omega (
      arith,
      length-steps run.end runs are.2,
      are.0.some,
      length-append (replicate (run.end - start) run.thread)
          (steps_of (lines_from run.end runs)),
      length-replicate (run.end - start) run.thread,
    )

pub end_of-ge : (start : ℕ) (runs : List Run) → AreRuns start runs → start ≤ end_of start runs
end_of-ge start runs are = omega (arith, length-steps start runs are)

pub end_of-le : (start : ℕ) (runs : List Run) → start ≤ most_steps → AreRuns start runs → end_of start runs ≤ most_steps
end_of-le start [] few are = few
end_of-le start (run ∷ runs) few are = end_of-le run.end runs are.0.few are.2

-- the lines of runs are those of a schedule
pub lines-each : (start : ℕ) (runs : List Run) → AreRuns start runs → AllByRecursion IsLine (lines_from start runs)
lines-each start [] are = tt
lines-each start (run ∷ runs) are =
    (record { thread = are.0.thread; steps = (omega (arith, are.0.some), omega (arith, are.0.few)) }, lines-each run.end runs are.2)

pub lines-differ : (start : ℕ) (runs : List Run) → AreRuns start runs → NeighboursDiffer (lines_from start runs)
lines-differ start [] are = tt
lines-differ start (run ∷ []) are = tt
lines-differ start (run ∷ next ∷ runs) are = (are.1, lines-differ run.end (next ∷ runs) are.2)

pub are_lines : (runs : List Run) → AreRuns 0 runs → AreLines (lines_from 0 runs)
are_lines runs are = record {
  each = lines-each 0 runs are;
  differ = lines-differ 0 runs are;
  few = omega (arith, length-steps 0 runs are, end_of-le 0 runs (omega arith) are);
}

pub steps-append : (lines : List Line) (line : Line) → steps_of (lines ++ line ∷ []) ≡ steps_of lines ++ replicate line.steps line.thread
steps-append lines line =
    flat_map-append (λ (line : Line). replicate line.steps line.thread) lines (line ∷ [])
    ∙ ap (λ (more : List ℕ). steps_of lines ++ more) (append-nil (replicate line.steps line.thread))

-- the steps of one more run
pub steps-more : (start : ℕ) (runs : List Run) (run : Run) →
    steps_of (lines_from start (runs ++ run ∷ [])) ≡ steps_of (lines_from start runs) ++ replicate (run.end - end_of start runs) run.thread
steps-more start runs run = ap steps_of (lines_from-more start runs run) ∙ steps-append (lines_from start runs) _

one_longer : (n m : ℕ) → m < n → n + 1 - m ≡ n - m + 1
one_longer n m h = omega arith

-- a step more in the last run
pub steps-longer : (start : ℕ) (runs : List Run) (last : Run) (thread end : ℕ) → last.thread ≡ thread → end ≡ last.end + 1 → end_of start runs < last.end →
    steps_of (lines_from start (runs ++ (record { thread = thread; end = end }) ∷ [])) ≡ steps_of (lines_from start (runs ++ last ∷ [])) ++ thread ∷ []
steps-longer start runs last thread end same e some =
    let count : end - end_of start runs ≡ last.end - end_of start runs + 1 = omega arith in
    rw (steps-more start runs (record { thread = thread; end = end }), steps-more start runs last, append_assoc, same, replicate_more, count) refl

-- a step in a run of its own
pub steps-further : (start : ℕ) (runs : List Run) (thread end : ℕ) → end ≡ end_of start runs + 1 →
    steps_of (lines_from start (runs ++ (record { thread = thread; end = end }) ∷ [])) ≡ steps_of (lines_from start runs) ++ thread ∷ []
steps-further start runs thread end e =
    let count : end - end_of start runs ≡ 1 = omega arith in
    rw (steps-more start runs (record { thread = thread; end = end }), count) refl

-- what one more step makes of runs
pub record AddsStep (old new : List Run) (thread : ℕ) : Type 0 where
  pub runs : AreRuns 0 new
  pub steps : steps_of (lines_from 0 new) ≡ steps_of (lines_from 0 old) ++ thread ∷ []

pub adds-same : (runs front : List Run) (last : Run) (thread end : ℕ) → runs ≡ front ++ last ∷ [] → AreRuns 0 runs → IsInRange thread →
    end ≡ end_of 0 runs + 1 → end_of 0 runs < most_steps → last.thread ≡ thread → AddsStep runs (front ++ (record { thread = thread; end = end }) ∷ []) thread
adds-same runs front last thread end e are range counted few same =
    let parts = runs-split 0 front last (rw e at are) in
    let whole : end_of 0 runs ≡ last.end = rw e (end_of-more 0 front last) in
    let some = parts.last.some in
    let next : end ≡ last.end + 1 = omega arith in
    record {
      runs = runs-more 0 front (record { thread = thread; end = end }) parts.before (record { some = omega arith; few = omega arith; thread = range })
          (rw same at parts.differs);
      steps = rw e (steps-longer 0 front last thread end same next some);
    }

pub adds-other : (runs : List Run) (thread end : ℕ) → AreRuns 0 runs → IsInRange thread → end ≡ end_of 0 runs + 1 → end_of 0 runs < most_steps →
    LastDiffers runs thread → AddsStep runs (runs ++ (record { thread = thread; end = end }) ∷ []) thread
adds-other runs thread end are range counted few differs = record {
  runs = runs-more 0 runs (record { thread = thread; end = end }) are (record { some = omega arith; few = omega arith; thread = range }) differs;
  steps = steps-further 0 runs thread end counted;
}

line_eta : (thread steps end start : ℕ) → end ≡ start + steps → end - start ≡ steps
line_eta thread steps end start e = omega arith

-- what one more line makes of runs
pub adds-line : (runs : List Run) (line : Line) (end : ℕ) → end ≡ end_of 0 runs + line.steps →
    lines_from 0 (runs ++ (record { thread = line.thread; end = end }) ∷ []) ≡ lines_from 0 runs ++ line ∷ []
adds-line runs line end e =
    let count : end - end_of 0 runs ≡ line.steps = omega arith in
    rw (lines_from-more 0 runs (record { thread = line.thread; end = end }), count) refl

pub adds-runs : (runs : List Run) (line : Line) (end : ℕ) → AreRuns 0 runs → IsLine line → LastDiffers runs line.thread →
    end_of 0 runs + line.steps ≤ most_steps → end ≡ end_of 0 runs + line.steps → AreRuns 0 (runs ++ (record { thread = line.thread; end = end }) ∷ [])
adds-runs runs line end are is differs few e =
    let some = is.steps.0 in
    runs-more 0 runs (record { thread = line.thread; end = end }) are (record { some = omega arith; few = omega arith; thread = is.thread }) differs

-- a list of steps has as many as the ends of its runs say, and not too many
pub length-listed : (runs : List Run) (threads : List ℕ) → AreRuns 0 runs → steps_of (lines_from 0 runs) ≡ threads → (length threads ≡ end_of 0 runs)
    × (length threads ≤ most_steps)
length-listed runs threads are e =
    let count : length (steps_of (lines_from 0 runs)) ≡ end_of 0 runs = omega (arith, length-steps 0 runs are) in
    let few = end_of-le 0 runs (omega arith) are in
    (rw (← e) count, rw (← e, count) few)
