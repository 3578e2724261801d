use Rattle.std.proofs.Common.{◌≡◌, ◌≢◌, ◌≤◌, ◌+◌, ℕ, List, [], ◌∷◌, ◌++◌, length, refl, sym, ap, ◌∙◌, arith, append_assoc, append-nil, length-append}
use lib.ListN.{replicate}
use Rattle.std.specs.Fmt.{decimal}
use Rattle.std.specs.List.{flat_map, AllByRecursion}
use Rattle.std.proofs.lemmas.List.Concat.{flat_map-append}
use Rattle.std.proofs.lemmas.List.{length-replicate}
use Rattle.tt_schedule.specs.declared.line.Line.{Line}
use Rattle.tt_schedule.specs.declared.run.Run.{Run}
use Rattle.tt_schedule.specs.inside.Runs.{lines_from, end_of, AreRuns, LastDiffers}
use Rattle.tt_schedule.specs.inside.LineReading.{StopsBefore}
use Rattle.tt_schedule.specs.ScheduleText.{AreLines, IsLine, NeighboursDiffer, NoneFollows, steps_of, line_text, most_steps}
use Rattle.tt_schedule.proofs.LineLemmas.{one-number, line_text-append, after_thread}
use Rattle.tt_schedule.proofs.RunLemmas.{are_lines, length-steps}

-- the lines so far are read, and any lines that the text has begin with them
pub record IsReadSoFar (text : List ℕ) (so_far : List Run) (rest : List ℕ) : Type 0 where
  pub runs : AreRuns 0 so_far
  pub cut : text ≡ flat_map line_text (lines_from 0 so_far) ++ rest
  pub only : (lines : List Line) → AreLines lines → text ≡ flat_map line_text lines → (more : List Line) × (lines ≡ lines_from 0 so_far ++ more)
      × (rest ≡ flat_map line_text more)

pub read-none : (text : List ℕ) → IsReadSoFar text [] text
read-none text = record { runs = tt; cut = refl; only = λ lines are e. (lines, refl, e) }

pub line_eq : (a b : Line) → a.thread ≡ b.thread → a.steps ≡ b.steps → a ≡ b
line_eq a b threads steps =
    let first : a ≡ record { thread = b.thread; steps = a.steps } = ap (λ (t : ℕ). let line : Line = record { thread = t; steps = a.steps } in line) threads in
    let second : record { thread = b.thread; steps = a.steps } ≡ b = ap (λ (n : ℕ). let line : Line = record { thread = b.thread; steps = n } in line) steps in
    first ∙ second

-- a text begins with one line at most
pub one-line : (a b : Line) (x y : List ℕ) → IsLine a → IsLine b → line_text a ++ x ≡ line_text b ++ y → (a ≡ b) × (x ≡ y)
one-line a b x y p q e =
    let same = sym (line_text-append a x) ∙ (e ∙ line_text-append b y) in
    let threads = one-number a.thread b.thread (after_thread a x) (after_thread b y) p.thread q.thread refl refl same in
    let after = threads.1 in
    let tails : decimal a.steps ++ (10 ∷ x) ≡ decimal b.steps ++ (10 ∷ y) = cc in
    let steps = one-number a.steps b.steps (10 ∷ x) (10 ∷ y) p.steps q.steps refl refl tails in
    let newline = steps.1 in
    (line_eq a b threads.0 steps.0, cc)

-- a line is no empty text
pub line-some : (line : Line) (x : List ℕ) → line_text line ++ x ≢ []
line-some line x e =
    let length_is : length (decimal line.thread ++ after_thread line x) ≡ 0 = ap length (sym (line_text-append line x) ∙ e) in
    omega (arith, length-append (decimal line.thread) (after_thread line x))

pub each-split : (lines more : List Line) → AllByRecursion IsLine (lines ++ more) → AllByRecursion IsLine more
each-split [] more each = each
each-split (line ∷ lines) more each = each-split lines more each.1

-- the lines that the rest has begin with the one that is read
next_line : (more : List Line) (line : Line) (rest after : List ℕ) → AllByRecursion IsLine more → IsLine line → rest ≡ line_text line ++ after →
    rest ≡ flat_map line_text more → (others : List Line) × (more ≡ line ∷ others) × (after ≡ flat_map line_text others)
next_line [] line rest after each is e f = absurd (line-some line after (sym e ∙ f))
next_line (first ∷ others) line rest after each is e f =
    let once = one-line line first after (flat_map line_text others) is each.0 (sym e ∙ f) in
    (others, ap (λ (l : Line). l ∷ others) (sym once.0), once.1)

pub read-more : (text : List ℕ) (runs new : List Run) (rest after : List ℕ) (line : Line) → IsReadSoFar text runs rest → IsLine line →
    rest ≡ line_text line ++ after → AreRuns 0 new → lines_from 0 new ≡ lines_from 0 runs ++ line ∷ [] → IsReadSoFar text new after
read-more text runs new rest after line so_far is e are lines = record {
  runs = are;
  cut = rw (
    lines,
    flat_map-append line_text (lines_from 0 runs) (line ∷ []),
    append-nil (line_text line),
    append_assoc
        (flat_map line_text (lines_from 0 runs)) (line_text line) after,
    ← e,
  ) so_far.cut;
  only = λ all good f.
      let old = so_far.only all good f in
      let each = each-split (lines_from 0 runs) old.0 (rw old.1 at good.each) in
      let next = next_line old.0 line rest after each is e old.2 in (
        next.0,
        rw lines
            (old.1 ∙ (ap (λ (more : List Line). lines_from 0 runs ++ more) next.1 ∙ sym (append_assoc (lines_from 0 runs) (line ∷ []) next.0))),
        next.2,
      );
}

-- no line is at the front of the rest
pub read-wrong : (text : List ℕ) (runs : List Run) (rest : List ℕ) → IsReadSoFar text runs rest → rest ≢ [] →
    ((line : Line) (after : List ℕ) → IsLine line → rest ≢ line_text line ++ after) → (lines : List Line) → AreLines lines → text ≢ flat_map line_text lines
read-wrong text runs rest so_far some none lines are e =
    let old = so_far.only lines are e in
    no_more old.0 rest some none (each-split (lines_from 0 runs) old.0 (rw old.1 at are.each)) old.2
  where
    no_more : (more : List Line) (rest : List ℕ) → rest ≢ [] → ((line : Line) (after : List ℕ) → IsLine line → rest ≢ line_text line ++ after) →
        AllByRecursion IsLine more → rest ≡ flat_map line_text more → ⊥
    no_more [] rest some none each f = some f
    no_more (first ∷ others) rest some none each f = none first (flat_map line_text others) each.0 f

differs-at : (start : ℕ) (runs : List Run) (line : Line) (more : List Line) → NeighboursDiffer (lines_from start runs ++ line ∷ more) →
    LastDiffers runs line.thread
differs-at start [] line more differ = tt
differs-at start (run ∷ []) line more differ = differ.0
differs-at start (run ∷ next ∷ runs) line more differ = differs-at run.end (next ∷ runs) line more differ.1

few-at : (runs : List Run) (line : Line) (more : List Line) → AreRuns 0 runs → length (steps_of (lines_from 0 runs ++ line ∷ more)) ≤ most_steps →
    end_of 0 runs + line.steps ≤ most_steps
few-at runs line more are few =
    let parts = flat_map-append (λ (l : Line). replicate l.steps l.thread) (lines_from 0 runs) (line ∷ more) in
    omega (
      arith,
      length-steps 0 runs are,
      ap length parts,
      length-append (steps_of (lines_from 0 runs))
          (replicate line.steps line.thread ++ steps_of more),
      length-append (replicate line.steps line.thread)
          (steps_of more),
      length-replicate line.steps line.thread,
    )

-- the line at the front of the rest may not follow the runs
pub read-refused : (text : List ℕ) (runs : List Run) (rest after : List ℕ) (line : Line) → IsReadSoFar text runs rest → IsLine line →
    rest ≡ line_text line ++ after → (LastDiffers runs line.thread × (end_of 0 runs + line.steps ≤ most_steps) → ⊥) → (lines : List Line) →
    AreLines lines → text ≢ flat_map line_text lines
read-refused text runs rest after line so_far is e refused lines are f =
    let old = so_far.only lines are f in
    let each = each-split (lines_from 0 runs) old.0 (rw old.1 at are.each) in
    let next = next_line old.0 line rest after each is e old.2 in
    let whole : lines ≡ lines_from 0 runs ++ line ∷ next.0 = old.1 ∙ ap (λ (more : List Line). lines_from 0 runs ++ more) next.1 in
    refused (differs-at 0 runs line next.0 (rw whole at are.differ), few-at runs line next.0 so_far.runs (rw whole at are.few))

-- if no line is next, or the next one may not follow, the lines so far are all
pub none-next : (lines : List Line) (rest : List ℕ) → ((line : Line) (after : List ℕ) → IsLine line → rest ≢ line_text line ++ after) → NoneFollows lines rest
none-next lines rest none line after good e = none line after (each-split lines (line ∷ []) good.each).0 e

pub none-may : (runs : List Run) (rest after : List ℕ) (line : Line) → AreRuns 0 runs → IsLine line → rest ≡ line_text line ++ after →
    (LastDiffers runs line.thread × (end_of 0 runs + line.steps ≤ most_steps) → ⊥) → NoneFollows (lines_from 0 runs) rest
none-may runs rest after line are is e refused other x good f =
    let once = one-line line other after x is (each-split (lines_from 0 runs) (other ∷ []) good.each).0 (sym e ∙ f) in
    let same : AreLines (lines_from 0 runs ++ line ∷ []) = rw once.0 good in
    refused (differs-at 0 runs line [] same.differ, few-at runs line [] are same.few)

pub stops-before : (text : List ℕ) (runs : List Run) (rest : List ℕ) → IsReadSoFar text runs rest → rest ≢ [] → NoneFollows (lines_from 0 runs) rest →
    StopsBefore text (length rest)
stops-before text runs rest so_far some wrong = record {
  lines = lines_from 0 runs;
  rest = rest;
  are_lines = are_lines runs so_far.runs;
  cut = so_far.cut;
  left_is = refl;
  some = some;
  wrong = wrong;
}

pub rest-within : (text : List ℕ) (runs : List Run) (rest : List ℕ) → IsReadSoFar text runs rest → length rest ≤ length text
rest-within text runs rest so_far = omega (arith, ap length so_far.cut, length-append (flat_map line_text (lines_from 0 runs)) rest)
