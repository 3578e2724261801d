use Rattle.std.proofs.Common.{◌≡◌, ◌≢◌, ◌≤◌, ℕ, zero, suc, List, [], ◌∷◌, ◌++◌, length, drop, refl, sym, ap, ◌∙◌, subst}
use Rattle.std.proofs.Common.{arith, append-nil, append_assoc, inl, inr, length-append}
use lib.ListN.{replicate}
use Rattle.std.specs.List.{flat_map, AllByRecursion}
use Rattle.std.proofs.lemmas.List.{length-replicate}
use Rattle.tt_schedule.specs.declared.line.Line.{Line}
use Rattle.std.proofs.lemmas.List.Concat.{flat_map-append}
use Rattle.tt_schedule.specs.ScheduleText.{AreLines, IsLine, NeighboursDiffer, NoneFollows, steps_of, line_text, OneListLaw, OnePlaceLaw, OneTextLaw, heading}
use Rattle.tt_schedule.proofs.ReadLemmas.{each-split, line-some, line_eq, one-line}

-- one text, one list of lines
lines-from-text : (xs ys : List Line) → AllByRecursion IsLine xs → AllByRecursion IsLine ys → flat_map line_text xs ≡ flat_map line_text ys → xs ≡ ys
lines-from-text [] [] p q e = refl
lines-from-text [] (b ∷ ys) p q e = absurd (line-some b (flat_map line_text ys) (sym e))
lines-from-text (a ∷ xs) [] p q e = absurd (line-some a (flat_map line_text xs) e)
lines-from-text (a ∷ xs) (b ∷ ys) p q e =
    let once = one-line a b (flat_map line_text xs) (flat_map line_text ys) p.0 q.0 e in
    let first = once.0 in
    let others = lines-from-text xs ys p.1 q.1 once.1 in
    cc

-- no step of the thread is first
abbrev NotFirst : ℕ → List ℕ → Type 0
NotFirst thread [] = Unit {0}
NotFirst thread (step ∷ steps) = thread ≢ step

not_first : (thread other n : ℕ) (steps : List ℕ) → 1 ≤ n → thread ≢ other → NotFirst thread (replicate n other ++ steps)
not_first thread other zero steps h differs = absurd (omega arith)
not_first thread other (suc n) steps h differs = differs

not_first-lines : (line : Line) (lines : List Line) → NeighboursDiffer (line ∷ lines) → AllByRecursion IsLine lines → NotFirst line.thread (steps_of lines)
not_first-lines line [] differ each = tt
not_first-lines line (next ∷ lines) differ each = not_first line.thread next.thread next.steps (steps_of lines) each.0.steps.0 differ.0

differ-rest : (line : Line) (lines : List Line) → NeighboursDiffer (line ∷ lines) → NeighboursDiffer lines
differ-rest line [] differ = tt
differ-rest line (next ∷ lines) differ = differ.1

-- a row of steps ends if another thread's step comes
row-once : (n m thread : ℕ) (x y : List ℕ) → NotFirst thread x → NotFirst thread y → replicate n thread ++ x ≡ replicate m thread ++ y → (n ≡ m) × (x ≡ y)
row-once zero zero thread x y p q e = (refl, e)
row-once zero (suc m) thread x y p q e = absurd (let h : thread ≢ thread = subst (NotFirst thread) e p in h refl)
row-once (suc n) zero thread x y p q e = absurd (let h : thread ≢ thread = subst (NotFirst thread) (sym e) q in h refl)
row-once (suc n) (suc m) thread x y p q e =
    let tails : replicate n thread ++ x ≡ replicate m thread ++ y = cc in
    let once = row-once n m thread x y p q tails in
    (ap suc once.0, once.1)

row-head : (n m t u : ℕ) (x y : List ℕ) → 1 ≤ n → 1 ≤ m → replicate n t ++ x ≡ replicate m u ++ y → t ≡ u
row-head zero m t u x y p q e = absurd (omega arith)
row-head (suc n) zero t u x y p q e = absurd (omega arith)
row-head (suc n) (suc m) t u x y p q e = cc

some-steps : (line : Line) (x : List ℕ) → IsLine line → replicate line.steps line.thread ++ x ≢ []
some-steps line x is e =
    let none : length (replicate line.steps line.thread ++ x) ≡ 0 = ap length e in
    omega (arith, is.steps.0, length-append (replicate line.steps line.thread) x, length-replicate line.steps line.thread)

-- one list of steps, one list of lines
lines-from-steps : (xs ys : List Line) → AllByRecursion IsLine xs → AllByRecursion IsLine ys → NeighboursDiffer xs → NeighboursDiffer ys →
    steps_of xs ≡ steps_of ys → xs ≡ ys
lines-from-steps [] [] p q d f e = refl
lines-from-steps [] (b ∷ ys) p q d f e = absurd (some-steps b (steps_of ys) q.0 (sym e))
lines-from-steps (a ∷ xs) [] p q d f e = absurd (some-steps a (steps_of xs) p.0 e)
lines-from-steps (a ∷ xs) (b ∷ ys) p q d f e =
    let thread : a.thread ≡ b.thread = row-head a.steps b.steps a.thread b.thread (steps_of xs) (steps_of ys) p.0.steps.0 q.0.steps.0 e in
    let same : replicate a.steps a.thread ++ steps_of xs ≡ replicate b.steps a.thread ++ steps_of ys = rw thread (rw thread at e) in
    let after : NotFirst a.thread (steps_of ys) = rw thread (not_first-lines b ys f q.1) in
    let once = row-once a.steps b.steps a.thread (steps_of xs) (steps_of ys) (not_first-lines a xs d p.1) after same in
    let first : a ≡ b = line_eq a b thread once.0 in
    let others = lines-from-steps xs ys p.1 q.1 (differ-rest a xs d) (differ-rest b ys f) once.1 in
    cc

-- what follows the heading
after-heading : (x y : List ℕ) → heading ++ x ≡ heading ++ y → x ≡ y
after-heading x y e = ap (λ (text : List ℕ). drop 11 text) e

pub one_list : OneListLaw
one_list text threads others a b =
    let lines = lines-from-text a.lines b.lines a.are_lines.each b.are_lines.each (after-heading _ _ (sym a.spelled ∙ b.spelled)) in
    a.steps ∙ (ap steps_of lines ∙ sym b.steps)

pub one_text : OneTextLaw
one_text text other threads a b =
    let lines = lines-from-steps a.lines b.lines a.are_lines.each b.are_lines.each a.are_lines.differ b.are_lines.differ (sym a.steps ∙ b.steps) in
    a.spelled ∙ (ap (λ (all : List Line). heading ++ flat_map line_text all) lines ∙ sym b.spelled)

-- the first of some lines of a schedule are lines of one
each-front : (xs ys : List Line) → AllByRecursion IsLine (xs ++ ys) → AllByRecursion IsLine xs
each-front [] ys each = tt
each-front (x ∷ xs) ys each = (each.0, each-front xs ys each.1)

differ-front : (xs ys : List Line) → NeighboursDiffer (xs ++ ys) → NeighboursDiffer xs
differ-front [] ys differ = tt
differ-front (x ∷ []) ys differ = tt
differ-front (x ∷ y ∷ xs) ys differ = (differ.0, differ-front (y ∷ xs) ys differ.1)

front-lines : (xs ys : List Line) → AreLines (xs ++ ys) → AreLines xs
front-lines xs ys are = record {
  each = each-front xs ys are.each;
  differ = differ-front xs ys are.differ;
  few = omega (arith, are.few, ap length (flat_map-append (λ (l : Line). replicate l.steps l.thread) xs ys), length-append (steps_of xs) (steps_of ys));
}

-- lines after which one more may come are not followed by none
none-then : (done ys : List Line) (y : Line) (p : List ℕ) (rest : List ℕ) → AreLines (done ++ y ∷ ys) → NoneFollows (done ++ []) p → p ≢ line_text y ++ rest
none-then done ys y p rest are none e =
    let more : AreLines ((done ++ y ∷ []) ++ ys) = rw append_assoc are in
    let one : AreLines ((done ++ []) ++ y ∷ []) = rw append-nil (front-lines (done ++ y ∷ []) ys more) in
    none y rest one e

-- what is left after the good lines is one text
same-rest : (done xs ys : List Line) (p q : List ℕ) → AreLines (done ++ xs) → AreLines (done ++ ys) → NoneFollows (done ++ xs) p →
    NoneFollows (done ++ ys) q → flat_map line_text xs ++ p ≡ flat_map line_text ys ++ q → p ≡ q
same-rest done [] [] p q a b np nq e = e
same-rest done [] (y ∷ ys) p q a b np nq e =
    absurd (none-then done ys y p (flat_map line_text ys ++ q) b np (e ∙ append_assoc (line_text y) (flat_map line_text ys) q))
same-rest done (x ∷ xs) [] p q a b np nq e =
    absurd (none-then done xs x q (flat_map line_text xs ++ p) a nq (sym e ∙ append_assoc (line_text x) (flat_map line_text xs) p))
same-rest done (x ∷ xs) (y ∷ ys) p q a b np nq e =
    let cut = sym (append_assoc (line_text x) (flat_map line_text xs) p) ∙ (e ∙ append_assoc (line_text y) (flat_map line_text ys) q) in
    let both : IsLine x × IsLine y = (line-at done xs x a, line-at done ys y b) in
    let once = one-line x y (flat_map line_text xs ++ p) (flat_map line_text ys ++ q) both.0 both.1 cut in
    let same : done ++ y ∷ ys ≡ (done ++ x ∷ []) ++ ys = ap (λ (l : Line). done ++ l ∷ ys) (sym once.0) ∙ sym (append_assoc done (x ∷ []) ys) in
    let moved : done ++ x ∷ xs ≡ (done ++ x ∷ []) ++ xs = sym (append_assoc done (x ∷ []) xs) in
    same-rest (done ++ x ∷ []) xs ys p q (subst AreLines moved a) (subst AreLines same b) (subst (λ (l : List Line). NoneFollows l p) moved np)
    (subst (λ (l : List Line). NoneFollows l q) same nq) once.1
  where
    line-at : (done more : List Line) (line : Line) → AreLines (done ++ line ∷ more) → IsLine line
    line-at done more line are = (each-split done (line ∷ more) are.each).0

pub one_place : OnePlaceLaw
one_place text place other (inl a) (inl b) = a.0 ∙ sym b.0
one_place text place other (inl a) (inr b) = absurd (a.1 _ b.cut)
one_place text place other (inr a) (inl b) = absurd (b.1 _ a.cut)
one_place text place other (inr a) (inr b) =
    let rests = same-rest [] a.lines b.lines a.rest b.rest a.are_lines b.are_lines a.wrong b.wrong (after-heading _ _ (sym a.cut ∙ b.cut)) in
    omega (arith, ap length rests, a.place_is, b.place_is)
