-- One step of the search for a brace that closes.
use Rattle.std.proofs.Common.{◌≡◌, ◌≢◌, ℕ, zero, suc, ◌+◌, ◌-◌, ◌<◌, ◌≤◌, Bool, true, false, not, ◌==◌, List, [], ◌∷◌}
use Rattle.std.proofs.Common.{length, get_or, drop, take, min, Option, Some, None, refl, ap, sym, ◌∙◌, arith, ◌⊎◌, inl}
use Rattle.std.proofs.Common.{inr}
use Rattle.std.proofs.lemmas.List.{drop_more, drop-drop, drop_all, length-take}
use Rattle.std.proofs.lemmas.List.Sums.{prefix_len-le-length}
use Rattle.std.proofs.lemmas.Bool.{cases_lt}
use Rattle.std.proofs.lemmas.Bool.Decides.{eqb_tells}
use Rattle.std.specs.List.{prefix_len}
use Rattle.tt_text.specs.Braces.{closing_brace, further, mark_of, Letter}
use Rattle.tt_lanes.specs.Classes.{is_brace_or_backslash}
use Rattle.tt_script.proofs.Runs.{next_brace}
use Rattle.tt_script.proofs.Runs.{passes, all}
use Rattle.tt_script.proofs.Scanning.{unlike}

further-further : (m n : ℕ) (o : Option ℕ) → further m (further n o) ≡ further (m + n) o
further-further m n None = refl
further-further m n (Some k) = ap Some (omega arith)

further-zero : (o : Option ℕ) → further 0 o ≡ o
further-zero None = refl
further-zero (Some k) = ap Some (omega arith)

-- ---- a byte at the front ----

opens : (b depth : ℕ) (text : List ℕ) → b ≡ 123 → closing_brace false depth (b ∷ text) ≡ further 1 (closing_brace false (suc depth) text)
opens b zero text e = rw e
opens b (suc depth) text e = rw e

closes-outer : (b : ℕ) (text : List ℕ) → b ≡ 125 → closing_brace false 0 (b ∷ text) ≡ Some 0
closes-outer b text e = rw e

closes-inner : (b depth : ℕ) (text : List ℕ) → b ≡ 125 → closing_brace false (suc depth) (b ∷ text) ≡ further 1 (closing_brace false depth text)
closes-inner b depth text e = rw e

escapes : (b depth : ℕ) (text : List ℕ) → b ≡ 92 → closing_brace false depth (b ∷ text) ≡ further 1 (closing_brace true depth text)
escapes b zero text e = rw e
escapes b (suc depth) text e = rw e

mark_of-letter : (b : ℕ) → (b == 123) ≡ false → (b == 125) ≡ false → (b == 92) ≡ false → mark_of b ≡ Letter
mark_of-letter b e f g = rw (e, f, g)

letter : (b depth : ℕ) (text : List ℕ) → (b == 123) ≡ false → (b == 125) ≡ false → (b == 92) ≡ false →
    closing_brace false depth (b ∷ text) ≡ further 1 (closing_brace false depth text)
letter b zero text e f g = rw (mark_of-letter b e f g, closing_brace)
letter b (suc depth) text e f g = rw (mark_of-letter b e f g, closing_brace)

-- ---- a byte at a place, whose depth after it and whose next place are given ----

runs : (bs : List ℕ) (o : Option ℕ) → all (λ b a. further 1 a) bs o ≡ further (length bs) o
runs [] o = sym (further-zero o)
runs (b ∷ bs) o = ap (further 1) (runs bs o) ∙ further-further 1 (length bs) o ∙ ap (λ n. further n o) (omega arith)

-- bytes up to the next brace or backslash
pub closing-run : (text : List ℕ) (i stop depth : ℕ) → i ≤ length text → stop ≡ next_brace text i →
    further i (closing_brace false depth (drop i text)) ≡ further stop (closing_brace false depth (drop stop text))
closing-run text i stop depth h e =
    let p : ℕ → Bool = λ b. not (is_brace_or_backslash b) in
    let n : ℕ = prefix_len p (drop i text) in
    let F : List ℕ → Option ℕ = closing_brace false depth in
    let run = passes p F (λ b a. further 1 a)
    (λ b rest is. letter b depth rest (unlike is_brace_or_backslash b 123 is refl) (unlike is_brace_or_backslash b 125 is refl)
    (unlike is_brace_or_backslash b 92 is refl)) n (drop i text) (omega arith) in
    let rest : drop n (drop i text) ≡ drop stop text = drop-drop n i text ∙ ap (λ k. drop k text) (sym e) in
    let size : length (take n (drop i text)) ≡ n = omega (arith, length-take n (drop i text), prefix_len-le-length p (drop i text)) in
    let read : F (drop i text) ≡ further n (F (drop stop text)) =
    run ∙ runs (take n (drop i text)) (F (drop n (drop i text))) ∙ ap (λ k. further k (F (drop n (drop i text)))) size
    ∙ ap (λ r. further n (F r)) rest in
    ap (further i) read ∙ further-further i n (F (drop stop text)) ∙ ap (λ k. further k (F (drop stop text))) (sym e)

module _ (text : List ℕ) (i : ℕ) (h : i < length text) where
  one_on : (depth inner : ℕ) (after : Bool) →
      closing_brace false depth (get_or text i 0 ∷ drop (i + 1) text) ≡ further 1 (closing_brace after inner (drop (i + 1) text)) →
      further i (closing_brace false depth (drop i text)) ≡ further (i + 1) (closing_brace after inner (drop (i + 1) text))
  one_on depth inner after e =
      ap (λ rest. further i (closing_brace false depth rest)) (drop_more text i 0 h) ∙ ap (further i) e
      ∙ further-further i 1 (closing_brace after inner (drop (i + 1) text))

  -- the byte that a backslash escapes is passed over
  escaped_on : (depth : ℕ) → further i (closing_brace true depth (drop i text)) ≡ further (i + 1) (closing_brace false depth (drop (i + 1) text))
  escaped_on depth = ap (λ rest. further i (closing_brace true depth rest)) (drop_more text i 0 h) ∙ step depth (get_or text i 0) (drop (i + 1) text)
    where
      step : (d b : ℕ) (rest : List ℕ) → further i (closing_brace true d (b ∷ rest)) ≡ further (i + 1) (closing_brace false d rest)
      step zero b rest = further-further i 1 (closing_brace false zero rest)
      step (suc d) b rest = further-further i 1 (closing_brace false (suc d) rest)

at_end : (after : Bool) (depth : ℕ) (text : List ℕ) (i : ℕ) → length text ≤ i → further i (closing_brace after depth (drop i text)) ≡ None
at_end after depth text i h = ap (λ rest. further i (closing_brace after depth rest)) (drop_all i text h) ∙ nothing after depth
  where
    nothing : (a : Bool) (d : ℕ) → further i (closing_brace a d []) ≡ None
    nothing true zero = refl
    nothing true (suc d) = refl
    nothing false zero = refl
    nothing false (suc d) = refl

pub closing_at-end : (text : List ℕ) (i depth : ℕ) → length text ≤ i → further i (closing_brace false depth (drop i text)) ≡ None
closing_at-end text i depth h = at_end false depth text i h

-- what `depth_after` says of a byte
pub record Deepens (b depth : ℕ) (r : Option ℕ) : Type 0 where
  pub opens : b ≡ 123 → r ≡ Some (depth + 1)
  pub closes_outer : b ≡ 125 → depth ≡ 0 → r ≡ None
  pub closes_inner : b ≡ 125 → 0 < depth → r ≡ Some (depth - 1)
  pub other : b ≢ 123 → b ≢ 125 → r ≡ Some depth

Is : ℕ → ℕ → Type 0
Is b c = (((b == c) ≡ true) × (b ≡ c)) ⊎ (((b == c) ≡ false) × (b ≢ c))

-- the byte closes the outer brace
closes_at : (b depth : ℕ) → Deepens b depth None → (b ≡ 125) × (depth ≡ 0)
closes_at b depth d = go (eqb_tells b 123) (eqb_tells b 125) depth refl
  where
    go : (((b == 123) ≡ true) × (b ≡ 123)) ⊎ (((b == 123) ≡ false) × (b ≢ 123)) → (((b == 125) ≡ true) × (b ≡ 125)) ⊎ (((b == 125) ≡ false) × (b ≢ 125)) →
        (n : ℕ) → depth ≡ n → (b ≡ 125) × (depth ≡ 0)
    go (inl (_, is)) second n same = let two = d.opens is in cc
    go (inr (_, unlike_opening)) (inr (_, unlike_closing)) n same = let two = d.other unlike_opening unlike_closing in cc
    go (inr (_, unlike_opening)) (inl (_, is)) zero same = (is, same)
    go (inr (_, unlike_opening)) (inl (_, is)) (suc n) same = let two = d.closes_inner is (omega arith) in cc

pub closing_at-outer : (text : List ℕ) (i depth : ℕ) → i < length text → Deepens (get_or text i 0) depth None →
    further i (closing_brace false depth (drop i text)) ≡ Some i
closing_at-outer text i depth h d =
    let found = closes_at (get_or text i 0) depth d in
    ap (λ k. further i (closing_brace false k (drop i text))) found.1 ∙ ap (λ rest. further i (closing_brace false 0 rest)) (drop_more text i 0 h)
    ∙ ap (further i) (closes-outer _ (drop (i + 1) text) found.0) ∙ ap Some (omega arith)

-- the byte leaves the outer brace open
pub record Passed (text : List ℕ) (i depth next inner : ℕ) : Type 0 where
  pub place : further i (closing_brace false depth (drop i text)) ≡ further next (closing_brace false inner (drop next text))
  pub within : next ≤ length text
  pub low : inner ≤ next
  pub later : i ≤ next

module _ (text : List ℕ) (i depth next inner : ℕ) (h : i < length text) (low : depth ≤ i) (escaped : get_or text i 0 ≡ 92 → next ≡ min (i + 2) (length text)) (single : get_or text i 0 ≢ 92 → next ≡ i + 1) (d : Deepens (get_or text i 0) depth (Some inner)) where
  one_passed : (k : ℕ) → next ≡ i + 1 → inner ≡ k →
      closing_brace false depth (get_or text i 0 ∷ drop (i + 1) text) ≡ further 1 (closing_brace false k (drop (i + 1) text)) → k ≤ i + 1 →
      Passed text i depth next inner
  one_passed k e f step most = record {
    place = one_on text i h depth k false step ∙ ap (λ j. further j (closing_brace false k (drop j text))) (sym e)
        ∙ ap (λ j. further next (closing_brace false j (drop next text))) (sym f);
    within = omega arith;
    low = omega arith;
    later = omega arith;
  }

  two_passed : next ≡ min (i + 2) (length text) → inner ≡ depth → get_or text i 0 ≡ 92 → Passed text i depth next inner
  two_passed e f is = go (cases_lt (i + 1) (length text))
    where
      first : further i (closing_brace false depth (drop i text)) ≡ further (i + 1) (closing_brace true depth (drop (i + 1) text))
      first = one_on text i h depth depth true (escapes _ depth (drop (i + 1) text) is)

      go : ((i + 1 < length text) ⊎ (length text ≤ i + 1)) → Passed text i depth next inner
      go (inl room) =
          let two : i + 1 + 1 ≡ next = omega arith in
          record {
            place = first ∙ escaped_on text (i + 1) room depth ∙ ap (λ j. further j (closing_brace false depth (drop j text))) two
                ∙ ap (λ j. further next (closing_brace false j (drop next text))) (sym f);
            within = omega arith;
            low = omega arith;
            later = omega arith;
          }
      go (inr ends) = record {
        place = first ∙ at_end true depth text (i + 1) ends ∙ sym (at_end false inner text next (omega arith));
        within = omega arith;
        low = omega arith;
        later = omega arith;
      }

  some_same : (m n : ℕ) → Some m ≡ Some n → m ≡ n
  some_same m n e = cc

  inner_passed : next ≡ i + 1 → get_or text i 0 ≡ 125 → (n : ℕ) → depth ≡ n → Passed text i depth next inner
  inner_passed e is zero same = let none = d.closes_outer is same in cc
  inner_passed e is (suc n) same =
      one_passed n e (some_same _ _ (d.closes_inner is (omega arith)) ∙ omega arith)
      (ap (λ k. closing_brace false k (get_or text i 0 ∷ drop (i + 1) text)) same ∙ closes-inner _ n (drop (i + 1) text) is) (omega arith)

  pub closing_at-passed : Passed text i depth next inner
  closing_at-passed = go (eqb_tells b 92) (eqb_tells b 123) (eqb_tells b 125)
    where
      b : ℕ
      b = get_or text i 0

      go : (((b == 92) ≡ true) × (b ≡ 92)) ⊎ (((b == 92) ≡ false) × (b ≢ 92)) → (((b == 123) ≡ true) × (b ≡ 123)) ⊎ (((b == 123) ≡ false) × (b ≢ 123)) →
          (((b == 125) ≡ true) × (b ≡ 125)) ⊎ (((b == 125) ≡ false) × (b ≢ 125)) → Passed text i depth next inner
      go (inl (_, is)) (inl (_, is')) r = absurd (omega arith)
      go (inl (_, is)) (inr q) (inl (_, is')) = absurd (omega arith)
      go (inl (_, is)) (inr (_, q)) (inr (_, r)) = two_passed (escaped is) (some_same _ _ (d.other q r)) is
      go (inr (_, p)) (inl (_, is)) r =
          one_passed (suc depth) (single p) (some_same _ _ (d.opens is) ∙ omega arith) (opens _ depth (drop (i + 1) text) is) (omega arith)
      go (inr (_, p)) (inr (_, q)) (inl (_, is)) = inner_passed (single p) is depth refl
      go (inr (e, p)) (inr (f, q)) (inr (g, r)) =
          one_passed depth (single p) (some_same _ _ (d.other q r)) (letter _ depth (drop (i + 1) text) f g e) (omega arith)

-- what a place says of the text from there on
pub further-none : (n : ℕ) (o : Option ℕ) → None ≡ further n o → o ≡ None
further-none n None e = refl
further-none n (Some k) e = cc

pub further-some : (n m : ℕ) (o : Option ℕ) → Some m ≡ further n o → (o ≡ Some (m - n)) × (n ≤ m)
further-some n m None e = cc
further-some n m (Some k) e =
    let same : m ≡ n + k = cc in
    (ap Some (omega arith), omega arith)
