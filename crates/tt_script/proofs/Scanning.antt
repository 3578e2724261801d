-- One step of what is scanned without nesting.
use Rattle.std.proofs.Common.{◌≡◌, ◌≢◌, ℕ, zero, suc, ◌+◌, ◌<◌, ◌≤◌, Bool, true, false, ◌||◌, ◌&&◌, ◌==◌, List, [], ◌∷◌}
use Rattle.std.proofs.Common.{length, get_or, drop, take, not, min, refl, ap, sym, ◌∙◌, arith}
use Rattle.std.proofs.lemmas.List.{drop_more, drop-drop, drop_all, length-drop, length-take}
use Rattle.std.proofs.lemmas.Bool.{eq-eqb, ne_eqb, cases_lt}
use Rattle.std.proofs.Common.{◌⊎◌, inl, inr}
use Rattle.std.proofs.lemmas.Bool.Decides.{eqb_tells}
use Rattle.std.proofs.lemmas.List.Sums.{prefix_len-le-length}
use Rattle.tt_text.specs.Characters.{is_blank, is_white_space}
use Rattle.std.specs.List.{prefix_len, position_or_len}
use Rattle.tt_lanes.specs.Classes.{is_special, is_brace_or_backslash}
use Rattle.tt_script.proofs.Runs.{next_special, next_brace}
use Rattle.tt_script.specs.Reading.{gap, continues_line, begins, begins_black, expands, comment, skipped}
use Rattle.tt_script.proofs.Runs.{passes, counted}

-- bytes that are passed over
pub gap_passes : (k : ℕ) (text : List ℕ) → gap k text ≡ k + gap 0 (drop k text)
unfolding gap
gap_passes zero text = omega arith
gap_passes (suc k) [] = omega arith
gap_passes (suc k) (b ∷ text) = omega (arith, gap_passes k text)

pub gap-blank : (b : ℕ) (text : List ℕ) → is_blank b ≡ true → gap 0 (b ∷ text) ≡ suc (gap 0 text)
unfolding gap
gap-blank b text e = rw (e, gap)

pub gap-line : (b : ℕ) (text : List ℕ) → is_blank b ≡ false → continues_line b text ≡ true → gap 0 (b ∷ text) ≡ suc (gap 1 text)
unfolding gap
gap-line b text e f = rw (e, f, gap)

pub gap-none : (b : ℕ) (text : List ℕ) → is_blank b ≡ false → continues_line b text ≡ false → gap 0 (b ∷ text) ≡ 0
unfolding gap
gap-none b text e f = rw (e, f, gap)

module _ (text : List ℕ) (i : ℕ) (h : i < length text) where
  pub gap_at-blank : is_blank (get_or text i 0) ≡ true → gap 0 (drop i text) ≡ suc (gap 0 (drop (i + 1) text))
  gap_at-blank e = rw (drop_more text i 0 h) (gap-blank _ _ e)

  pub gap_at-line : is_blank (get_or text i 0) ≡ false → continues_line (get_or text i 0) (drop (i + 1) text) ≡ true →
      gap 0 (drop i text) ≡ 2 + gap 0 (drop (i + 2) text)
  gap_at-line e f =
      let step : gap 0 (drop i text) ≡ suc (gap 1 (drop (i + 1) text)) = rw (drop_more text i 0 h) (gap-line _ _ e f) in
      let two : drop 1 (drop (i + 1) text) ≡ drop (i + 2) text = drop-drop 1 (i + 1) text ∙ ap (λ n. drop n text) (omega arith) in
      let passed : gap 1 (drop (i + 1) text) ≡ 1 + gap 0 (drop (i + 2) text) = gap_passes 1 (drop (i + 1) text) ∙ ap (λ rest. 1 + gap 0 rest) two in
      omega arith

  pub gap_at-none : is_blank (get_or text i 0) ≡ false → continues_line (get_or text i 0) (drop (i + 1) text) ≡ false → gap 0 (drop i text) ≡ 0
  gap_at-none e f = rw (drop_more text i 0 h) (gap-none _ _ e f)

pub gap_at-end : (text : List ℕ) (i : ℕ) → length text ≤ i → gap 0 (drop i text) ≡ 0
unfolding gap
gap_at-end text i h = rw (drop_all i text h)

-- what begins with a byte isn't empty
begins-length : (c : ℕ) (text : List ℕ) → begins c text ≡ true → 0 < length text
begins-length c [] e = cc
begins-length c (b ∷ text) e = omega arith

pub begins_at : (c : ℕ) (text : List ℕ) (i : ℕ) → begins c (drop i text) ≡ true → i < length text
begins_at c text i e = omega (arith, begins-length c (drop i text) e, length-drop i text)

-- two bytes are there
pub continues_line-room : (text : List ℕ) (i : ℕ) (b : ℕ) → continues_line b (drop (i + 1) text) ≡ true → i + 2 ≤ length text
continues_line-room text i b e = omega (arith, begins_at 10 text (i + 1) (both (b == 92) _ e))
  where
    both : (p q : Bool) → p && q ≡ true → q ≡ true
    both true q e = e
    both false q e = cc

pub ruleset gap_steps = (gap_at-blank, gap_at-line, gap_at-none, gap_at-end, continues_line-room)

-- ---- comments ----

pub comment-letter : (b : ℕ) (text : List ℕ) → (b == 10) ≡ false → (b == 92) ≡ false → comment false (b ∷ text) ≡ suc (comment false text)
unfolding comment
comment-letter b text e f = rw (e, f, comment)

pub comment-escape : (b : ℕ) (text : List ℕ) → (b == 10) ≡ false → (b == 92) ≡ true → comment false (b ∷ text) ≡ suc (comment true text)
unfolding comment
comment-escape b text e f = rw (e, f, comment)

pub comment-newline : (b : ℕ) (text : List ℕ) → (b == 10) ≡ true → comment false (b ∷ text) ≡ 0
unfolding comment
comment-newline b text e = rw (e, comment)

pub comment_at-end : (text : List ℕ) (i : ℕ) → length text ≤ i → comment false (drop i text) ≡ 0
unfolding comment
comment_at-end text i h = rw (drop_all i text h)

module _ (text : List ℕ) (i : ℕ) (h : i < length text) where
  pub comment_at-letter : get_or text i 0 ≢ 10 → get_or text i 0 ≢ 92 → comment false (drop i text) ≡ suc (comment false (drop (i + 1) text))
  comment_at-letter e f = rw (drop_more text i 0 h) (comment-letter _ _ (ne_eqb _ _ e) (ne_eqb _ _ f))

  pub comment_at-newline : get_or text i 0 ≡ 10 → comment false (drop i text) ≡ 0
  comment_at-newline e = rw (drop_more text i 0 h) (comment-newline _ _ (eq-eqb _ _ e))

  escaped_at : comment true (drop i text) ≡ suc (comment false (drop (i + 1) text))
  unfolding comment
  escaped_at = rw (drop_more text i 0 h) refl

  pub comment_at-escape : get_or text i 0 ≡ 92 → comment false (drop i text) ≡ suc (comment true (drop (i + 1) text))
  comment_at-escape e = rw (drop_more text i 0 h) (comment-escape _ _ (ap (λ b. b == 10) e) (eq-eqb _ _ e))

escaped_at-end : (text : List ℕ) (i : ℕ) → length text ≤ i → comment true (drop i text) ≡ 0
unfolding comment
escaped_at-end text i h = rw (drop_all i text h)

-- a backslash and what it escapes
pub comment_at-escaped : (text : List ℕ) (i : ℕ) (next : ℕ) → i < length text → get_or text i 0 ≡ 92 → next ≡ min (i + 2) (length text) →
    i + comment false (drop i text) ≡ next + comment false (drop next text)
comment_at-escaped text i next h e f = go (cases_lt (i + 1) (length text))
  where
    go : ((i + 1 < length text) ⊎ (length text ≤ i + 1)) → i + comment false (drop i text) ≡ next + comment false (drop next text)
    go (inl room) =
        let two : next ≡ i + 1 + 1 = omega arith in
        rw two (omega (arith, comment_at-escape text i h e, escaped_at text (i + 1) room))
    go (inr ends) =
        omega (arith, comment_at-escape text i h e, escaped_at-end text (i + 1) ends, comment_at-end text next (omega arith))

-- a byte of a comment, and what it escapes
pub comment_at-passed : (text : List ℕ) (i next : ℕ) → i < length text → get_or text i 0 ≢ 10 → (get_or text i 0 ≡ 92 → next ≡ min (i + 2) (length text)) →
    (get_or text i 0 ≢ 92 → next ≡ i + 1) → (i + comment false (drop i text) ≡ next + comment false (drop next text)) × (next ≤ length text) × (i < next)
comment_at-passed text i next h e escaped single = go (eqb_tells (get_or text i 0) 92)
  where
    go : (((get_or text i 0 == 92) ≡ true) × (get_or text i 0 ≡ 92)) ⊎ (((get_or text i 0 == 92) ≡ false) × (get_or text i 0 ≢ 92)) →
        (i + comment false (drop i text) ≡ next + comment false (drop next text)) × (next ≤ length text) × (i < next)
    go (inl (_, is)) = (comment_at-escaped text i next h is (escaped is), omega (arith, escaped is), omega (arith, escaped is))
    go (inr (_, is)) =
        let n : next ≡ i + 1 = single is in
        (rw n (omega (arith, comment_at-letter text i h e is)), omega arith, omega arith)

-- a byte that fails a test is none that passes it
pub unlike : (p : ℕ → Bool) (b c : ℕ) → not (p b) ≡ true → p c ≡ true → (b == c) ≡ false
unlike p b c e f = ne_eqb b c (λ same. different (p b) e (ap p same ∙ f))
  where
    different : (p : Bool) → not p ≡ true → p ≡ true → ⊥
    different true e f = cc
    different false e f = cc

-- a run of bytes ends within the text
pub run-within : (p : ℕ → Bool) (text : List ℕ) (i : ℕ) → i ≤ length text → i + position_or_len p (drop i text) ≤ length text
run-within p text i h = omega (arith, prefix_len-le-length (λ b. not (p b)) (drop i text), length-drop i text)

pub next_special-bounds : (text : List ℕ) (i : ℕ) → i ≤ length text → (i ≤ next_special text i) × (next_special text i ≤ length text)
next_special-bounds text i h = (omega arith, run-within is_special text i h)

pub next_brace-bounds : (text : List ℕ) (i : ℕ) → i ≤ length text → (i ≤ next_brace text i) × (next_brace text i ≤ length text)
next_brace-bounds text i h = (omega arith, run-within is_brace_or_backslash text i h)

-- bytes of a comment up to the next special one
pub comment-run : (text : List ℕ) (i stop : ℕ) → i ≤ length text → stop ≡ next_special text i →
    i + comment false (drop i text) ≡ stop + comment false (drop stop text)
comment-run text i stop h e =
    let p : ℕ → Bool = λ b. not (is_special b) in
    let n : ℕ = prefix_len p (drop i text) in
    let run = passes p (comment false) (λ b m. suc m)
    (λ b rest is. comment-letter b rest (unlike is_special b 10 is refl) (unlike is_special b 92 is refl)) n (drop i text) (omega arith) in
    let rest : drop n (drop i text) ≡ drop stop text = drop-drop n i text ∙ ap (λ k. drop k text) (sym e) in
    let size : length (take n (drop i text)) ≡ n = omega (arith, length-take n (drop i text), prefix_len-le-length p (drop i text)) in
    let tail : comment false (drop n (drop i text)) ≡ comment false (drop stop text) = ap (comment false) rest in
    omega (arith, run ∙ counted (take n (drop i text)) (comment false (drop n (drop i text))), size, tail, e)

pub ruleset next_brace_bounds = (next_brace-bounds)

pub ruleset comment_steps = (comment-run, comment_at-newline, comment_at-letter, comment_at-escaped, comment_at-end, next_special-bounds)

-- ---- what stands between commands ----

pub skipped_passes : (k : ℕ) (text : List ℕ) → skipped k text ≡ k + skipped 0 (drop k text)
unfolding skipped
skipped_passes zero text = omega arith
skipped_passes (suc k) [] = omega arith
skipped_passes (suc k) (b ∷ text) = omega (arith, skipped_passes k text)

pub skipped-space : (b : ℕ) (text : List ℕ) → is_white_space b || b == 59 ≡ true → skipped 0 (b ∷ text) ≡ suc (skipped 0 text)
unfolding skipped
skipped-space b text e = rw (e, skipped)

pub skipped-line : (b : ℕ) (text : List ℕ) → is_white_space b || b == 59 ≡ false → continues_line b text ≡ true → skipped 0 (b ∷ text) ≡ suc (skipped 1 text)
unfolding skipped
skipped-line b text e f = rw (e, f, skipped)

pub skipped-comment : (b : ℕ) (text : List ℕ) → is_white_space b || b == 59 ≡ false → continues_line b text ≡ false → (b == 35) ≡ true →
    skipped 0 (b ∷ text) ≡ suc (skipped (comment false text) text)
unfolding skipped
skipped-comment b text e f g = rw (e, f, g, skipped)

pub skipped-none : (b : ℕ) (text : List ℕ) → is_white_space b || b == 59 ≡ false → continues_line b text ≡ false → (b == 35) ≡ false → skipped 0 (b ∷ text) ≡ 0
unfolding skipped
skipped-none b text e f g = rw (e, f, g, skipped)

pub skipped_at-end : (text : List ℕ) (i : ℕ) → length text ≤ i → skipped 0 (drop i text) ≡ 0
unfolding skipped
skipped_at-end text i h = rw (drop_all i text h)

-- passing over bytes from a place on
skipped_on : (text : List ℕ) (i k : ℕ) → skipped k (drop i text) ≡ k + skipped 0 (drop (i + k) text)
skipped_on text i k = skipped_passes k (drop i text) ∙ ap (λ rest. k + skipped 0 rest) (drop-drop k i text)

module _ (text : List ℕ) (i : ℕ) (h : i < length text) where
  pub skipped_at-space : is_white_space (get_or text i 0) || get_or text i 0 == 59 ≡ true → skipped 0 (drop i text) ≡ suc (skipped 0 (drop (i + 1) text))
  skipped_at-space e = rw (drop_more text i 0 h) (skipped-space _ _ e)

  pub skipped_at-line : is_white_space (get_or text i 0) || get_or text i 0 == 59 ≡ false → continues_line (get_or text i 0) (drop (i + 1) text) ≡ true →
      skipped 0 (drop i text) ≡ 2 + skipped 0 (drop (i + 2) text)
  skipped_at-line e f =
      let step : skipped 0 (drop i text) ≡ suc (skipped 1 (drop (i + 1) text)) = rw (drop_more text i 0 h) (skipped-line _ _ e f) in
      let same : skipped 0 (drop (i + 1 + 1) text) ≡ skipped 0 (drop (i + 2) text) = ap (λ k. skipped 0 (drop k text)) (omega arith) in
      omega (arith, skipped_on text (i + 1) 1)

  pub skipped_at-comment : (next : ℕ) → is_white_space (get_or text i 0) || get_or text i 0 == 59 ≡ false →
      continues_line (get_or text i 0) (drop (i + 1) text) ≡ false → get_or text i 0 ≡ 35 → next ≡ i + 1 + comment false (drop (i + 1) text) →
      i + skipped 0 (drop i text) ≡ next + skipped 0 (drop next text)
  skipped_at-comment next e f g n =
      let step : skipped 0 (drop i text) ≡ suc (skipped (comment false (drop (i + 1) text)) (drop (i + 1) text)) =
      rw (drop_more text i 0 h) (skipped-comment _ _ e f (eq-eqb _ _ g)) in
      let same : skipped 0 (drop (i + 1 + comment false (drop (i + 1) text)) text) ≡ skipped 0 (drop next text) = ap (λ k. skipped 0 (drop k text)) (sym n) in
      omega (arith, skipped_on text (i + 1) (comment false (drop (i + 1) text)))

  pub skipped_at-none : is_white_space (get_or text i 0) || get_or text i 0 == 59 ≡ false → continues_line (get_or text i 0) (drop (i + 1) text) ≡ false →
      get_or text i 0 ≢ 35 → skipped 0 (drop i text) ≡ 0
  skipped_at-none e f g = rw (drop_more text i 0 h) (skipped-none _ _ e f (ne_eqb _ _ g))

pub ruleset skip_steps = (skipped_at-space, skipped_at-line, skipped_at-comment, skipped_at-none, skipped_at-end, continues_line-room)

-- ---- the front of a word ----

pub expands_at : (text : List ℕ) (i : ℕ) →
    expands (drop i text) ≡ (begins 123 (drop i text) && begins 42 (drop (i + 1) text)) && (begins 125 (drop (i + 2) text) && begins_black (drop (i + 3) text))
expands_at text i =
    ap (λ rest. (begins 123 (drop i text) && begins 42 rest) && (begins 125 (drop 2 (drop i text)) && begins_black (drop 3 (drop i text)))) (drop-drop 1 i text)
    ∙ ap (λ rest. (begins 123 (drop i text) && begins 42 (drop (i + 1) text)) && (begins 125 rest && begins_black (drop 3 (drop i text)))) (drop-drop 2 i text)
    ∙ ap (λ rest. (begins 123 (drop i text) && begins 42 (drop (i + 1) text)) && (begins 125 (drop (i + 2) text) && begins_black rest)) (drop-drop 3 i text)

pub ruleset expansion_steps = (expands_at)
