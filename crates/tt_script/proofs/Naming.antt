-- One step of what is scanned for a variable's name.
use Rattle.std.proofs.Common.{◌≡◌, ◌≢◌, ℕ, zero, suc, ◌+◌, ◌<◌, ◌≤◌, Bool, true, false, not, ◌&&◌, ◌==◌, List, [], ◌∷◌}
use Rattle.std.proofs.Common.{length, get_or, drop, take, refl, ap, sym, ◌∙◌, arith}
use Rattle.std.proofs.lemmas.List.{drop_more, drop-drop, drop_all, length-take}
use Rattle.std.proofs.lemmas.List.Sums.{prefix_len-le-length}
use Rattle.std.proofs.lemmas.Bool.{eq-eqb, ne_eqb}
use Rattle.std.specs.List.{prefix_len, position_or_len}
use Rattle.tt_lanes.specs.Classes.{is_brace_or_backslash}
use Rattle.tt_script.proofs.Runs.{next_brace}
use Rattle.tt_script.specs.Reading.{begins, is_name_byte, name_length}
use Rattle.tt_script.proofs.Runs.{passes, counted}
use Rattle.tt_script.proofs.Scanning.{unlike, next_brace-bounds, begins_at}

-- ---- runs by a test ----

pub prefix_len-yes : (p : ℕ → Bool) (b : ℕ) (text : List ℕ) → p b ≡ true → prefix_len p (b ∷ text) ≡ 1 + prefix_len p text
prefix_len-yes p b text e = rw e

pub prefix_len-no : (p : ℕ → Bool) (b : ℕ) (text : List ℕ) → p b ≡ false → prefix_len p (b ∷ text) ≡ 0
prefix_len-no p b text e = rw e

module _ (p : ℕ → Bool) (text : List ℕ) (i : ℕ) where
  prefix_len_at-yes : i < length text → p (get_or text i 0) ≡ true → prefix_len p (drop i text) ≡ suc (prefix_len p (drop (i + 1) text))
  prefix_len_at-yes h e = rw (drop_more text i 0 h) (omega (arith, prefix_len-yes p (get_or text i 0) (drop (i + 1) text) e))

  prefix_len_at-no : i < length text → p (get_or text i 0) ≡ false → prefix_len p (drop i text) ≡ 0
  prefix_len_at-no h e = rw (drop_more text i 0 h) (omega (arith, prefix_len-no p (get_or text i 0) (drop (i + 1) text) e))

  prefix_len_at-end : length text ≤ i → prefix_len p (drop i text) ≡ 0
  prefix_len_at-end h = rw (drop_all i text h)

pub colons_at-more : (text : List ℕ) (i : ℕ) → i < length text → get_or text i 0 ≡ 58 →
    prefix_len (λ b. b == 58) (drop i text) ≡ suc (prefix_len (λ b. b == 58) (drop (i + 1) text))
colons_at-more text i h e = prefix_len_at-yes (λ b. b == 58) text i h (eq-eqb _ _ e)

pub colons_at-none : (text : List ℕ) (i : ℕ) → i < length text → get_or text i 0 ≢ 58 → prefix_len (λ b. b == 58) (drop i text) ≡ 0
colons_at-none text i h e = prefix_len_at-no (λ b. b == 58) text i h (ne_eqb _ _ e)

pub colons_at-end : (text : List ℕ) (i : ℕ) → length text ≤ i → prefix_len (λ b. b == 58) (drop i text) ≡ 0
colons_at-end text i h = prefix_len_at-end (λ b. b == 58) text i h

pub ruleset colon_steps = (colons_at-more, colons_at-none, colons_at-end)

-- ---- the brace of `${` ----

pub brace_at-more : (text : List ℕ) (i : ℕ) → i < length text → get_or text i 0 ≢ 125 →
    position_or_len (λ b. b == 125) (drop i text) ≡ suc (position_or_len (λ b. b == 125) (drop (i + 1) text))
brace_at-more text i h e = prefix_len_at-yes (λ b. not (b == 125)) text i h (ap not (ne_eqb _ _ e))

pub brace_at-here : (text : List ℕ) (i : ℕ) → i < length text → get_or text i 0 ≡ 125 → position_or_len (λ b. b == 125) (drop i text) ≡ 0
brace_at-here text i h e = prefix_len_at-no (λ b. not (b == 125)) text i h (ap not (eq-eqb _ _ e))

pub brace_at-end : (text : List ℕ) (i : ℕ) → length text ≤ i → position_or_len (λ b. b == 125) (drop i text) ≡ 0
brace_at-end text i h = prefix_len_at-end (λ b. not (b == 125)) text i h

-- bytes up to the next brace or backslash
pub brace-run : (text : List ℕ) (i stop : ℕ) → i ≤ length text → stop ≡ next_brace text i →
    i + position_or_len (λ b. b == 125) (drop i text) ≡ stop + position_or_len (λ b. b == 125) (drop stop text)
brace-run text i stop h e =
    let p : ℕ → Bool = λ b. not (is_brace_or_backslash b) in
    let n : ℕ = prefix_len p (drop i text) in
    let F : List ℕ → ℕ = position_or_len (λ b. b == 125) in
    let run = passes p F (λ b m. suc m)
    (λ b rest is. prefix_len-yes (λ b. not (b == 125)) b rest (ap not (unlike is_brace_or_backslash b 125 is refl)) ∙ omega arith) n (drop i text)
    (omega arith) in
    let rest : drop n (drop i text) ≡ drop stop text = drop-drop n i text ∙ ap (λ k. drop k text) (sym e) in
    let size : length (take n (drop i text)) ≡ n = omega (arith, length-take n (drop i text), prefix_len-le-length p (drop i text)) in
    let tail : F (drop n (drop i text)) ≡ F (drop stop text) = ap F rest in
    omega (arith, run ∙ counted (take n (drop i text)) (F (drop n (drop i text))), size, tail, e)

pub ruleset brace_steps = (brace-run, brace_at-more, brace_at-here, brace_at-end, next_brace-bounds)

-- ---- names ----

pub name_passes : (k : ℕ) (text : List ℕ) → name_length k text ≡ k + name_length 0 (drop k text)
unfolding name_length
name_passes zero text = omega arith
name_passes (suc k) [] = omega arith
name_passes (suc k) (b ∷ text) = omega (arith, name_passes k text)

pub name-letter : (b : ℕ) (text : List ℕ) → is_name_byte b ≡ true → name_length 0 (b ∷ text) ≡ suc (name_length 0 text)
unfolding name_length
name-letter b text e = rw (e, name_length)

pub name-colons : (b : ℕ) (text : List ℕ) → is_name_byte b ≡ false → (b == 58) && begins 58 text ≡ true →
    name_length 0 (b ∷ text) ≡ suc (name_length (prefix_len (λ c. c == 58) text) text)
unfolding name_length
name-colons b text e f = rw (e, f, name_length)

pub name-none : (b : ℕ) (text : List ℕ) → is_name_byte b ≡ false → (b == 58) && begins 58 text ≡ false → name_length 0 (b ∷ text) ≡ 0
unfolding name_length
name-none b text e f = rw (e, f, name_length)

pub name_at-end : (text : List ℕ) (i : ℕ) → length text ≤ i → name_length 0 (drop i text) ≡ 0
unfolding name_length
name_at-end text i h = rw (drop_all i text h)

name_on : (text : List ℕ) (i k : ℕ) → name_length k (drop i text) ≡ k + name_length 0 (drop (i + k) text)
name_on text i k = name_passes k (drop i text) ∙ ap (λ rest. k + name_length 0 rest) (drop-drop k i text)

module _ (text : List ℕ) (i : ℕ) (h : i < length text) where
  pub name_at-letter : is_name_byte (get_or text i 0) ≡ true → name_length 0 (drop i text) ≡ suc (name_length 0 (drop (i + 1) text))
  name_at-letter e = rw (drop_more text i 0 h) (name-letter _ _ e)

  pub name_at-colons : (next : ℕ) → is_name_byte (get_or text i 0) ≡ false → (get_or text i 0 == 58) && begins 58 (drop (i + 1) text) ≡ true →
      next ≡ i + 1 + prefix_len (λ c. c == 58) (drop (i + 1) text) → i + name_length 0 (drop i text) ≡ next + name_length 0 (drop next text)
  name_at-colons next e f n =
      let colons : ℕ = prefix_len (λ c. c == 58) (drop (i + 1) text) in
      let step : name_length 0 (drop i text) ≡ suc (name_length colons (drop (i + 1) text)) = rw (drop_more text i 0 h) (name-colons _ _ e f) in
      let same : name_length 0 (drop (i + 1 + colons) text) ≡ name_length 0 (drop next text) = ap (λ k. name_length 0 (drop k text)) (sym n) in
      omega (arith, name_on text (i + 1) colons)

  pub name_at-none : is_name_byte (get_or text i 0) ≡ false → (get_or text i 0 == 58) && begins 58 (drop (i + 1) text) ≡ false → name_length 0 (drop i text) ≡ 0
  name_at-none e f = rw (drop_more text i 0 h) (name-none _ _ e f)

pub ruleset name_steps = (name_at-letter, name_at-colons, name_at-none, name_at-end)
