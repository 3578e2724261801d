-- One step of a text in braces, and of a name in braces.
use Rattle.std.proofs.Common.{◌≡◌, ◌≢◌, ℕ, zero, suc, ◌+◌, ◌-◌, ◌<◌, ◌≤◌, Bool, true, false, not, ◌==◌, List, [], ◌∷◌}
use Rattle.std.proofs.Common.{◌++◌, ◌&&◌, length, get_or, drop, take, min, append-nil, refl, ap, sym, subst, ◌∙◌, arith}
use Rattle.std.proofs.Common.{◌⊎◌, inl, inr}
use Rattle.std.proofs.lemmas.List.{drop_more, drop-drop, drop_all, append_assoc}
use Rattle.std.proofs.lemmas.Bool.{eq-eqb, ne_eqb, eqb-true, cases_lt}
use Rattle.std.proofs.lemmas.List.Quantifiers.{position-Some}
use Rattle.std.specs.Prelude.{position, Option, Some, None, IfSome, if◌then◌else◌}
use Rattle.std.specs.List.{prefix_len, position_or_len}
use Rattle.std.proofs.Math.Seq.{take-add}
use Rattle.std.proofs.lemmas.Bool.Decides.{eqb_tells}
use Rattle.tt_text.specs.Backslash.{backslash}
use Rattle.tt_lanes.specs.Classes.{is_brace_or_backslash}
use Rattle.tt_script.proofs.Runs.{next_brace}
use Rattle.tt_script.specs.Reading.{begins, continues_line, joined_lines, index_start}
use Rattle.tt_script.proofs.Runs.{passes, all, prefix_len-yes, prefix_len-no}
use Rattle.tt_script.proofs.Scanning.{unlike, next_brace-bounds, begins_at}

pub joined_passes : (k : ℕ) (text : List ℕ) → joined_lines k text ≡ joined_lines 0 (drop k text)
unfolding joined_lines
joined_passes zero text = refl
joined_passes (suc k) [] = refl
joined_passes (suc k) (b ∷ text) = joined_passes k text

joined-letter : (b : ℕ) (text : List ℕ) → (b == 92) ≡ false → joined_lines 0 (b ∷ text) ≡ b ∷ joined_lines 0 text
unfolding joined_lines
joined-letter b text e = rw (e, joined_lines)

joined-newline : (b : ℕ) (text : List ℕ) → (b == 92) ≡ true → begins 10 text ≡ true → joined_lines 0 (b ∷ text) ≡ 32 ∷ joined_lines (backslash text).takes text
unfolding joined_lines
joined-newline b text e f = rw (e, f, joined_lines)

joined-pair : (b : ℕ) (text : List ℕ) → (b == 92) ≡ true → begins 10 text ≡ false → joined_lines 0 (b ∷ text) ≡ b ∷ take 1 text ++ joined_lines 1 text
unfolding joined_lines
joined-pair b text e f = rw (e, f, joined_lines)

joins : (bs rest : List ℕ) → all (λ b a. b ∷ a) bs rest ≡ bs ++ rest
joins [] rest = refl
joins (b ∷ bs) rest = ap (λ a. b ∷ a) (joins bs rest)

-- the bytes from one place to another, and those before the first of them
pub slice-more : (text : List ℕ) (i next : ℕ) → i < length text → i < next →
    take (next - i) (drop i text) ≡ get_or text i 0 ∷ take (next - (i + 1)) (drop (i + 1) text)
slice-more text i next h more =
    let size : next - i ≡ suc (next - (i + 1)) = omega arith in
    ap (λ n. take n (drop i text)) size ∙ ap (λ rest. take (suc (next - (i + 1))) rest) (drop_more text i 0 h)

-- bytes up to the next brace or backslash
pub joined-run : (text : List ℕ) (i next : ℕ) → i ≤ length text → next ≡ next_brace text i →
    joined_lines 0 (drop i text) ≡ take (next - i) (drop i text) ++ joined_lines 0 (drop next text)
joined-run text i next h e =
    let p : ℕ → Bool = λ b. not (is_brace_or_backslash b) in
    let n : ℕ = prefix_len p (drop i text) in
    let run = passes p (joined_lines 0) (λ b a. b ∷ a) (λ b rest is. joined-letter b rest (unlike is_brace_or_backslash b 92 is refl)) n (drop i text)
    (omega arith) in
    let rest : drop n (drop i text) ≡ drop next text = drop-drop n i text ∙ ap (λ k. drop k text) (sym e) in
    let size : n ≡ next - i = omega (arith, e) in
    run ∙ joins (take n (drop i text)) (joined_lines 0 (drop n (drop i text)))
    ∙ ap (λ k. take k (drop i text) ++ joined_lines 0 (drop n (drop i text))) size ∙ ap (λ r. take (next - i) (drop i text) ++ joined_lines 0 r) rest

-- a letter and the bytes up to the next brace or backslash
pub joined_at-letter : (text : List ℕ) (i next : ℕ) → i < length text → get_or text i 0 ≢ 92 → next ≡ next_brace text (i + 1) →
    joined_lines 0 (drop i text) ≡ take (next - i) (drop i text) ++ joined_lines 0 (drop next text)
joined_at-letter text i next h e f =
    ap (joined_lines 0) (drop_more text i 0 h) ∙ joined-letter _ (drop (i + 1) text) (ne_eqb _ _ e)
    ∙ ap (λ r. get_or text i 0 ∷ r) (joined-run text (i + 1) next (omega arith) f)
    ∙ ap (λ bs. bs ++ joined_lines 0 (drop next text)) (sym (slice-more text i next h (omega (arith, (next_brace-bounds text (i + 1) (omega arith)).0))))

pub joined_at-newline : (text : List ℕ) (i next : ℕ) → i < length text → get_or text i 0 ≡ 92 → begins 10 (drop (i + 1) text) ≡ true →
    next ≡ i + 1 + (backslash (drop (i + 1) text)).takes → joined_lines 0 (drop i text) ≡ (32 ∷ []) ++ joined_lines 0 (drop next text)
joined_at-newline text i next h e f g =
    ap (joined_lines 0) (drop_more text i 0 h) ∙ joined-newline _ (drop (i + 1) text) (eq-eqb _ _ e) f
    ∙ ap (λ r. 32 ∷ r)
    (joined_passes (backslash (drop (i + 1) text)).takes (drop (i + 1) text)
    ∙ ap (joined_lines 0) (drop-drop (backslash (drop (i + 1) text)).takes (i + 1) text ∙ ap (λ k. drop k text) (sym g)))

take-none : (n : ℕ) → ◌≡◌ {A = List ℕ} (take n []) []
take-none zero = refl
take-none (suc n) = refl

pub joined_at-pair : (text : List ℕ) (i next : ℕ) → i < length text → get_or text i 0 ≡ 92 → begins 10 (drop (i + 1) text) ≡ false →
    next ≡ min (i + 2) (length text) → joined_lines 0 (drop i text) ≡ take (next - i) (drop i text) ++ joined_lines 0 (drop next text)
joined_at-pair text i next h e f g =
    ap (joined_lines 0) (drop_more text i 0 h) ∙ joined-pair _ (drop (i + 1) text) (eq-eqb _ _ e) f
    ∙ ap (λ r. get_or text i 0 ∷ take 1 (drop (i + 1) text) ++ r) (joined_passes 1 (drop (i + 1) text) ∙ ap (joined_lines 0) rest)
    ∙ ap (λ bs. (get_or text i 0 ∷ bs) ++ joined_lines 0 (drop next text)) one
    ∙ ap (λ bs. bs ++ joined_lines 0 (drop next text)) (sym (slice-more text i next h (omega arith)))
  where
    rest : drop 1 (drop (i + 1) text) ≡ drop next text
    rest = go (cases_lt (i + 1) (length text))
      where
        go : ((i + 1 < length text) ⊎ (length text ≤ i + 1)) → drop 1 (drop (i + 1) text) ≡ drop next text
        go (inl room) = let same : i + 1 + 1 ≡ next = omega arith in drop-drop 1 (i + 1) text ∙ ap (λ k. drop k text) same
        go (inr ends) = drop-drop 1 (i + 1) text ∙ drop_all (i + 1 + 1) text (omega arith) ∙ sym (drop_all next text (omega arith))

    one : take 1 (drop (i + 1) text) ≡ take (next - (i + 1)) (drop (i + 1) text)
    one = go (cases_lt (i + 1) (length text))
      where
        go : ((i + 1 < length text) ⊎ (length text ≤ i + 1)) → take 1 (drop (i + 1) text) ≡ take (next - (i + 1)) (drop (i + 1) text)
        go (inl room) = let same : 1 ≡ next - (i + 1) = omega arith in ap (λ k. take k (drop (i + 1) text)) same
        go (inr ends) = ap (take 1) (drop_all (i + 1) text ends) ∙ sym (ap (take (next - (i + 1))) (drop_all (i + 1) text ends) ∙ take-none (next - (i + 1)))

-- a piece more
pub joined_on : (text : List ℕ) (i next : ℕ) (old new more whole : List ℕ) → old ++ joined_lines 0 (drop i text) ≡ whole → new ≡ old ++ more →
    joined_lines 0 (drop i text) ≡ more ++ joined_lines 0 (drop next text) → new ++ joined_lines 0 (drop next text) ≡ whole
joined_on text i next old new more whole kept added step =
    ap (λ bs. bs ++ joined_lines 0 (drop next text)) added ∙ append_assoc old more (joined_lines 0 (drop next text)) ∙ ap (λ bs. old ++ bs) (sym step) ∙ kept

pub joined_at-end : (text : List ℕ) (i : ℕ) → length text ≤ i → joined_lines 0 (drop i text) ≡ []
unfolding joined_lines
joined_at-end text i h = rw (drop_all i text h)

-- ---- texts without a backslash-newline ----

-- no backslash-newline stands in it, and its last byte escapes none that follows
abbrev pub IsPlain : List ℕ → Type 0
IsPlain bs = (rest : List ℕ) → joined_lines 0 (bs ++ rest) ≡ bs ++ joined_lines 0 rest

plain-append : (xs ys : List ℕ) → IsPlain xs → IsPlain ys → IsPlain (xs ++ ys)
plain-append xs ys p q rest =
    ap (joined_lines 0) (append_assoc xs ys rest) ∙ p (ys ++ rest) ∙ ap (λ r. xs ++ r) (q rest) ∙ sym (append_assoc xs ys (joined_lines 0 rest))

plain-pair : (b c : ℕ) → (b == 92) ≡ true → (c == 10) ≡ false → IsPlain (b ∷ c ∷ [])
plain-pair b c e f rest = joined-pair b (c ∷ rest) e f ∙ ap (λ r. b ∷ c ∷ r) (joined_passes 1 (c ∷ rest))

pub plain-run : (n : ℕ) (text : List ℕ) → n ≤ position_or_len is_brace_or_backslash text → IsPlain (take n text)
plain-run zero text h = λ rest. refl
plain-run (suc n) [] h = absurd (omega arith)
plain-run (suc n) (b ∷ text) h = go (not (is_brace_or_backslash b)) refl (plain-run n text)
  where
    p : ℕ → Bool
    p = λ c. not (is_brace_or_backslash c)

    go : (v : Bool) → not (is_brace_or_backslash b) ≡ v → (n ≤ position_or_len is_brace_or_backslash text → IsPlain (take n text)) → IsPlain (b ∷ take n text)
    go true e next =
        λ rest. joined-letter b (take n text ++ rest) (unlike is_brace_or_backslash b 92 e refl)
        ∙ ap (λ r. b ∷ r) (next (omega (arith, prefix_len-yes p b text e)) rest)
    go false e next = absurd (omega (arith, prefix_len-no p b text e))

-- the bytes from one place to another in two pieces
slice-slice : (text : List ℕ) (from i j : ℕ) → from ≤ i → i ≤ j →
    take (j - from) (drop from text) ≡ take (i - from) (drop from text) ++ take (j - i) (drop i text)
slice-slice text from i j low high =
    let size : j - from ≡ (i - from) + (j - i) = omega arith in
    let place : from + (i - from) ≡ i = omega arith in
    ap (λ k. take k (drop from text)) size ∙ take-add (i - from) (j - i) (drop from text)
    ∙ ap (λ r. take (i - from) (drop from text) ++ take (j - i) r) (drop-drop (i - from) from text ∙ ap (λ k. drop k text) place)

and-false : (p q : Bool) → p && q ≡ false → p ≡ true → q ≡ false
and-false true q e f = e
and-false false q e f = cc

-- a byte in braces and what it escapes, if that is no backslash-newline
plain_at : (text : List ℕ) (at next : ℕ) → at < length text → next < length text → (get_or text at 0 ≡ 92 → next ≡ min (at + 2) (length text)) →
    (get_or text at 0 ≢ 92 → next ≡ at + 1) → continues_line (get_or text at 0) (drop (at + 1) text) ≡ false → IsPlain (take (next - at) (drop at text))
plain_at text at next h room escaped single goes = go (eqb_tells b 92)
  where
    b : ℕ
    b = get_or text at 0

    go : (((b == 92) ≡ true) × (b ≡ 92)) ⊎ (((b == 92) ≡ false) × (b ≢ 92)) → IsPlain (take (next - at) (drop at text))
    go (inl (e, is)) =
        let two : next ≡ at + 2 = omega (arith, escaped is) in
        let second : at + 1 < length text = omega arith in
        let c : ℕ = get_or text (at + 1) 0 in
        let none_left : next - (at + 1 + 1) ≡ 0 = omega arith in
        let bytes : take (next - at) (drop at text) ≡ b ∷ c ∷ [] =
        slice-more text at next h (omega arith)
        ∙ ap (λ bs. b ∷ bs) (slice-more text (at + 1) next second (omega arith) ∙ ap (λ n. c ∷ take n (drop (at + 1 + 1) text)) none_left) in
        let other : (c == 10) ≡ false = ap (begins 10) (sym (drop_more text (at + 1) 0 second)) ∙ and-false (b == 92) (begins 10 (drop (at + 1) text)) goes e in
        subst IsPlain (sym bytes) (plain-pair b c e other)
    go (inr (e, is)) =
        let one : next ≡ at + 1 = single is in
        let none_left : next - (at + 1) ≡ 0 = omega arith in
        let bytes : take (next - at) (drop at text) ≡ b ∷ [] = slice-more text at next h (omega arith) ∙ ap (λ n. b ∷ take n (drop (at + 1) text)) none_left in
        subst IsPlain (sym bytes) (λ rest. joined-letter b rest e)

-- and the bytes up to the next brace or backslash
pub plain_on : (text : List ℕ) (from at next stop : ℕ) → from ≤ at → at ≤ next → at < length text → stop ≡ next_brace text next → stop < length text →
    (get_or text at 0 ≡ 92 → next ≡ min (at + 2) (length text)) → (get_or text at 0 ≢ 92 → next ≡ at + 1) →
    continues_line (get_or text at 0) (drop (at + 1) text) ≡ false → IsPlain (take (at - from) (drop from text)) → IsPlain (take (stop - from) (drop from text))
plain_on text from at next stop low later h e room escaped single goes before =
    let here = plain_at text at next h (omega arith) escaped single goes in
    let run = plain-run (stop - next) (drop next text) (omega arith) in
    let first : take (next - from) (drop from text) ≡ take (at - from) (drop from text) ++ take (next - at) (drop at text) =
    slice-slice text from at next low (omega arith) in
    let whole : take (stop - from) (drop from text) ≡ take (next - from) (drop from text) ++ take (stop - next) (drop next text) =
    slice-slice text from next stop (omega arith) (omega arith) in
    subst IsPlain (sym whole) (plain-append _ _ (subst IsPlain (sym first) (plain-append _ _ before here)) run)

pub plain-whole : (bs : List ℕ) → IsPlain bs → joined_lines 0 bs ≡ bs
unfolding joined_lines
plain-whole bs plain = ap (joined_lines 0) (sym (append-nil bs)) ∙ plain [] ∙ append-nil bs

-- ---- names of elements ----

-- the byte that a text begins with
pub begins_at-get : (c : ℕ) (text : List ℕ) (i : ℕ) → begins c (drop i text) ≡ true → get_or text i 0 ≡ c
begins_at-get c text i e =
    let h : i < length text = begins_at c text i e in
    let same : (get_or text i 0 == c) ≡ true = rw (drop_more text i 0 h) at e in
    eqb-true (get_or text i 0) c same

differs : {m n : ℕ} → m ≡ n → m ≡ 40 → n ≡ 41 → ⊥
differs p q r = omega arith

pub start_within : (name : List ℕ) (start : ℕ) → index_start name ≡ Some start → start + 1 < length name
start_within name start e = go (begins 41 (drop (length name - 1) name)) refl e
  where
    go : (c : Bool) → begins 41 (drop (length name - 1) name) ≡ c → (if c then position (λ b. b == 40) name else None) ≡ Some start → start + 1 < length name
    go false last found = cc
    go true last found =
        let here = position-Some (λ b. b == 40) name start 0 found in
        let opening : get_or name start 0 ≡ 40 = eqb-true (get_or name start 0) 40 here.1 in
        let closing : get_or name (length name - 1) 0 ≡ 41 = begins_at-get 41 name (length name - 1) last in
        let apart : start ≢ length name - 1 = λ same. differs (ap (λ i. get_or name i 0) same) opening closing in
        omega (arith, here.0)

pub index_within : (name : List ℕ) (last : ℕ) (r : Option ℕ) → last ≡ length name - 1 → begins 41 (drop last name) ≡ true →
    r ≡ position (λ b. b == 40) name → IfSome r (λ start. start + 1 < length name)
index_within name last None p q e = tt
index_within name last (Some start) p q e =
    let closes : begins 41 (drop (length name - 1) name) ≡ true = ap (λ i. begins 41 (drop i name)) (sym p) ∙ q in
    start_within name start (ap (λ c. if c then position (λ b. b == 40) name else None) closes ∙ sym e)
