-- Rows of bits: where a mark has its bit, and what a word that is put changes.
use Rattle.std.proofs.Common.{◌≡◌, ℕ, ◌+◌, ◌*◌, ◌/◌, ◌%◌, ◌^◌, ◌<◌, ◌≤◌, max, List, length, slice_index, set, bit_or, w64, ◌⊎◌, ◌↔◌}
use Rattle.std.proofs.Common.{inl, inr, sym, ap, subst, ◌∙◌, arith, mul-le-mul_right}
use Rattle.std.proofs.Common.{get_or-set_other, get_or-set_same}
use Rattle.std.specs.Int.{bit_at}
use Rattle.std.proofs.lemmas.Bool.{cases_order, cases_eq}
use Rattle.std.proofs.lemmas.Nat.Bits.{bit_at_or, bit_at_set_same, bit_at_set_other, bit_at-lt}

-- a row ends before the next ones begin
pub row_end : (i k width : ℕ) → i < k → i * width + width ≤ k * width
row_end i k width below =
    let rows = mul-le-mul_right {m = i + 1} {n = k} width (omega (arith, below)) in
    omega (arith, rows)

-- a word of one row is outside another
pub rows_apart : (i k width w : ℕ) → w < width → (i ≡ k → ⊥) → (i * width + w < k * width) ⊎ (k * width + width ≤ i * width + w)
rows_apart i k width w within apart = by (cases_order i k)
  where
    by : (i ≡ k) ⊎ ((i < k) ⊎ (k < i)) → (i * width + w < k * width) ⊎ (k * width + width ≤ i * width + w)
    by (inl same) = absurd (apart same)
    by (inr (inl less)) = let ends = row_end i k width less in inl (omega (arith, ends, within))
    by (inr (inr more)) = let ends = row_end k i width more in inr (omega (arith, ends))

-- rows are the same or apart
pub same_or_apart : (i k width : ℕ) → (i * width ≡ k * width) ⊎ ((i * width + width ≤ k * width) ⊎ (k * width + width ≤ i * width))
same_or_apart i k width = by (cases_order i k)
  where
    by : (i ≡ k) ⊎ ((i < k) ⊎ (k < i)) → (i * width ≡ k * width) ⊎ ((i * width + width ≤ k * width) ⊎ (k * width + width ≤ i * width))
    by (inl same) = inl (ap (λ x. x * width) same)
    by (inr (inl less)) = inr (inl (row_end i k width less))
    by (inr (inr more)) = inr (inr (row_end k i width more))

abbrev pub place_bit : List ℕ → (width i j : ℕ) → ℕ
place_bit words width i j = bit_at (slice_index words (i * width + j / 64)) (j % 64)

kept : {P : Type 0} (new old : ℕ) → new ≡ old → (P → ⊥) → (new ≡ 1) ↔ ((old ≡ 1) ⊎ P)
kept {P} new old is never = (λ one. inl (sym is ∙ one), back)
  where
    back : (old ≡ 1) ⊎ P → new ≡ 1
    back (inl one) = is ∙ one
    back (inr other) = absurd (never other)

given : {P : Type 0} (new old : ℕ) → new ≡ 1 → P → (new ≡ 1) ↔ ((old ≡ 1) ⊎ P)
given new old is there = (λ one. inr there, λ any. is)

module _ (words : List ℕ) (count width : ℕ) (filled : length words ≡ count * width) (wide : count ≤ 64 * width) where
  -- a word of a row is one of the words
  pub word_within : (i j : ℕ) → i < count → j < count → i * width + j / 64 < length words
  word_within i j i_in j_in = let ends = row_end i count width i_in in omega (arith, ends, filled, wide, j_in)

  module _ (from to i j : ℕ) (from_in : from < count) (to_in : to < count) (j_in : j < count) where
    abbrev at : ℕ
    at = from * width + to / 64

    abbrev with_bit : List ℕ
    with_bit = set words at (bit_or (slice_index words at) (1 * 2 ^ (to % 64) % 2 ^ 64))

    elsewhere : (i * width + j / 64 ≡ at → ⊥) → place_bit with_bit width i j ≡ place_bit words width i j
    elsewhere apart = ap (λ word. bit_at word (j % 64)) (get_or-set_other words at (i * width + j / 64) _ 0 apart)

    there : i * width + j / 64 ≡ at → slice_index with_bit (i * width + j / 64) ≡ bit_or (slice_index words at) (1 * 2 ^ (to % 64) % 2 ^ 64)
    there is = ap (λ x. slice_index with_bit x) is ∙ get_or-set_same words at _ 0 (word_within from to from_in to_in)

    by_bit : i ≡ from → i * width + j / 64 ≡ at → j / 64 ≡ to / 64 → (j % 64 ≡ to % 64) ⊎ (j % 64 ≡ to % 64 → ⊥) →
        (place_bit with_bit width i j ≡ 1) ↔ ((place_bit words width i j ≡ 1) ⊎ ((i ≡ from) × (j ≡ to)))
    by_bit row is word (inl bit) =
        given _ _ (ap (λ x. bit_at x (j % 64)) (there is) ∙ ap (λ b. bit_at (bit_or (slice_index words at) (1 * 2 ^ (to % 64) % 2 ^ 64)) b) bit
        ∙ bit_at_set_same w64 (slice_index words at) (to % 64) (omega arith)) (row, omega (arith, word, bit))
    by_bit row is word (inr other) =
        kept _ _ (ap (λ x. bit_at x (j % 64)) (there is) ∙ bit_at_set_other w64 (slice_index words at) (to % 64) (omega arith) (j % 64) other
        ∙ ap (λ x. bit_at (slice_index words x) (j % 64)) (sym is)) (λ both. other (ap (λ x. x % 64) both.1))

    by_word : i ≡ from → (j / 64 ≡ to / 64) ⊎ (j / 64 ≡ to / 64 → ⊥) →
        (place_bit with_bit width i j ≡ 1) ↔ ((place_bit words width i j ≡ 1) ⊎ ((i ≡ from) × (j ≡ to)))
    by_word row (inl word) = by_bit row (ap (λ x. x * width + j / 64) row ∙ ap (λ x. from * width + x) word) word (cases_eq (j % 64) (to % 64))
    by_word row (inr other) =
        let rows = ap (λ x. x * width) row in
        kept _ _ (elsewhere (λ is. other (omega (arith, is, rows)))) (λ both. other (ap (λ x. x / 64) both.1))

    by_row : (i ≡ from) ⊎ (i ≡ from → ⊥) →
        (place_bit with_bit width i j ≡ 1) ↔ ((place_bit words width i j ≡ 1) ⊎ ((i ≡ from) × (j ≡ to)))
    by_row (inl row) = by_word row (cases_eq (j / 64) (to / 64))
    by_row (inr other) = kept _ _ (elsewhere (outside (rows_apart i from width (j / 64) (omega (arith, j_in, wide)) other))) (λ both. other both.0)
      where
        outside : (i * width + j / 64 < from * width) ⊎ (from * width + width ≤ i * width + j / 64) → i * width + j / 64 ≡ at → ⊥
        outside (inl before) is = omega (arith, before, is)
        outside (inr after) is = omega (arith, after, is, to_in, wide)

    -- one bit more is set
    pub bit_set : (place_bit with_bit width i j ≡ 1) ↔ ((place_bit words width i j ≡ 1) ⊎ ((i ≡ from) × (j ≡ to)))
    bit_set = by_row (cases_eq i from)

  -- the bits of one row are put on another
  module _ (new : List ℕ) (into other : ℕ)
      (joined : (w : ℕ) → w < width → slice_index new (into * width + w) ≡ bit_or (slice_index words (into * width + w)) (slice_index words (other * width + w)))
      (others : (x : ℕ) → (x < into * width) ⊎ (into * width + width ≤ x) → slice_index new x ≡ slice_index words x) where
    either : (a b : ℕ) → a < 2 → b < 2 → (max a b ≡ 1) → (a ≡ 1) ⊎ (b ≡ 1)
    either a b a_bit b_bit is = by (cases_eq a 1)
      where
        by : (a ≡ 1) ⊎ (a ≡ 1 → ⊥) → (a ≡ 1) ⊎ (b ≡ 1)
        by (inl one) = inl one
        by (inr zero_bit) = inr (omega (arith, a_bit, b_bit, is, zero_bit))

    module _ (i j : ℕ) (j_in : j < count) where
      both_rows : i ≡ into → place_bit new width i j ≡ max (place_bit words width i j) (place_bit words width other j)
      both_rows row =
          let at = joined (j / 64) (omega (arith, j_in, wide)) in
          subst (λ x. place_bit new width x j ≡ max (place_bit words width x j) (place_bit words width other j)) (sym row)
          (ap (λ word. bit_at word (j % 64)) at
          ∙ bit_at_or (slice_index words (into * width + j / 64)) (slice_index words (other * width + j / 64)) (j % 64))

      by_rows : (i ≡ into) ⊎ (i ≡ into → ⊥) →
          (place_bit new width i j ≡ 1) ↔ ((place_bit words width i j ≡ 1) ⊎ ((i ≡ into) × (place_bit words width other j ≡ 1)))
      by_rows (inl row) = (λ one. split (either (place_bit words width i j) (place_bit words width other j) (bit_at-lt _ (j % 64)) (bit_at-lt _ (j % 64)) (sym (both_rows row) ∙ one)), back)
        where
          split : (place_bit words width i j ≡ 1) ⊎ (place_bit words width other j ≡ 1) → (place_bit words width i j ≡ 1) ⊎ ((i ≡ into) × (place_bit words width other j ≡ 1))
          split (inl one) = inl one
          split (inr one) = inr (row, one)

          back : (place_bit words width i j ≡ 1) ⊎ ((i ≡ into) × (place_bit words width other j ≡ 1)) → place_bit new width i j ≡ 1
          back (inl one) =
              let b = bit_at-lt (slice_index words (other * width + j / 64)) (j % 64) in
              both_rows row ∙ omega (arith, one, b)
          back (inr one) =
              let a = bit_at-lt (slice_index words (i * width + j / 64)) (j % 64) in
              both_rows row ∙ omega (arith, one.1, a)
      by_rows (inr apart) =
          kept _ _ (ap (λ word. bit_at word (j % 64)) (others (i * width + j / 64) (rows_apart i into width (j / 64) (omega (arith, j_in, wide)) apart)))
          (λ both. apart both.0)

      pub row_joined : (place_bit new width i j ≡ 1) ↔ ((place_bit words width i j ≡ 1) ⊎ ((i ≡ into) × (place_bit words width other j ≡ 1)))
      row_joined = by_rows (cases_eq i into)
