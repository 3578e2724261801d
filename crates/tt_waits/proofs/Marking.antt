-- Marks are bits.
use Rattle.std.proofs.Common.{◌≡◌, ℕ, ◌+◌, ◌*◌, ◌/◌, ◌%◌, ◌^◌, ◌<◌, ◌≤◌, List, slice_index, set, bit_or, get_or, ◌⊎◌, ◌↔◌}
use Rattle.std.proofs.Common.{inl, inr, sym, ap, ap₂, ◌∙◌, arith}
use Rattle.std.proofs.lemmas.Grind.{get_or_default_zero}
use Rattle.tt_waits.specs.declared.rows.Rows.{Rows}
use Rattle.tt_waits.specs.inside.Marks.{IsMarked}
use Rattle.tt_waits.proofs.Bits.{place_bit, bit_set, row_joined, word_within}

module _ (old new : Rows) (counts : new.count ≡ old.count) (widths : new.width ≡ old.width)
    (words : List ℕ) (is : new.words.items ≡ words) where
  bits_are : (i j : ℕ) → place_bit new.words.items new.width i j ≡ place_bit words old.width i j
  bits_are i j = ap₂ (λ ws w. place_bit ws w i j) is widths

  -- one bit or another is set: one mark or another is there
  module _ (i j : ℕ) {Bit Other : Type 0}
      (bit : j < old.count → (place_bit words old.width i j ≡ 1) ↔ ((place_bit old.words.items old.width i j ≡ 1) ⊎ Bit))
      (to_other : j < old.count → Bit → Other) (of_other : Other → (i < old.count) × (j < old.count) × Bit) where
    there : IsMarked new i j → IsMarked old i j ⊎ Other
    there mark = by (omega (arith, mark.to_within, counts))
      where
        split : j < old.count → (place_bit old.words.items old.width i j ≡ 1) ⊎ Bit → IsMarked old i j ⊎ Other
        split within (inl one) = inl (record { from_within = omega (arith, mark.from_within, counts); to_within = within; marked = one })
        split within (inr other) = inr (to_other within other)

        by : j < old.count → IsMarked old i j ⊎ Other
        by within = split within ((bit within).0 (sym (bits_are i j) ∙ mark.marked))

    back : IsMarked old i j ⊎ Other → IsMarked new i j
    back (inl mark) = record {
      from_within = omega (arith, mark.from_within, counts);
      to_within = omega (arith, mark.to_within, counts);
      marked = bits_are i j ∙ (bit mark.to_within).1 (inl mark.marked);
    }
    back (inr other) = let parts = of_other other in record {
      from_within = omega (arith, parts.0, counts);
      to_within = omega (arith, parts.1, counts);
      marked = bits_are i j ∙ (bit parts.1).1 (inr parts.2);
    }

    marks_are : IsMarked new i j ↔ (IsMarked old i j ⊎ Other)
    marks_are = (there, back)

module _ (old new : Rows) (counts : new.count ≡ old.count) (widths : new.width ≡ old.width) where
  -- a bit is set: a mark is put
  pub mark_put : (from to value : ℕ) → from < old.count → to < old.count
      → value ≡ get_or old.words.items (from * old.width + to / 64) value
      → new.words.items ≡ set old.words.items (from * old.width + to / 64) (bit_or value (1 * 2 ^ (to % 64) % 2 ^ 64))
      → (i j : ℕ) → IsMarked new i j ↔ (IsMarked old i j ⊎ ((i ≡ from) × (j ≡ to)))
  mark_put from to value from_in to_in value_is items i j =
      marks_are old new counts widths _ is i j
      (bit_set old.words.items old.count old.width old.filled old.wide from to i j from_in to_in) (λ within here. here)
      (λ here. (omega (arith, from_in, here.0), omega (arith, to_in, here.1), here))
    where
      is : new.words.items ≡ set old.words.items (from * old.width + to / 64)
          (bit_or (slice_index old.words.items (from * old.width + to / 64)) (1 * 2 ^ (to % 64) % 2 ^ 64))
      is = items ∙ ap (λ v. set old.words.items (from * old.width + to / 64) (bit_or v (1 * 2 ^ (to % 64) % 2 ^ 64)))
          (value_is ∙ get_or_default_zero old.words.items (from * old.width + to / 64) value
          (word_within old.words.items old.count old.width old.filled old.wide from to from_in to_in))

  -- a row's bits are put on another: its marks too
  marks_joined : (words : List ℕ) (into other : ℕ) → into < old.count → other < old.count → new.words.items ≡ words
      → ((w : ℕ) → w < old.width → slice_index words (into * old.width + w)
      ≡ bit_or (slice_index old.words.items (into * old.width + w)) (slice_index old.words.items (other * old.width + w)))
      → ((x : ℕ) → (x < into * old.width) ⊎ (into * old.width + old.width ≤ x) → slice_index words x ≡ slice_index old.words.items x)
      → (i j : ℕ) → IsMarked new i j ↔ (IsMarked old i j ⊎ ((i ≡ into) × IsMarked old other j))
  marks_joined words into other into_in other_in is joined others i j =
      marks_are old new counts widths words is i j
      (row_joined old.words.items old.count old.width old.filled old.wide words into other joined others i j)
      (λ within here. (here.0, record { from_within = other_in; to_within = within; marked = here.1 })) parts
    where
      parts : (i ≡ into) × IsMarked old other j → (i < old.count) × (j < old.count) × ((i ≡ into) × (place_bit old.words.items old.width other j ≡ 1))
      parts here = let mark = here.1 in (omega (arith, into_in, here.0), mark.to_within, (here.0, mark.marked))

  -- the same, where the words are had under another name
  pub marks_joined_from : (start words : List ℕ) (into other : ℕ) → start ≡ old.words.items → into < old.count → other < old.count → new.words.items ≡ words
      → ((w : ℕ) → w < old.width → slice_index words (into * old.width + w)
      ≡ bit_or (slice_index start (into * old.width + w)) (slice_index start (other * old.width + w)))
      → ((x : ℕ) → (x < into * old.width) ⊎ (into * old.width + old.width ≤ x) → slice_index words x ≡ slice_index start x)
      → (i j : ℕ) → IsMarked new i j ↔ (IsMarked old i j ⊎ ((i ≡ into) × IsMarked old other j))
  marks_joined_from start words into other starts into_in other_in is joined others =
      marks_joined words into other into_in other_in is
      (λ w within. joined w within ∙ ap (λ s. bit_or (slice_index s (into * old.width + w)) (slice_index s (other * old.width + w))) starts)
      (λ x outside. others x outside ∙ ap (λ s. slice_index s x) starts)
