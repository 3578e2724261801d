-- From a test of many bytes at once to the test of each.
use Rattle.std.proofs.Common.{◌≡◌, ℕ, ◌+◌, ◌%◌, ◌^◌, ◌≤◌, Bool, true, if◌then◌else◌, ◌==◌, List, [], ◌∷◌, map, length}
use Rattle.std.proofs.Common.{get_or, Fits, w8, w64, refl, ap, ap₂, ◌∙◌, arith}
use Rattle.std.specs.Prelude.{count_ones, count_by}
use Rattle.std.specs.Int.{trailing_zeros}
use Rattle.std.specs.List.{position_or_len}
use Rattle.std.proofs.lemmas.Bool.{agree_below, agree_below_at}
use Rattle.std.proofs.lemmas.List.{length-map}
use Rattle.std.proofs.lemmas.Simd.{map-map, mask_l-mod, length-chunk, chunk-fits, first_set_mask_l, ones-mask_l}
use lib.Lanes.{chunk, mask_l, top, Each1}

same_map : (g p : ℕ → Bool) (v : List ℕ) → Each1 (Fits w8) v → agree_below g p 256 ≡ true → map g v ≡ map p v
same_map g p [] fits agree = refl
same_map g p (x ∷ v) fits agree = ap₂ (λ b r. b ∷ r) (agree_below_at g p 256 x agree fits.0.fits) (same_map g p v fits.1 agree)

-- z was computed lane by lane from v, and its highest bits say which lanes pass the test
module _ (p : ℕ → Bool) (bytes : List ℕ) (at n : ℕ) (room : at + n ≤ length bytes) (few : n ≤ 64)
    (fits : (k : ℕ) → Fits w8 (get_or bytes k 0)) (f : ℕ → ℕ) {z : List ℕ} (lanes : z ≡ map f (chunk at n bytes))
    (agree : agree_below (λ x. top 7 (f x)) p 256 ≡ true) where
  mask_is : mask_l (map (top 7) z) % 2 ^ 64 ≡ mask_l (map p (chunk at n bytes))
  mask_is =
      let v = chunk at n bytes in
      let long = length-chunk at n bytes room in
      ap (λ l. mask_l l % 2 ^ 64) (ap (map (top 7)) lanes ∙ map-map (top 7) f v ∙ same_map (λ x. top 7 (f x)) p v (chunk-fits w8 at n bytes fits) agree)
      ∙ mask_l-mod (map p v) 64 (omega (arith, length-map v p, long))

  pub run_is : (r : ℕ) → r ≡ (if (mask_l (map (top 7) z) % 2 ^ 64) == 0 then n else trailing_zeros w64 (mask_l (map (top 7) z) % 2 ^ 64))
      → r ≡ position_or_len p (chunk at n bytes)
  run_is r e =
      e ∙ ap (λ m. if m == 0 then n else trailing_zeros w64 m) mask_is ∙ first_set_mask_l p (chunk at n bytes) n (length-chunk at n bytes room) few

  pub count_is : count_ones (mask_l (map (top 7) z) % 2 ^ 64) ≡ count_by p (chunk at n bytes)
  count_is = ap count_ones mask_is ∙ ones-mask_l p (chunk at n bytes)
