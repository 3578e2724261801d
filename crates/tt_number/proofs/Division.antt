-- The quotient that is rounded down, and its remainder.
use Rattle.std.proofs.Common.{◌≡◌, ℕ, zero, suc, ◌+◌, ◌*◌, ◌/◌, ℤ, pos, negsuc, ◌+ℤ◌, ◌*ℤ◌, neg_ℤ, inl, inr, refl, sym, ap, ◌∙◌, arith}
use Rattle.std.proofs.Math.IntN.{neg_ℤ-neg_ℤ, neg_ℤ-+ℤ, *ℤ-negsuc, negsuc-*ℤ-pos}
use Rattle.std.proofs.lemmas.Int.{ints}
use Rattle.std.proofs.lemmas.Nat.{div-add-mod', mod_below}
use Rattle.std.specs.Int.{int_div_euclid, int_rem_euclid}
use Rattle.tt_number.specs.Division.{DividesDown, DivisionRoundsDown}

-- Euclid's quotient and remainder, by a divisor above 0
euclid : (a : ℤ) (d : ℕ) → int_div_euclid a (pos (suc d)) *ℤ pos (suc d) +ℤ int_rem_euclid a (pos (suc d)) ≡ a
euclid (pos a) d = ap pos (div-add-mod' a (suc d))
euclid (negsuc a) d = rw (negsuc-*ℤ-pos (a / suc d) (suc d)) (let p = div-add-mod' a (suc d) in let m = mod_below a (suc d) (omega arith) in let e : suc (a / suc d) * suc d ≡ a / suc d * suc d + suc d = grind arith in rw e (omega (arith, ints)))

below : (a : ℤ) (d : ℕ) → DividesDown a (pos (suc d)) (int_div_euclid a (pos (suc d))) (int_rem_euclid a (pos (suc d)))
below (pos a) d = let m = mod_below a (suc d) (omega arith) in record { whole = euclid (pos a) d; between = inl (omega (arith, ints), omega (arith, ints)) }
below (negsuc a) d = let m = mod_below a (suc d) (omega arith) in record { whole = euclid (negsuc a) d; between = inl (omega (arith, ints), omega (arith, ints)) }

turned : (a q r : ℤ) (d : ℕ) → DividesDown (neg_ℤ a) (pos (suc d)) q r → DividesDown a (negsuc d) q (neg_ℤ r)
turned a q r d h = record {
  whole = rw (*ℤ-negsuc q d) (sym (neg_ℤ-+ℤ (q *ℤ pos (suc d)) r) ∙ ap neg_ℤ h.whole ∙ neg_ℤ-neg_ℤ a);
  between = elim h.between [ inl p ↦ inr (omega (arith, ints, p.0, p.1), omega (arith, ints, p.0, p.1)) | inr p ↦ absurd (omega (arith, ints, p.0, p.1)) ];
}

pub division_rounds_down : DivisionRoundsDown
division_rounds_down a (pos zero) h = absurd (h refl)
division_rounds_down a (pos (suc d)) h = below a d
division_rounds_down a (negsuc d) h = turned a _ _ d (below (neg_ℤ a) d)
