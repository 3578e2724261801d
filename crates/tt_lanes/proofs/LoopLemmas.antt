-- The scans and counts go on from one block of bytes to the next.
use Rattle.std.proofs.Common.{◌≡◌, ℕ, ◌+◌, ◌-◌, ◌<◌, ◌≤◌, Bool, not, List, length, take, drop, sym, ap, ap₂, ◌∙◌, arith}
use Rattle.std.specs.Prelude.{count_by, ◌≢◌}
use Rattle.std.specs.List.{position_or_len}
use Rattle.std.proofs.lemmas.Bool.{eq-eqb, ne_eqb, cond-true, cond-false}
use Rattle.std.proofs.Math.Seq.{take-add, take-length}
use Rattle.std.proofs.lemmas.List.{take-append-drop, length-drop}
use Rattle.std.proofs.lemmas.List.Sums.{sum_by-append, prefix_len-le-length}
use Rattle.std.proofs.lemmas.List.Folds.{prefix_len-append}
use Rattle.std.proofs.lemmas.Simd.{length-chunk, chunk-drop}
use lib.Lanes.{chunk}

-- a block with a stop ends the scan
pub block_stops : (p : ℕ → Bool) (bytes : List ℕ) (at n r : ℕ) → at + n ≤ length bytes → r ≡ position_or_len p (chunk at n bytes) → r < n
    → position_or_len p (drop at bytes) ≡ r
block_stops p bytes at n r room e short =
    let long = length-chunk at n bytes room in
    let other : position_or_len p (chunk at n bytes) ≢ length (chunk at n bytes) = omega (arith, long, e) in
    ap (position_or_len p) (chunk-drop at n bytes) ∙ prefix_len-append (λ b. not (p b)) (chunk at n bytes) (drop (at + n) bytes)
    ∙ cond-false _ _ _ (ne_eqb _ _ other) ∙ sym e

-- and the scan goes on after a block without one
pub block_passes : (p : ℕ → Bool) (bytes : List ℕ) (at n r : ℕ) → at + n ≤ length bytes → r ≡ position_or_len p (chunk at n bytes) → n ≤ r
    → at + position_or_len p (drop at bytes) ≡ (at + n) + position_or_len p (drop (at + n) bytes)
block_passes p bytes at n r room e whole =
    let long = length-chunk at n bytes room in
    let all : position_or_len p (chunk at n bytes) ≡ length (chunk at n bytes) =
    omega (arith, long, e, prefix_len-le-length (λ b. not (p b)) (chunk at n bytes)) in
    let step : position_or_len p (drop at bytes) ≡ length (chunk at n bytes) + position_or_len p (drop (at + n) bytes) =
    ap (position_or_len p) (chunk-drop at n bytes) ∙ prefix_len-append (λ b. not (p b)) (chunk at n bytes) (drop (at + n) bytes)
    ∙ cond-true _ _ _ (eq-eqb _ _ all) in
    omega (arith, step, long)

-- the bytes counted so far, and a block more
pub block_counted : (p : ℕ → Bool) (bytes : List ℕ) (at n counted more : ℕ) → counted ≡ count_by p (take at bytes) → more ≡ count_by p (chunk at n bytes)
    → counted + more ≡ count_by p (take (at + n) bytes)
block_counted p bytes at n counted more e f =
    ap₂ (λ a b. a + b) e f ∙ sym (sum_by-append _ (take at bytes) (chunk at n bytes)) ∙ ap (count_by p) (sym (take-add at n bytes))

pub rest_counted : (p : ℕ → Bool) (bytes : List ℕ) (at counted more : ℕ) → counted ≡ count_by p (take at bytes)
    → more ≡ count_by p (take (length bytes - at) (drop at bytes)) → counted + more ≡ count_by p bytes
rest_counted p bytes at counted more e f =
    let rest : take (length bytes - at) (drop at bytes) ≡ drop at bytes =
    ap (λ n. take n (drop at bytes)) (sym (length-drop at bytes)) ∙ take-length (drop at bytes) in
    ap₂ (λ a b. a + b) e (f ∙ ap (count_by p) rest) ∙ sym (sum_by-append _ (take at bytes) (drop at bytes)) ∙ ap (count_by p) (take-append-drop at bytes)
