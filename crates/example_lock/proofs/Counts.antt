-- A sum of notes, as the passes add to it.
use Rattle.std.proofs.Common.{◌≡◌, ℕ, ◌+◌, ◌*◌, ◌<◌, ◌≤◌, List, sum, length, replicate, set, ap, ◌∙◌, sym, arith, Some, slice_get}
use Rattle.std.specs.List.{All}
use Rattle.std.proofs.lemmas.List.Sums.{sum_by-set, sum_by-le}
use Rattle.std.proofs.lemmas.List.Folds.{sum_by-replicate}
use Rattle.std.proofs.lemmas.Option.{slice_get_within, get_or_from_slice_get}

-- one note changes the sum by as much
pub sum_after : (notes : List ℕ) (i a b : ℕ) → slice_get notes i ≡ Some a → sum (set notes i b) + a ≡ sum notes + b
sum_after notes i a b at = let change = sum_by-set (λ (x : ℕ). x) notes i b 0 (slice_get_within notes i a at) in let old = get_or_from_slice_get notes i a 0 at in
    ap (λ (x : ℕ). sum (set notes i b) + x) (sym old) ∙ change

-- so few notes have so small a sum
pub few_sum : (notes : List ℕ) → length notes ≤ 64 → All (λ note. note < 4294967296) notes → sum notes ≤ 274877906880
few_sum notes few small =
    let most = sum_by-le (λ (x : ℕ). x) 4294967295 notes (λ k d inside. let below = small k d inside in omega arith) in omega arith

pub sum_replicate : (n x : ℕ) → sum (replicate n x) ≡ n * x
sum_replicate n x = sum_by-replicate (λ (y : ℕ). y) n x
