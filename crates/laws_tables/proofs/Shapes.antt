-- Places in lists that are so long.
use Rattle.std.proofs.Common.{◌<◌, ℕ, suc, arith}

pub first : {n : ℕ} → 0 < suc n
first = omega arith

pub second : {n : ℕ} → 1 < suc (suc n)
second = omega arith

pub third : {n : ℕ} → 2 < suc (suc (suc n))
third = omega arith
