-- Bytes that are put to a text in three pieces.
use Rattle.std.proofs.Common.{◌≡◌, ℕ, List, ◌++◌, append_assoc}

pub in_pieces : (text first second third : List ℕ) → ((text ++ first) ++ second) ++ third ≡ text ++ (first ++ (second ++ third))
in_pieces text first second third = simp append_assoc
