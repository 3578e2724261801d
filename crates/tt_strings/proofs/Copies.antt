-- A text many times over.
use Rattle.std.proofs.Common.{◌≡◌, ℕ, zero, suc, ◌+◌, ◌*◌, ◌<◌, ◌≤◌, List, [], ◌∷◌, ◌++◌, length, refl, sym, ap, ◌∙◌, arith, append_assoc, append-nil, mul-zero}
use Rattle.std.specs.List.{repeat}

turned : (n : ℕ) (text : List ℕ) → repeat n text ++ text ≡ text ++ repeat n text
turned zero text = sym (append-nil text)
turned (suc n) text = append_assoc text (repeat n text) text ∙ ap (λ t. text ++ t) (turned n text)

-- once more
pub one_more : (n : ℕ) (text : List ℕ) → repeat n text ++ text ≡ repeat (n + 1) text
one_more n text = turned n text ∙ ap (λ k. repeat k text) more where
  more : suc n ≡ n + 1
  more = omega arith

none_repeated : (n : ℕ) → repeat {A = ℕ} n [] ≡ []
none_repeated zero = refl
none_repeated (suc n) = none_repeated n

none_short : (text : List ℕ) → length text < 1 → text ≡ []
none_short [] h = refl
none_short (b ∷ text) h = absurd (omega arith)

-- nothing, however often
pub empty_repeated : (n : ℕ) (text made : List ℕ) → length text < 1 → made ≡ [] → made ≡ repeat n text
empty_repeated n text made e f = f ∙ sym (none_repeated n) ∙ ap (repeat n) (sym (none_short text e))

pub empty_fits : (n : ℕ) (text : List ℕ) → length text < 1 → n * length text ≤ 268435456
empty_fits n text e = let none : n * length text ≡ 0 = ap (λ t. n * length t) (none_short text e) ∙ mul-zero n in omega (arith, none)
