-- What tests of numbers and of texts say.
use Rattle.std.proofs.Common.{◌≡◌, ◌≢◌, ◌∙◌, ◌==◌, ℕ, Bool, true, false, if◌then◌else◌, List, bytes_eq, refl, sym, rules, tests, arith}
use Rattle.std.proofs.lemmas.Bool.Decides.{nat_tests}
use Rattle.std.proofs.lemmas.Slice.Eq.{bytes_eq-Decides}

pub not_both : (b : Bool) → b ≡ true → b ≡ false → ⊥
not_both b is other = let both : true ≡ false = sym is ∙ other in cc both

pub not_true : (b : Bool) → (b ≡ true → ⊥) → b ≡ false
not_true true is_not = absurd (is_not refl)
not_true false is_not = refl

-- ---- numbers ----

pub same : (a b : ℕ) → (a == b) ≡ true → a ≡ b
same a b is = search (rules, is, tests)

pub differs : (a b : ℕ) → (a == b) ≡ false → a ≢ b
differs a b is alike = grind (arith, nat_tests, is)

pub apart : (a b : ℕ) → a ≢ b → (a == b) ≡ false
apart a b other = not_true (a == b) (λ is. other (same a b is))

pub itself : (a : ℕ) → (a == a) ≡ true
itself a = search (rules, tests)

pub flipped : (a b : ℕ) → (a == b) ≡ (b == a)
flipped a b = grind (arith, nat_tests)

-- ---- numbers by tests ----

abbrev pub one_if : Bool → ℕ
one_if b = if b then 1 else 0

abbrev pub zero_if : Bool → ℕ → ℕ
zero_if b n = if b then 0 else n

abbrev pub more_if : Bool → ℕ → ℕ
more_if b n = if b then n else 0

pub no_more : (b : Bool) → more_if b 0 ≡ 0
no_more true = refl
no_more false = refl

pub still_zero : (b : Bool) → zero_if b 0 ≡ 0
still_zero true = refl
still_zero false = refl

-- ---- texts ----

pub same_text : (a b : List ℕ) → bytes_eq a b ≡ true → a ≡ b
same_text a b is = (bytes_eq-Decides a b).0 is

pub text_itself : (text : List ℕ) → bytes_eq text text ≡ true
text_itself text = (bytes_eq-Decides text text).1 refl

pub texts_apart : (a b : List ℕ) → a ≢ b → bytes_eq a b ≡ false
texts_apart a b other = not_true (bytes_eq a b) (λ is. other (same_text a b is))

pub texts_differ : (a b : List ℕ) → bytes_eq a b ≡ false → a ≢ b
texts_differ a b is alike = not_both (bytes_eq a b) ((bytes_eq-Decides a b).1 alike) is
