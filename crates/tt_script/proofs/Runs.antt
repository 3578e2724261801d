-- A run of bytes that a function passes over one by one.
use Rattle.std.proofs.Common.{◌≡◌, ℕ, zero, suc, ◌+◌, ◌≤◌, Bool, true, false, ◌&&◌, List, [], ◌∷◌, length, drop, take, refl, ap, ◌∙◌, arith}
use Rattle.std.specs.List.{prefix_len, position_or_len}
use Rattle.tt_lanes.specs.Classes.{is_special, is_brace_or_backslash}

-- the place of the first special byte from a place on, or the end
abbrev pub next_special : List ℕ → ℕ → ℕ
next_special text from = from + position_or_len is_special (drop from text)

-- the place of the first brace or backslash from a place on, or the end
abbrev pub next_brace : List ℕ → ℕ → ℕ
next_brace text from = from + position_or_len is_brace_or_backslash (drop from text)

-- a step for each byte, before a result
abbrev pub all : {A : Type 0} → (ℕ → A → A) → List ℕ → A → A
all one [] a = a
all one (b ∷ bs) a = one b (all one bs a)

pub prefix_len-yes : (p : ℕ → Bool) (b : ℕ) (text : List ℕ) → p b ≡ true → prefix_len p (b ∷ text) ≡ 1 + prefix_len p text
prefix_len-yes p b text e = rw e

pub prefix_len-no : (p : ℕ → Bool) (b : ℕ) (text : List ℕ) → p b ≡ false → prefix_len p (b ∷ text) ≡ 0
prefix_len-no p b text e = rw e

module _ {A : Type 0} (p : ℕ → Bool) (F : List ℕ → A) (one : ℕ → A → A) (step : (b : ℕ) (text : List ℕ) → p b ≡ true → F (b ∷ text) ≡ one b (F text)) where
  pub passes : (n : ℕ) (text : List ℕ) → n ≤ prefix_len p text → F text ≡ all one (take n text) (F (drop n text))
  passes zero text h = refl
  passes (suc n) [] h = absurd (omega arith)
  passes (suc n) (b ∷ text) h = go (p b) refl (passes n text)
    where
      go : (q : Bool) → p b ≡ q → (n ≤ prefix_len p text → F text ≡ all one (take n text) (F (drop n text))) →
          F (b ∷ text) ≡ one b (all one (take n text) (F (drop n text)))
      go true e next = step b text e ∙ ap (one b) (next (omega (arith, prefix_len-yes p b text e)))
      go false e next = absurd (omega (arith, prefix_len-no p b text e))

-- a run that is counted
pub counted : (bs : List ℕ) (n : ℕ) → all (λ b m. suc m) bs n ≡ length bs + n
counted [] n = omega arith
counted (b ∷ bs) n = omega (arith, counted bs n)

-- a run that passes two tests
pub both_pass : (p q : ℕ → Bool) (n : ℕ) (text : List ℕ) → n ≤ prefix_len p text → n ≤ prefix_len q text → n ≤ prefix_len (λ b. p b && q b) text
both_pass p q zero text h k = omega arith
both_pass p q (suc n) [] h k = absurd (omega arith)
both_pass p q (suc n) (b ∷ text) h k = go (p b) (q b) refl refl (both_pass p q n text)
  where
    go : (v w : Bool) → p b ≡ v → q b ≡ w → (n ≤ prefix_len p text → n ≤ prefix_len q text → n ≤ prefix_len (λ c. p c && q c) text) →
        suc n ≤ prefix_len (λ c. p c && q c) (b ∷ text)
    go false w e f next = absurd (omega (arith, prefix_len-no p b text e))
    go true false e f next = absurd (omega (arith, prefix_len-no q b text f))
    go true true e f next =
        let yes : p b && q b ≡ true = ap (λ v. v && q b) e ∙ f in
        omega (
          arith,
          prefix_len-yes p b text e,
          prefix_len-yes q b text f,
          prefix_len-yes (λ c. p c && q c) b text yes,
          next
              (omega (arith, prefix_len-yes p b text e)) (omega (arith, prefix_len-yes q b text f)),
        )
