use Rattle.std.proofs.Common.{◌≡◌, ◌<◌, ◌^◌, ℕ, List, [], ◌∷◌, ◌++◌, refl, sym, ap, ◌∙◌, arith, append_assoc}
use Rattle.std.specs.Fmt.{decimal}
use Rattle.std.proofs.lemmas.Fmt.{digits_decimal, decimal_injective}
use Rattle.tt_ids.specs.Digits.{BeginsWithNoDigit}
use Rattle.tt_schedule.specs.ScheduleText.{IsLine, line_text}
use Rattle.tt_ids.specs.ThreadNumbers.{IsInRange}
use Rattle.tt_schedule.specs.declared.line.Line.{Line}
use Rattle.tt_ids.proofs.DigitLemmas.{own, same-run}

-- a text begins with one number at most
pub one-number : (a b : ℕ) (x y : List ℕ) → IsInRange a → IsInRange b → BeginsWithNoDigit x → BeginsWithNoDigit y → decimal a ++ x ≡ decimal b ++ y →
    (a ≡ b) × (x ≡ y)
one-number a b x y p q nx ny e =
    let small : a < 2 ^ 64 = omega (arith, p.1) in
    let little : b < 2 ^ 64 = omega (arith, q.1) in
    let parts = same-run (decimal a) (decimal b) x y (digits_decimal own a small) (digits_decimal own b little) nx ny e in
    (decimal_injective a b small little parts.0, parts.1)

-- the steps of a line and what follows them
abbrev pub after_thread : Line → List ℕ → List ℕ
after_thread line rest = 32 ∷ (decimal line.steps ++ (10 ∷ rest))

pub line_text-append : (line : Line) (rest : List ℕ) → line_text line ++ rest ≡ decimal line.thread ++ after_thread line rest
line_text-append line rest =
    append_assoc (decimal line.thread) _ rest ∙ ap (λ (t : List ℕ). decimal line.thread ++ (32 ∷ t)) (append_assoc (decimal line.steps) (10 ∷ []) rest)

-- where a line is at the front, its thread is the number that is read
pub line-thread : (text : List ℕ) (a : ℕ) (x : List ℕ) (line : Line) (rest : List ℕ) → IsInRange a → BeginsWithNoDigit x → text ≡ decimal a ++ x →
    IsLine line → text ≡ line_text line ++ rest → (a ≡ line.thread) × (x ≡ after_thread line rest)
line-thread text a x line rest range stops e is f =
    one-number a line.thread x (after_thread line rest) range is.thread stops refl (sym e ∙ (f ∙ line_text-append line rest))
