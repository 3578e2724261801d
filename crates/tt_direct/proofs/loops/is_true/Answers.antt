use Rattle.std.proofs.Common.{rules, ◌≡◌, ◌∙◌, ◌∷◌, [], List, ℕ, pos, sym, ap, arith}
use Rattle.std.specs.Fmt.{signed_decimal}
use Rattle.std.specs.Prelude.{bytes_eq}
use Rattle.std.proofs.lemmas.Fmt.{decimal_digit}
use Rattle.tt_direct.proofs.loops.is_true.Goals as goal

pub returns-in-Some-eq1 : goal.returns-in-Some-eq1
returns-in-Some-eq1 c =
    let one : c.in-Some-eq1.field-0 ≡ pos 1 = search rules in
    let is : c.args.value.now ≡ 49 ∷ [] = c.in-Some-eq1.ensures.written ∙ ap signed_decimal one ∙ decimal_digit 1 (omega arith) in
    record { holds = sym (ap (λ (v : List ℕ). bytes_eq v (49 ∷ [])) is) }

pub returns-in-Some-eq0 : goal.returns-in-Some-eq0
returns-in-Some-eq0 c =
    let none : c.in-Some-eq0.field-0 ≡ pos 0 = search rules in
    let is : c.args.value.now ≡ 48 ∷ [] = c.in-Some-eq0.ensures.written ∙ ap signed_decimal none ∙ decimal_digit 0 (omega arith) in
    record { holds = sym (ap (λ (v : List ℕ). bytes_eq v (49 ∷ [])) is) }
