-- The greatest and the least of the operands' numbers, found from the left.
use Rattle.std.proofs.Common.{◌≡◌, ℕ, suc, ◌+◌, ◌-◌, ◌<◌, ◌≤◌, ℤ, List, [], ◌∷◌, length, drop, take, get_or, refl, sym}
use Rattle.std.proofs.Common.{ap, ◌∙◌, fold, Result, Ok, Err, arith, take_all}
use Rattle.std.proofs.lemmas.List.{at_drop_more}
use Rattle.tt_exprs.specs.Apply.{extreme_of, extreme_number, with_whole, whole_operand, wholes}
use Rattle.tt_exprs.specs.declared.applying.refusal.Refusal.{Refusal}
use Rattle.tt_exprs.specs.declared.op.Op.{Op}

-- the best of this number and of those that follow, or what is wrong with one of these
abbrev pub with_best : Op → ℤ → Result (List ℤ) Refusal → Result ℤ Refusal
with_best op best (Err refusal) = Err refusal
with_best op best (Ok numbers) = Ok (fold (extreme_number op) best numbers)

pub extreme_first : (op : Op) (n : ℤ) (later : Result (List ℤ) Refusal) → extreme_of op (with_whole (Ok n) later) ≡ with_best op n later
extreme_first op n (Ok numbers) = refl
extreme_first op n (Err refusal) = refl

pub best_of_next : (op : Op) (best n : ℤ) (later : Result (List ℤ) Refusal) →
    with_best op best (with_whole (Ok n) later) ≡ with_best op (extreme_number op best n) later
best_of_next op best n (Ok numbers) = refl
best_of_next op best n (Err refusal) = refl

-- one operand more, which is whole or not
pub one_more : (op : Op) (later : List (List ℕ)) (i : ℕ) (best n : ℤ) (text : List ℕ) → i < length later → text ≡ get_or later i text →
    whole_operand op text ≡ Ok n → with_best op best (wholes op (drop i later)) ≡ with_best op (extreme_number op best n) (wholes op (drop (i + 1) later))
one_more op later i best n text within is whole =
    at_drop_more (λ texts. with_best op best (wholes op texts)) later i text within
    ∙ ap (λ r. with_best op best (with_whole r (wholes op (drop (i + 1) later)))) (ap (whole_operand op) (sym is) ∙ whole)
    ∙ best_of_next op best n (wholes op (drop (i + 1) later))

pub one_refused : (op : Op) (later : List (List ℕ)) (i : ℕ) (best : ℤ) (refusal : Refusal) (text : List ℕ) → i < length later →
    text ≡ get_or later i text → whole_operand op text ≡ Err refusal → with_best op best (wholes op (drop i later)) ≡ Err refusal
one_refused op later i best refusal text within is refused =
    at_drop_more (λ texts. with_best op best (wholes op texts)) later i text within
    ∙ ap (λ r. with_best op best (with_whole r (wholes op (drop (i + 1) later)))) (ap (whole_operand op) (sym is) ∙ refused)

-- the first operand, which is whole
pub first_whole : (op : Op) (operands : List (List ℕ)) (text : List ℕ) (n : ℤ) → 1 ≤ length operands → text ≡ get_or operands 0 text →
    whole_operand op text ≡ Ok n → extreme_of op (wholes op operands) ≡ with_best op n (wholes op (take (length operands - 1) (drop 1 operands)))
first_whole op [] text n some is whole = absurd (omega arith)
first_whole op (a ∷ operands) text n some is whole =
    let e : take (suc (length operands) - 1) operands ≡ operands = take_all _ operands (omega arith) in
    rw e (ap (λ r. extreme_of op (with_whole r (wholes op operands))) (ap (whole_operand op) (sym is) ∙ whole) ∙ extreme_first op n (wholes op operands))
