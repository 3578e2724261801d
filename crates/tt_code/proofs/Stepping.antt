-- Where code stands.
use Rattle.std.proofs.Common.{◌≡◌, ℕ, zero, suc, ◌+◌, ◌<◌, ◌≤◌, List, [], ◌∷◌, length, get_or, reverse, refl, sym, ap, ◌∙◌, arith}
use Rattle.tt_code.specs.Code.{Next, act, needs_from}
use Rattle.tt_code.specs.Making.{Instructions}
use Rattle.tt_code.specs.Needs.{Values}
use Rattle.tt_code.specs.Running.{halt_needs}
use Rattle.tt_code.specs.inside.Turns.{step_needs}
use Rattle.tt_code.specs.declared.code.Instruction.{Instruction}
use Rattle.tt_code.specs.declared.steps.Halt.{Halt}
use Rattle.tt_code.specs.declared.steps.Step.TheVariants as steps

same_next : (f g : Next) → ((n : ℕ) (vs : List (List ℕ)) → f n vs ≡ g n vs) → f ≡ g
same_next f g same = λ i n vs. same n vs i

-- at an instruction
pub at_instruction : (is : Instructions) (place : ℕ) (i : Instruction) (vs : List (List ℕ)) → place < length is → i ≡ get_or is place i →
    needs_from is place vs ≡ act i (λ n ws. needs_from is (place + 1 + n) ws) vs
at_instruction [] place i vs h e = absurd (omega (arith, h))
at_instruction (first ∷ is) zero i vs h e =
    ap (λ (j : Instruction). act j (needs_from is) vs) (sym e)
    ∙ ap (λ (next : Next). act i next vs) (same_next (needs_from is) (λ n ws. needs_from (first ∷ is) (0 + 1 + n) ws) (λ n ws. let m : suc n ≡ 0 + 1 + n = omega arith in ap (λ (k : ℕ). needs_from (first ∷ is) k ws) m))
at_instruction (first ∷ is) (suc place) i vs h e =
    at_instruction is place i vs (omega (arith, h)) e
    ∙ ap (λ (next : Next). act i next vs) (same_next (λ n ws. needs_from is (place + 1 + n) ws) (λ n ws. needs_from (first ∷ is) (suc place + 1 + n) ws) (λ n ws. let m : suc (place + 1 + n) ≡ suc place + 1 + n = omega arith in ap (λ (k : ℕ). needs_from (first ∷ is) k ws) m))

-- at the end
pub at_end : (is : Instructions) (place : ℕ) (vs : List (List ℕ)) → length is ≤ place → needs_from is place vs ≡ Values (reverse vs)
at_end [] place vs h = refl
at_end (first ∷ is) zero vs h = absurd (omega (arith, h))
at_end (first ∷ is) (suc place) vs h = at_end is place vs (omega (arith, h))

-- an instruction is done
pub goes : (is : Instructions) (place count next : ℕ) (i : Instruction) (vs us : List (List ℕ)) → place < length is → i ≡ get_or is place i →
    next ≡ place + 1 + count → ((next : Next) → act i next vs ≡ step_needs (steps.Goes count) next us) → needs_from is place vs ≡ needs_from is next us
goes is place count next i vs us h e p law =
    at_instruction is place i vs h e ∙ law (λ n ws. needs_from is (place + 1 + n) ws) ∙ ap (λ (k : ℕ). needs_from is k us) (sym p)

pub halts : (is : Instructions) (place : ℕ) (halt : Halt) (i : Instruction) (vs us : List (List ℕ)) → place < length is → i ≡ get_or is place i →
    ((next : Next) → act i next vs ≡ step_needs (steps.Halts halt) next us) → needs_from is place vs ≡ halt_needs halt (λ v. needs_from is (place + 1) (v ∷ us))
halts is place halt i vs us h e law =
    let p : place + 1 + 0 ≡ place + 1 = omega arith in
    at_instruction is place i vs h e ∙ law (λ n ws. needs_from is (place + 1 + n) ws) ∙ ap (λ (k : ℕ). halt_needs halt (λ v. needs_from is k (v ∷ us))) p
