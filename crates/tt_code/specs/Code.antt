-- What code means: instructions over the values so far, of which the newest is first.
use Rattle.std.specs.Prelude.{ℕ, zero, suc, List, [], ◌∷◌, ◌++◌, Some, None, reverse, take, drop}
use Rattle.tt_code.specs.Expressions.{apply, with_result}
use Rattle.tt_code.specs.Needs.{Needs, Variable, Script, Refused, Values, wrong_operands, expansion_needs, test_needs}
use Rattle.tt_code.specs.Needs.{choose, bit}
use Rattle.tt_code.specs.declared.code.Code.{Code}
use Rattle.tt_code.specs.declared.code.Instruction.{Instruction}
use Rattle.tt_code.specs.declared.code.Instruction.TheVariants as code

-- what comes next: after so many instructions more, with these values
abbrev pub Next : Type 0
Next = ℕ → List (List ℕ) → Needs

-- with the newest value and those before it
abbrev pub on_newest : List (List ℕ) → (List ℕ → List (List ℕ) → Needs) → Needs
on_newest [] go = Refused wrong_operands
on_newest (v ∷ vs) go = go v vs

-- one instruction
abbrev pub act : Instruction → Next → List (List ℕ) → Needs
act (code.Push text) next vs = next 0 (text ∷ vs)
act (code.Variable name) next vs = Variable name None (λ v. next 0 (v ∷ vs))
act (code.Element name) next vs = on_newest vs (λ index ws. Variable name (Some index) (λ v. next 0 (v ∷ ws)))
act (code.Script text) next vs = Script text (λ v. next 0 (v ∷ vs))
act code.Append next vs = on_newest vs (λ b ws. on_newest ws (λ a us. next 0 ((a ++ b) ∷ us)))
act code.Expand next vs = on_newest vs (λ v ws. expansion_needs v (λ items. next 0 (reverse items ++ ws)))
act (code.Apply op count) next vs = apply op (reverse (take count vs)) (λ v. next 0 (v ∷ drop count vs))
act code.Truth next vs = on_newest vs (λ v ws. test_needs v (λ t. next 0 (bit t ∷ ws)))
act (code.Skip count) next vs = next count vs
act (code.SkipIfFalse count) next vs = on_newest vs (λ v ws. test_needs v (λ t. choose t (next 0 ws) (next count ws)))
act (code.SkipIfTrue count) next vs = on_newest vs (λ v ws. test_needs v (λ t. choose t (next count ws) (next 0 ws)))
act code.Result next vs = on_newest vs (λ v ws. with_result v (λ r. next 0 (r ∷ ws)))
act code.Give next vs = on_newest vs (λ v ws. Values (v ∷ []))
act code.WrongOperands next vs = Refused wrong_operands

-- instructions from a place on; at their end they have come to their values, the oldest first
abbrev pub needs_from : List Instruction → (place : ℕ) → List (List ℕ) → Needs
needs_from [] place vs = Values (reverse vs)
needs_from (first ∷ later) zero vs = act first (needs_from later) vs
needs_from (first ∷ later) (suc place) vs = needs_from later place vs

-- what code needs that is begun
abbrev pub needs_of : Code → Needs
needs_of whole = needs_from whole.instructions.items 0 []
