-- How expressions are evaluated, operands from the left (expr(n), Operands and Operators).
use Rattle.std.specs.Prelude.{ℕ, Bool, true, false, not, ◌||◌, List, [], ◌∷◌, ◌++◌, length}
use Rattle.tt_exprs.specs.Apply.{operator_outcome, is_lazy, result_of}
use Rattle.tt_exprs.specs.Operators.{takes}
use Rattle.tt_exprs.specs.Trees.{PlainExpr, leaf, words, node, PlainExprs, none, more}
use Rattle.tt_exprs.specs.declared.op.Op.{Op}
use Rattle.tt_code.specs.Kinds.{kind_of}
use Rattle.tt_code.specs.Needs.{Needs, Refused, Values, Use, UseAll, wrong_operands, test_needs, unless_failed}
use Rattle.tt_code.specs.Needs.{choose, bit}
use Rattle.tt_code.specs.Substitution.{parts}
use Rattle.tt_code.specs.declared.kind.Kind.TheVariants.{Eager, Both, Either, OneOf}

-- an operator is applied to no such operands
abbrev pub misapplies : Op → List (List ℕ) → Bool
misapplies op operands = is_lazy op || not (takes op (length operands))

-- what an operator gives on the values of all its operands
abbrev pub apply : Op → List (List ℕ) → Use → Needs
apply op operands go =
    choose (misapplies op operands) (Refused wrong_operands) (unless_failed (operator_outcome op operands) go)

abbrev mutual
  pub expression : PlainExpr → Use → Needs
  expression (leaf text) go = go text
  expression (words inside) go = parts [] inside go
  expression (node op operands) go =
      elim (kind_of op) [
        | Eager ↦ values [] operands (λ vs. apply op vs go)
        | Both ↦ both operands go
        | Either ↦ either operands go
        | OneOf ↦ one_of operands go
      ]

  -- `&&`: the second operand counts if the first is true
  pub both : PlainExprs → Use → Needs
  both (more a (more b none)) go =
      expression a
      (λ v. test_needs v (λ t. choose t (expression b (λ w. test_needs w (λ u. go (bit u)))) (go (bit false))))
  both operands go = Refused wrong_operands

  -- `||`: the second operand counts if the first is false
  pub either : PlainExprs → Use → Needs
  either (more a (more b none)) go =
      expression a
      (λ v. test_needs v (λ t. choose t (go (bit true)) (expression b (λ w. test_needs w (λ u. go (bit u))))))
  either operands go = Refused wrong_operands

  -- `? :`: the second operand or the third, by the truth of the first
  pub one_of : PlainExprs → Use → Needs
  one_of (more a (more b (more c none))) go =
      expression a (λ v. test_needs v (λ t. choose t (expression b go) (expression c go)))
  one_of operands go = Refused wrong_operands

  -- operands, each after the values of those that are done
  pub values : (done : List (List ℕ)) → PlainExprs → UseAll → Needs
  values done none go = go done
  values done (more first later) go = expression first (λ v. values (done ++ v ∷ []) later go)

-- the result of a value: a whole number in decimal, another text as it stands; a float and a number past 64 bits are
-- errors
abbrev pub with_result : List ℕ → Use → Needs
with_result value go = unless_failed (result_of value) go

-- a whole expression as a value (expr(n))
abbrev pub value_needs : PlainExpr → Needs
value_needs whole = expression whole (λ v. with_result v (λ r. Values (r ∷ [])))

-- a whole expression as a condition (if(n), while(n)): its result as a truth
abbrev pub condition_needs : PlainExpr → Needs
condition_needs whole = expression whole (λ v. with_result v (λ r. test_needs r (λ t. Values (bit t ∷ []))))
