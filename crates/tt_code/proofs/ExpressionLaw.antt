-- The code of an expression needs what the expression needs.
use Rattle.std.proofs.Common.{◌≡◌, ℕ, ◌+◌, Bool, true, false, Result, Ok, Err, List, [], ◌∷◌, ◌++◌, length, reverse}
use Rattle.std.proofs.Common.{drop, refl, sym, ap, ◌∙◌, arith, length-append}
use Rattle.std.proofs.lemmas.List.{length-reverse, reverse-append, reverse-reverse}
use Rattle.tt_exprs.specs.Apply.{truth_of}
use Rattle.tt_exprs.specs.Trees as trees
use Rattle.tt_exprs.specs.Trees.{PlainExpr, leaf, words, node, PlainExprs}
use Rattle.tt_exprs.specs.declared.op.Op.{Op}
use Rattle.tt_code.specs.Code.{needs_from}
use Rattle.tt_code.specs.Expressions.{apply, expression, both, either, one_of, values, value_needs, condition_needs}
use Rattle.tt_code.specs.Kinds.{kind_of}
use Rattle.tt_code.specs.Making.{Instructions, before, count_of, expression_code, operator_code, both_code, either_code}
use Rattle.tt_code.specs.Making.{one_of_code, values_code, value_code, condition_code}
use Rattle.tt_code.specs.Needs.{Needs, Use, with_truth, test_needs, choose, bit}
use Rattle.tt_code.specs.declared.code.Instruction.TheVariants as code
use Rattle.tt_code.specs.declared.kind.Kind.{Kind}
use Rattle.tt_code.specs.declared.kind.Kind.TheVariants.{Eager, Both, Either, OneOf}
use Rattle.tt_code.proofs.Growing.{and_more, expression_grows, one_more, skips}
use Rattle.tt_code.proofs.Newest.{dropped, taken}
use Rattle.tt_code.proofs.WordLaw.{parts_law, same_use}

same_truth : (truth : Result Bool (List ℕ)) (f g : Bool → Needs) → f true ≡ g true → f false ≡ g false → with_truth truth f ≡ with_truth truth g
same_truth (Ok true) f g p q = p
same_truth (Ok false) f g p q = q
same_truth (Err message) f g p q = refl

applied_law : (op : Op) (n : ℕ) (done : List (List ℕ)) (rest : Instructions) (vs : List (List ℕ)) → n ≡ length done →
    needs_from (code.Apply op n ∷ rest) 0 (reverse done ++ vs) ≡ apply op done (λ v. needs_from rest 0 (v ∷ vs))
applied_law op n done rest vs e =
    let m : n ≡ length (reverse done) = e ∙ sym (length-reverse done) in
    ap (λ (k : ℕ). needs_from (code.Apply op k ∷ rest) 0 (reverse done ++ vs)) m
    ∙ ap (λ (us : List (List ℕ)). apply op (reverse us) (λ v. needs_from rest 0 (v ∷ drop (length (reverse done)) (reverse done ++ vs)))) (taken (reverse done) vs)
    ∙ ap (λ (us : List (List ℕ)). apply op (reverse (reverse done)) (λ v. needs_from rest 0 (v ∷ us))) (dropped (reverse done) vs)
    ∙ ap (λ (us : List (List ℕ)). apply op us (λ v. needs_from rest 0 (v ∷ vs))) (reverse-reverse done)

one_longer : (n k : ℕ) (done : List (List ℕ)) (v : List ℕ) → n ≡ length done + (1 + k) → n ≡ length (done ++ v ∷ []) + k
one_longer n k done v e = let h : length (done ++ v ∷ []) ≡ length done + length (v ∷ []) = length-append done (v ∷ []) in omega (arith, e, h)

-- an operator, by how it takes its operands
abbrev operator : Kind → Op → PlainExprs → Use → Needs
operator kind op operands go =
    elim kind [
      | Eager ↦ values [] operands (λ vs. apply op vs go)
      | Both ↦ both operands go
      | Either ↦ either operands go
      | OneOf ↦ one_of operands go
    ]

mutual
  pub expression_law : (e : PlainExpr) (rest : Instructions) (vs : List (List ℕ)) → needs_from (expression_code e rest) 0 vs ≡ expression e (λ v. needs_from rest 0 (v ∷ vs))
  expression_law (leaf text) rest vs = refl
  expression_law (words inside) rest vs = parts_law inside rest vs
  expression_law (node op operands) rest vs =
      elim (kind_of op) as (λ kind. needs_from (operator_code kind op operands rest) 0 vs ≡ operator kind op operands (λ v. needs_from rest 0 (v ∷ vs))) [
        | Eager ↦ values_law operands op (count_of operands) [] rest vs (omega arith)
        | Both ↦ both_law operands rest vs
        | Either ↦ either_law operands rest vs
        | OneOf ↦ one_of_law operands rest vs
      ]

  both_law : (operands : PlainExprs) (rest : Instructions) (vs : List (List ℕ)) → needs_from (both_code operands rest) 0 vs ≡ both operands (λ v. needs_from rest 0 (v ∷ vs))
  both_law (trees.more a (trees.more b trees.none)) rest vs =
      let end = code.Push (bit false) ∷ rest in
      let second = expression_code b (code.Truth ∷ code.Skip 1 ∷ end) in
      let n = before second end in
      expression_law a (code.SkipIfFalse n ∷ second) vs
      ∙ ap (expression a) (same_use
      (λ v. test_needs v (λ t. choose t (needs_from second 0 vs) (needs_from second n vs)))
      (λ v. test_needs v (λ t. choose t (expression b (λ w. test_needs w (λ u. needs_from rest 0 (bit u ∷ vs)))) (needs_from rest 0 (bit false ∷ vs))))
      (λ v. same_truth (truth_of v) (λ t. choose t (needs_from second 0 vs) (needs_from second n vs))
      (λ t. choose t (expression b (λ w. test_needs w (λ u. needs_from rest 0 (bit u ∷ vs)))) (needs_from rest 0 (bit false ∷ vs)))
      (expression_law b (code.Truth ∷ code.Skip 1 ∷ end) vs)
      (skips second end
      (and_more second (code.Truth ∷ code.Skip 1 ∷ end) end (expression_grows b (code.Truth ∷ code.Skip 1 ∷ end))
      (code.Truth ∷ code.Skip 1 ∷ [], refl)) vs)))
  both_law operands rest vs = refl

  either_law : (operands : PlainExprs) (rest : Instructions) (vs : List (List ℕ)) →
      needs_from (either_code operands rest) 0 vs ≡ either operands (λ v. needs_from rest 0 (v ∷ vs))
  either_law (trees.more a (trees.more b trees.none)) rest vs =
      let end = code.Push (bit true) ∷ rest in
      let second = expression_code b (code.Truth ∷ code.Skip 1 ∷ end) in
      let n = before second end in
      expression_law a (code.SkipIfTrue n ∷ second) vs
      ∙ ap (expression a) (same_use
      (λ v. test_needs v (λ t. choose t (needs_from second n vs) (needs_from second 0 vs)))
      (λ v. test_needs v (λ t. choose t (needs_from rest 0 (bit true ∷ vs)) (expression b (λ w. test_needs w (λ u. needs_from rest 0 (bit u ∷ vs))))))
      (λ v. same_truth (truth_of v) (λ t. choose t (needs_from second n vs) (needs_from second 0 vs))
      (λ t. choose t (needs_from rest 0 (bit true ∷ vs)) (expression b (λ w. test_needs w (λ u. needs_from rest 0 (bit u ∷ vs)))))
      (skips second end
      (and_more second (code.Truth ∷ code.Skip 1 ∷ end) end (expression_grows b (code.Truth ∷ code.Skip 1 ∷ end)) (code.Truth ∷ code.Skip 1 ∷ [], refl)) vs)
      (expression_law b (code.Truth ∷ code.Skip 1 ∷ end) vs)))
  either_law operands rest vs = refl

  one_of_law : (operands : PlainExprs) (rest : Instructions) (vs : List (List ℕ)) →
      needs_from (one_of_code operands rest) 0 vs ≡ one_of operands (λ v. needs_from rest 0 (v ∷ vs))
  one_of_law (trees.more a (trees.more b (trees.more c trees.none))) rest vs =
      let third = expression_code c rest in
      let m = before third rest in
      let second = expression_code b (code.Skip m ∷ third) in
      let n = before second third in
      expression_law a (code.SkipIfFalse n ∷ second) vs
      ∙ ap (expression a) (same_use
      (λ v. test_needs v (λ t. choose t (needs_from second 0 vs) (needs_from second n vs)))
      (λ v. test_needs v (λ t. choose t (expression b (λ w. needs_from rest 0 (w ∷ vs))) (expression c (λ w. needs_from rest 0 (w ∷ vs)))))
      (λ v. same_truth (truth_of v) (λ t. choose t (needs_from second 0 vs) (needs_from second n vs))
      (λ t. choose t (expression b (λ w. needs_from rest 0 (w ∷ vs))) (expression c (λ w. needs_from rest 0 (w ∷ vs))))
      (expression_law b (code.Skip m ∷ third) vs
      ∙ ap (expression b) (same_use (λ w. needs_from third m (w ∷ vs)) (λ w. needs_from rest 0 (w ∷ vs)) (λ w. skips third rest (expression_grows c rest) (w ∷ vs))))
      (skips second third (and_more second (code.Skip m ∷ third) third (expression_grows b (code.Skip m ∷ third)) (one_more (code.Skip m) third)) vs
      ∙ expression_law c rest vs)))
  one_of_law operands rest vs = refl

  values_law : (es : PlainExprs) (op : Op) (n : ℕ) (done : List (List ℕ)) (rest : Instructions) (vs : List (List ℕ)) → n ≡ length done + count_of es →
      needs_from (values_code es (code.Apply op n ∷ rest)) 0 (reverse done ++ vs) ≡ values done es (λ all. apply op all (λ v. needs_from rest 0 (v ∷ vs)))
  values_law trees.none op n done rest vs e = applied_law op n done rest vs (omega (arith, e))
  values_law (trees.more first es) op n done rest vs e =
      let later = values_code es (code.Apply op n ∷ rest) in
      expression_law first later (reverse done ++ vs)
      ∙ ap (expression first) (same_use
      (λ v. needs_from later 0 (v ∷ (reverse done ++ vs)))
      (λ v. values (done ++ v ∷ []) es (λ all. apply op all (λ w. needs_from rest 0 (w ∷ vs))))
      (λ v. ap (λ (us : List (List ℕ)). needs_from later 0 (us ++ vs)) (sym (reverse-append done (v ∷ [])))
      ∙ values_law es op n (done ++ v ∷ []) rest vs (one_longer n (count_of es) done v e)))

pub value_law : (e : PlainExpr) → needs_from (value_code e) 0 [] ≡ value_needs e
value_law e = expression_law e (code.Result ∷ code.Give ∷ []) []

pub condition_law : (e : PlainExpr) → needs_from (condition_code e) 0 [] ≡ condition_needs e
condition_law e = expression_law e (code.Result ∷ code.Truth ∷ code.Give ∷ []) []
