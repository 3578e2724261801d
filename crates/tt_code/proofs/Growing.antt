-- The code of a piece stands in front of what follows it, so that a skip over it comes there.
use Rattle.std.proofs.Common.{◌≡◌, ℕ, ◌+◌, true, false, List, [], ◌∷◌, ◌++◌, length, refl, sym, ap, ◌∙◌, arith, append_assoc, length-append}
use Rattle.tt_script.specs.Words.{PlainPart, letters, variable, element, script, PlainParts, none, more}
use Rattle.tt_exprs.specs.Trees as trees
use Rattle.tt_exprs.specs.Trees.{PlainExpr, leaf, words, node, PlainExprs}
use Rattle.tt_code.specs.Code.{needs_from}
use Rattle.tt_code.specs.Kinds.{kind_of}
use Rattle.tt_code.specs.Making.{Instructions, part_code, later_code, parts_code, before, count_of, expression_code}
use Rattle.tt_code.specs.Making.{operator_code, both_code, either_code, one_of_code, values_code}
use Rattle.tt_code.specs.Needs.{bit}
use Rattle.tt_code.specs.declared.code.Instruction.{Instruction}
use Rattle.tt_code.specs.declared.code.Instruction.TheVariants as code
use Rattle.tt_code.specs.declared.kind.Kind.TheVariants.{Eager, Both, Either, OneOf}

abbrev pub Grows : (whole rest : Instructions) → Type 0
Grows whole rest = (front : Instructions) × (whole ≡ front ++ rest)

passed : (front rest : Instructions) (vs : List (List ℕ)) → needs_from (front ++ rest) (length front) vs ≡ needs_from rest 0 vs
passed [] rest vs = refl
passed (first ∷ front) rest vs = passed front rest vs

measured : (front rest : Instructions) → before (front ++ rest) rest ≡ length front
measured front rest = let e : length (front ++ rest) ≡ length front + length rest = length-append front rest in omega (arith, e)

pub skips : (whole rest : Instructions) → Grows whole rest → (vs : List (List ℕ)) → needs_from whole (before whole rest) vs ≡ needs_from rest 0 vs
skips whole rest (front, e) vs =
    ap (λ (w : Instructions). needs_from w (before w rest) vs) e
    ∙ ap (λ (n : ℕ). needs_from (front ++ rest) n vs) (measured front rest)
    ∙ passed front rest vs

pub one_more : (first : Instruction) (rest : Instructions) → Grows (first ∷ rest) rest
one_more first rest = (first ∷ [], refl)

pub and_more : (a b c : Instructions) → Grows a b → Grows b c → Grows a c
and_more a b c (front, e) (later, h) =
    (front ++ later, e ∙ ap (λ (w : Instructions). front ++ w) h ∙ sym (append_assoc front later c))

mutual
  part_grows : (p : PlainPart) (rest : Instructions) → Grows (part_code p rest) rest
  part_grows (letters text) rest = one_more (code.Push text) rest
  part_grows (variable name) rest = one_more (code.Variable name) rest
  part_grows (element name index) rest =
      and_more (parts_code index (code.Element name ∷ rest)) (code.Element name ∷ rest) rest
      (parts_grows index (code.Element name ∷ rest)) (one_more (code.Element name) rest)
  part_grows (script text) rest = one_more (code.Script text) rest

  later_grows : (ps : PlainParts) (rest : Instructions) → Grows (later_code ps rest) rest
  later_grows none rest = ([], refl)
  later_grows (more p ps) rest =
      and_more (part_code p (code.Append ∷ later_code ps rest)) (code.Append ∷ later_code ps rest) rest
      (part_grows p (code.Append ∷ later_code ps rest))
      (and_more (code.Append ∷ later_code ps rest) (later_code ps rest) rest (one_more code.Append (later_code ps rest)) (later_grows ps rest))

  parts_grows : (ps : PlainParts) (rest : Instructions) → Grows (parts_code ps rest) rest
  parts_grows none rest = one_more (code.Push []) rest
  parts_grows (more p ps) rest =
      and_more (part_code p (later_code ps rest)) (later_code ps rest) rest (part_grows p (later_code ps rest)) (later_grows ps rest)

-- a piece, an instruction, and a piece that grows
around : (whole : Instructions) (first : Instruction) (second rest : Instructions) → Grows whole (first ∷ second) → Grows second rest → Grows whole rest
around whole first second rest g h =
    and_more whole (first ∷ second) rest g (and_more (first ∷ second) second rest (one_more first second) h)

mutual
  pub expression_grows : (e : PlainExpr) (rest : Instructions) → Grows (expression_code e rest) rest
  expression_grows (leaf text) rest = one_more (code.Push text) rest
  expression_grows (words inside) rest = parts_grows inside rest
  expression_grows (node op operands) rest =
      elim (kind_of op) as (λ kind. Grows (operator_code kind op operands rest) rest) [
        | Eager ↦
            and_more (values_code operands (code.Apply op (count_of operands) ∷ rest)) (code.Apply op (count_of operands) ∷ rest) rest
            (values_grows operands (code.Apply op (count_of operands) ∷ rest)) (one_more (code.Apply op (count_of operands)) rest)
        | Both ↦ both_grows operands rest
        | Either ↦ either_grows operands rest
        | OneOf ↦ one_of_grows operands rest
      ]

  both_grows : (operands : PlainExprs) (rest : Instructions) → Grows (both_code operands rest) rest
  both_grows (trees.more a (trees.more b trees.none)) rest =
      let end = code.Push (bit false) ∷ rest in
      let second = expression_code b (code.Truth ∷ code.Skip 1 ∷ end) in
      around (expression_code a (code.SkipIfFalse (before second end) ∷ second)) (code.SkipIfFalse (before second end)) second rest
      (expression_grows a (code.SkipIfFalse (before second end) ∷ second))
      (and_more second (code.Truth ∷ code.Skip 1 ∷ end) rest (expression_grows b (code.Truth ∷ code.Skip 1 ∷ end))
      (code.Truth ∷ code.Skip 1 ∷ code.Push (bit false) ∷ [], refl))
  both_grows operands rest = one_more code.WrongOperands rest

  either_grows : (operands : PlainExprs) (rest : Instructions) → Grows (either_code operands rest) rest
  either_grows (trees.more a (trees.more b trees.none)) rest =
      let end = code.Push (bit true) ∷ rest in
      let second = expression_code b (code.Truth ∷ code.Skip 1 ∷ end) in
      around (expression_code a (code.SkipIfTrue (before second end) ∷ second)) (code.SkipIfTrue (before second end)) second rest
      (expression_grows a (code.SkipIfTrue (before second end) ∷ second))
      (and_more second (code.Truth ∷ code.Skip 1 ∷ end) rest (expression_grows b (code.Truth ∷ code.Skip 1 ∷ end))
      (code.Truth ∷ code.Skip 1 ∷ code.Push (bit true) ∷ [], refl))
  either_grows operands rest = one_more code.WrongOperands rest

  one_of_grows : (operands : PlainExprs) (rest : Instructions) → Grows (one_of_code operands rest) rest
  one_of_grows (trees.more a (trees.more b (trees.more c trees.none))) rest =
      let third = expression_code c rest in
      let second = expression_code b (code.Skip (before third rest) ∷ third) in
      around (expression_code a (code.SkipIfFalse (before second third) ∷ second)) (code.SkipIfFalse (before second third)) second rest
      (expression_grows a (code.SkipIfFalse (before second third) ∷ second))
      (around second (code.Skip (before third rest)) third rest (expression_grows b (code.Skip (before third rest) ∷ third)) (expression_grows c rest))
  one_of_grows operands rest = one_more code.WrongOperands rest

  values_grows : (es : PlainExprs) (rest : Instructions) → Grows (values_code es rest) rest
  values_grows trees.none rest = ([], refl)
  values_grows (trees.more e es) rest =
      and_more (expression_code e (values_code es rest)) (values_code es rest) rest (expression_grows e (values_code es rest)) (values_grows es rest)
