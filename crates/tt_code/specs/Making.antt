-- The code of words and expressions, each piece in front of what follows it.
use Rattle.std.specs.Prelude.{ℕ, ◌+◌, ◌-◌, Bool, true, false, List, [], ◌∷◌, length}
use Rattle.tt_script.specs.Words.{PlainPart, letters, variable, element, script, PlainParts, none, more, PlainWord}
use Rattle.tt_exprs.specs.Trees as trees
use Rattle.tt_exprs.specs.Trees.{PlainExpr, leaf, words, node, PlainExprs}
use Rattle.tt_exprs.specs.declared.op.Op.{Op}
use Rattle.tt_code.specs.Kinds.{kind_of}
use Rattle.tt_code.specs.Needs.{bit}
use Rattle.tt_code.specs.declared.code.Instruction.{Instruction}
use Rattle.tt_code.specs.declared.code.Instruction.TheVariants as code
use Rattle.tt_code.specs.declared.kind.Kind.{Kind}
use Rattle.tt_code.specs.declared.kind.Kind.TheVariants.{Eager, Both, Either, OneOf}

abbrev pub Instructions : Type 0
Instructions = List Instruction

-- ---- words ----

abbrev mutual
  pub part_code : PlainPart → Instructions → Instructions
  part_code (letters text) rest = code.Push text ∷ rest
  part_code (variable name) rest = code.Variable name ∷ rest
  part_code (element name index) rest = parts_code index (code.Element name ∷ rest)
  part_code (script text) rest = code.Script text ∷ rest

  -- parts after a value, each appended to it
  pub later_code : PlainParts → Instructions → Instructions
  later_code none rest = rest
  later_code (more first later) rest = part_code first (code.Append ∷ later_code later rest)

  pub parts_code : PlainParts → Instructions → Instructions
  parts_code none rest = code.Push [] ∷ rest
  parts_code (more first later) rest = part_code first (later_code later rest)

abbrev pub expansion : (expand : Bool) → Instructions → Instructions
expansion true rest = code.Expand ∷ rest
expansion false rest = rest

abbrev pub words_code : List PlainWord → Instructions → Instructions
words_code [] rest = rest
words_code (word ∷ later) rest = parts_code word.parts (expansion word.expand (words_code later rest))

-- ---- expressions ----

-- how many instructions stand in front of the rest
abbrev pub before : (whole rest : Instructions) → ℕ
before whole rest = length whole - length rest

-- how many operands there are
abbrev pub count_of : PlainExprs → ℕ
count_of trees.none = 0
count_of (trees.more first later) = 1 + count_of later

abbrev mutual
  pub expression_code : PlainExpr → Instructions → Instructions
  expression_code (leaf text) rest = code.Push text ∷ rest
  expression_code (words inside) rest = parts_code inside rest
  expression_code (node op operands) rest =
      elim (kind_of op) [
        | Eager ↦ values_code operands (code.Apply op (count_of operands) ∷ rest)
        | Both ↦ both_code operands rest
        | Either ↦ either_code operands rest
        | OneOf ↦ one_of_code operands rest
      ]

  pub both_code : PlainExprs → Instructions → Instructions
  both_code (trees.more a (trees.more b trees.none)) rest =
      let end = code.Push (bit false) ∷ rest in
      let second = expression_code b (code.Truth ∷ code.Skip 1 ∷ end) in
      expression_code a (code.SkipIfFalse (before second end) ∷ second)
  both_code operands rest = code.WrongOperands ∷ rest

  pub either_code : PlainExprs → Instructions → Instructions
  either_code (trees.more a (trees.more b trees.none)) rest =
      let end = code.Push (bit true) ∷ rest in
      let second = expression_code b (code.Truth ∷ code.Skip 1 ∷ end) in
      expression_code a (code.SkipIfTrue (before second end) ∷ second)
  either_code operands rest = code.WrongOperands ∷ rest

  pub one_of_code : PlainExprs → Instructions → Instructions
  one_of_code (trees.more a (trees.more b (trees.more c trees.none))) rest =
      let third = expression_code c rest in
      let second = expression_code b (code.Skip (before third rest) ∷ third) in
      expression_code a (code.SkipIfFalse (before second third) ∷ second)
  one_of_code operands rest = code.WrongOperands ∷ rest

  pub values_code : PlainExprs → Instructions → Instructions
  values_code trees.none rest = rest
  values_code (trees.more first later) rest = expression_code first (values_code later rest)

-- an operator, by how it takes its operands
abbrev pub operator_code : Kind → Op → PlainExprs → Instructions → Instructions
operator_code kind op operands rest =
    elim kind [
      | Eager ↦ values_code operands (code.Apply op (count_of operands) ∷ rest)
      | Both ↦ both_code operands rest
      | Either ↦ either_code operands rest
      | OneOf ↦ one_of_code operands rest
    ]

-- an operand whose truth counts, before an instruction for where it isn't evaluated
abbrev pub truth_code : PlainExpr → Instructions → Instructions
truth_code operand rest = expression_code operand (code.Truth ∷ code.Skip 1 ∷ rest)

-- a whole expression as a value
abbrev pub value_code : PlainExpr → Instructions
value_code whole = expression_code whole (code.Result ∷ code.Give ∷ [])

-- a whole expression as a condition
abbrev pub condition_code : PlainExpr → Instructions
condition_code whole = expression_code whole (code.Result ∷ code.Truth ∷ code.Give ∷ [])
