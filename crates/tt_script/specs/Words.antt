-- What a script is made of, as trees with lists: contracts see what the parser answers in this form.
use Rattle.std.specs.Prelude.{ℕ, Bool, List, [], ◌∷◌, ◌++◌}
use Rattle.tt_script.specs.declared.command.ParseFault.{ParseFault}

mutual
  -- a part of a word (Tcl(n), rules 7 to 9)
  pub data PlainPart : Type 0 where
    letters : List ℕ → PlainPart  -- bytes that stand for themselves
    variable : List ℕ → PlainPart  -- the value of a variable
    element : List ℕ → PlainParts → PlainPart  -- the value of an element of an array, and its index
    script : List ℕ → PlainPart  -- the result of a script in brackets

  -- the parts of a word or of an index, in their order
  pub data PlainParts : Type 0 where
    none : PlainParts
    more : PlainPart → PlainParts → PlainParts

-- letters before parts: they are one part with letters that stand there already, so that runs are longest
abbrev pub with_letters : List ℕ → PlainParts → PlainParts
with_letters [] parts = parts
with_letters (b ∷ bs) none = more (letters (b ∷ bs)) none
with_letters (b ∷ bs) (more (letters next) parts) = more (letters (b ∷ bs ++ next)) parts
with_letters (b ∷ bs) (more (variable name) parts) = more (letters (b ∷ bs)) (more (variable name) parts)
with_letters (b ∷ bs) (more (element name index) parts) = more (letters (b ∷ bs)) (more (element name index) parts)
with_letters (b ∷ bs) (more (script text) parts) = more (letters (b ∷ bs)) (more (script text) parts)

-- a part before parts
abbrev pub with_part : PlainPart → PlainParts → PlainParts
with_part (letters bs) parts = with_letters bs parts
with_part (variable name) parts = more (variable name) parts
with_part (element name index) parts = more (element name index) parts
with_part (script text) parts = more (script text) parts

-- a word, and whether it is expanded (Tcl(n), rule 5)
pub record PlainWord : Type 0 where
  pub expand : Bool
  pub parts : PlainParts

-- a command, the place of its first byte, the place after its last word, and the place after its terminator
pub record PlainCommand : Type 0 where
  pub words : List PlainWord
  pub start : ℕ
  pub text_end : ℕ
  pub next : ℕ

-- what a text begins with
pub data PlainFirst : Type 0 where
  nothing : PlainFirst
  bad : ParseFault → ℕ → PlainFirst  -- the fault, and the place of the command's first byte
  command : PlainCommand → PlainFirst
