-- A row of a table of commands: a name, a usage, and a meaning, which gives the right answers to words.
use Rattle.std.specs.Prelude.{◌≡◌, ℕ, List}
use Rattle.tt_lists.specs.declared.answer.ListAnswer.{ListAnswer}

-- whether an answer is the right one to words, if another is the one to a wrong number of them
abbrev pub Meaning : Type 1
Meaning = (wrong : ListAnswer) → (words : List (List ℕ)) → ListAnswer → Type 0

-- one answer is right, and no number of words is wrong
abbrev pub always : (List (List ℕ) → ListAnswer) → Meaning
always right wrong words answer = answer ≡ right words

-- one answer is right
abbrev pub is : (ListAnswer → List (List ℕ) → ListAnswer) → Meaning
is right wrong words answer = answer ≡ right wrong words

pub record Row : Type 1 where
  pub name : List ℕ
  pub usage : List ℕ
  pub meaning : Meaning

abbrev pub row : (name usage : List ℕ) → Meaning → Row
row name usage meaning = record { name = name; usage = usage; meaning = meaning }
