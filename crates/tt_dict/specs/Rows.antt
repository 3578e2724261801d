-- A row of the table: a name, a usage, and a meaning.
use Rattle.std.specs.Prelude.{ℕ, List, [], ◌∷◌}
use Rattle.tt_calls.specs.declared.outcome.Outcome.{Outcome}
use Rattle.tt_pairs.specs.Reading.{Reading, reading_of}
use Rattle.tt_dict.specs.declared.call.DictCall.{DictCall}
use Rattle.tt_dict.specs.declared.call.DictCall.TheVariants.{Done}

-- what words come to, if another thing is the answer to a wrong number of them
abbrev pub Meaning : Type 0
Meaning = (wrong : Outcome) → (words : List (List ℕ)) → DictCall

-- an answer to the words
abbrev pub answers : ((wrong : Outcome) → (words : List (List ℕ)) → Outcome) → Meaning
answers answer wrong words = Done (answer wrong words)

-- an answer to what the first word is read as, and to the words after it
abbrev pub reads :
    (answer : (wrong : Outcome) → Reading → (words : List (List ℕ)) → Outcome) →
    (wrong : Outcome) → (words : List (List ℕ)) → Outcome
reads answer wrong [] = wrong
reads answer wrong (dictionary ∷ words) = answer wrong (reading_of dictionary) words

pub record Row : Type 0 where
  pub name : List ℕ
  pub usage : List ℕ
  pub meaning : Meaning

abbrev pub row : (name usage : List ℕ) → Meaning → Row
row name usage meaning = record { name = name; usage = usage; meaning = meaning }
