-- A row of a table of commands: a name, a usage, and what words mean.
use Rattle.std.specs.Prelude.{ℕ, List}
use Rattle.tt_command_tables.specs.Usages.{wrong_number}
use Rattle.tt_command_tables.specs.declared.call.Call.{Call}

-- what the words after a name mean in a thread; a wrong number of them means something else
abbrev pub Meaning : Type 0
Meaning = (me : ℕ) → (wrong : Call) → (words : List (List ℕ)) → Call

-- it is the same in all threads
abbrev pub by_words : ((wrong : Call) → (words : List (List ℕ)) → Call) → Meaning
by_words meaning me wrong words = meaning wrong words

pub record Row : Type 0 where
  pub name : List ℕ
  pub usage : List ℕ
  pub meaning : Meaning

abbrev pub row : (name usage : List ℕ) → Meaning → Row
row name usage meaning = record { name = name; usage = usage; meaning = meaning }

-- what words mean by a row
abbrev pub meaning_by : Row → (me : ℕ) → (words : List (List ℕ)) → Call
meaning_by row me words = row.meaning me (wrong_number row.usage) words
