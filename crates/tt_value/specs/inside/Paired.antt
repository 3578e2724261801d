-- A dictionary that is kept (dict(n)).
use Rattle.std.specs.Prelude.{ℕ, List, Option, Some, None}
use Rattle.tt_pairs.specs.Pairs.{Pairs, text_of}

-- its pairs, and its text
pub record Paired : Type 0 where
  pub pairs : Pairs
  pub text : List ℕ

-- the text that pairs were read from, or their canonical one
abbrev pub text_in : (given : Option (List ℕ)) → Pairs → List ℕ
text_in (Some text) pairs = text
text_in None pairs = text_of pairs

-- these pairs with their canonical text
abbrev pub alone : Pairs → Paired
alone pairs = record { pairs = pairs; text = text_of pairs }
