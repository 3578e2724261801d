-- A reply that isn't refused with the empty text.
use Rattle.std.proofs.Common.{◌≢◌, ℕ, List, [], ◌∷◌, subst}
use Rattle.std.specs.Bool.{⊤}
use Rattle.tt_calls.specs.declared.reply.Reply.{Reply}
use Rattle.tt_calls.specs.declared.reply.Reply.TheVariants.{Refused}

abbrev pub HasText : List ℕ → Type 0
HasText [] = ⊥
HasText (b ∷ text) = ⊤

abbrev pub SaysWhy : Reply → Type 0
SaysWhy (Refused message) = HasText message
SaysWhy other = ⊤

pub not_empty : (answered : Reply) → SaysWhy answered → answered ≢ Refused []
not_empty answered told is = subst SaysWhy is told
