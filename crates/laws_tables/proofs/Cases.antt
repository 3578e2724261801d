-- Either of two answers, and what holds of all replies of a kind.
use Rattle.std.proofs.Common.{ℕ, Bool, true, false, if◌then◌else◌, List, [], ◌∷◌}
use Rattle.tt_calls.specs.declared.reply.Reply.{Reply}
use Rattle.tt_calls.specs.declared.reply.Reply.TheVariants as reply

pub by_if : {X : Type 0} (P : X → Type 0) (b : Bool) (one other : X) → P one → P other → P (if b then one else other)
by_if P true one other first second = first
by_if P false one other first second = second

module _ (P : Reply → Type 0) where
  -- refused with a text that is not empty, and with the empty one
  abbrev pub Refuses : Type 0
  Refuses = (b : ℕ) (text : List ℕ) → P (reply.Refused (b ∷ text))

  abbrev pub Empty : Type 0
  Empty = P (reply.Refused [])

  abbrev pub Values : Type 0
  Values = (text : List ℕ) → P (reply.Value text)
