-- The tests and bodies in the words of if(n).
use Rattle.std.specs.Prelude.{ℕ, Bool, true, false, bytes_eq, List, [], ◌∷◌, codes, Option, Some, None, if◌then◌else◌}
use Rattle.std.specs.Option.{option_map}
use Rattle.tt_control.specs.Refusals.{Meaning}
use Rattle.tt_control.specs.declared.branches.Place.{Place}
use Rattle.tt_control.specs.declared.branches.Place.TheVariants.{Test, ThenOrBody, Body, Later, LastBody, End}
use Rattle.tt_control.specs.declared.branches.Step.{Step}
use Rattle.tt_control.specs.declared.branches.Step.TheVariants.{Clause, Keyword, Surplus}
use Rattle.tt_control.specs.declared.control.Control.TheVariants.{If}

-- what a word is at its place, and what stands after it:
-- `expr1 ?then? body1 ?elseif expr2 ?then? body2 ...? ?else? ?bodyN?`
abbrev pub step_at : Place → (word : List ℕ) → Step
step_at Test word = Clause ThenOrBody
step_at ThenOrBody word = if bytes_eq word (codes "then") then Keyword Body else Clause Later
step_at Body word = Clause Later
step_at Later word =
    if bytes_eq word (codes "elseif") then Keyword Test else
    if bytes_eq word (codes "else") then Keyword LastBody else Clause End
step_at LastBody word = Clause End
step_at End word = Surplus

-- the words may end at a place
abbrev pub may_end : Place → Bool
may_end Test = false
may_end ThenOrBody = false
may_end Body = false
may_end Later = true
may_end LastBody = false
may_end End = true

-- the tests and bodies in words from a place on, unless one is lacking or a word is too many
abbrev pub clauses : Place → (words : List (List ℕ)) → Option (List (List ℕ))
clauses place [] = if may_end place then Some [] else None
clauses place (word ∷ words) =
    elim (step_at place word) [
      | Clause next ↦ option_map (λ later. word ∷ later) (clauses next words)
      | Keyword next ↦ clauses next words
      | Surplus ↦ None
    ]

abbrev pub branch : Meaning
branch wrong words = elim (clauses Test words) [ Some found ↦ If found | None ↦ wrong ]
