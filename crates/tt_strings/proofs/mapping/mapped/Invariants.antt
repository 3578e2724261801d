use Rattle.std.proofs.Common.{ℕ, List, ◌++◌, length}
use Rattle.tt_text.specs.Characters.{characters}
use Rattle.tt_strings.specs.Mapping.{IsMapped}
use Rattle.tt_strings.proofs.mapping.mapped.Given as goal

abbrev pub invariant-places : goal.invariant-places
invariant-places l =
    (later : List ℕ) → IsMapped l.pairs (characters l.left) later → IsMapped l.pairs (characters l.text) (l.made.items ++ later)

abbrev pub decreases-places : goal.decreases-places
decreases-places l = length l.left
