use Rattle.std.proofs.Common.{ℕ, List, ◌++◌, length}
use Rattle.tt_text.specs.Characters.{characters}
use Rattle.tt_strings.specs.Splitting.{IsSplit}
use Rattle.tt_strings.proofs.splitting.fields.Given as goal

abbrev pub invariant-fields : goal.invariant-fields
invariant-fields l =
    (more : List (List ℕ)) → IsSplit (characters l.splitting) (characters l.left) more → IsSplit (characters l.splitting) (characters l.text) (l.fields ++ more)

abbrev pub decreases-fields : goal.decreases-fields
decreases-fields l = length l.left
