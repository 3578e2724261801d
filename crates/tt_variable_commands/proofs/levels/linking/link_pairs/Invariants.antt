use Rattle.std.proofs.Common.{◌≤◌, length}
use Rattle.tt_variable_commands.specs.Linking.{LinksPair, pairs_of}
use Rattle.tt_variable_commands.proofs.Turning.{GoesOn}
use Rattle.tt_variable_commands.proofs.levels.linking.link_pairs.Given as goal

abbrev pub invariant-loop-left : goal.invariant-loop-left
invariant-loop-left l =
    (l.frame ≤ l.store.levels.current)
    × GoesOn (LinksPair l.frame) (pairs_of l.left) l.store (pairs_of l.names) l.fn.store

abbrev pub decreases-loop-left : goal.decreases-loop-left
decreases-loop-left l = length l.left
