use Rattle.std.proofs.Common.{◌≡◌, ◌≤◌, ◌-◌}
use Rattle.tt_store.specs.Levels.{above}
use Rattle.tt_store.proofs.nesting.Nesting.above.Given as goal

abbrev pub invariant-callers : goal.invariant-callers
invariant-callers l =
    (l.frame ≤ l.self.current)
    × (above l.self (l.count - l.counter) l.frame ≡ above l.self l.count l.self.current)
