use Rattle.std.proofs.Common.{◌≡◌, ◌≤◌, ◌-◌, length, take}
use Rattle.std.specs.Io.KnownBytes.{Keeps, prepend_known}
use Rattle.tt_devices.specs.Streams.{LosesPart}
use Rattle.tt_lines.specs.Lines.{IsInLine}
use Rattle.tt_lines.proofs.ahead.Ahead.next_line.Given as goal

abbrev pub invariant-loop-searched : goal.invariant-loop-searched
invariant-loop-searched g l =
    IsInLine (take l.searched l.self)
    × (l.searched ≤ length l.self)
    × (l.searched ≤ 16777217)
    × Keeps (prepend_known l.fn.self (g.S.Source.held l.fn.source)) (prepend_known l.self (g.S.Source.held l.source))
    × (g.S.Source.fault_count l.source ≡ g.S.Source.fault_count l.fn.source)
    × LosesPart (g.S.Source.held l.fn.source) (g.S.Source.held l.source)
    × (¬ (IsInLine l.fn.self) → (l.source ≡ l.fn.source) × (l.self ≡ l.fn.self))

abbrev pub decreases-loop-searched : goal.decreases-loop-searched
decreases-loop-searched g l = 16777217 - l.searched
