use Rattle.std.proofs.Common.{◌≡◌, ◌-◌, length}
use Rattle.std.specs.Io.KnownBytes.{Consumes}
use Rattle.tt_devices.proofs.whole.read_whole.Given as goal

abbrev pub invariant-loop-chunk : goal.invariant-loop-chunk
invariant-loop-chunk g l =
    Consumes (g.S.Source.held l.fn.source) (g.S.Source.held l.source) l.bytes.items
    × (g.S.Source.fault_count l.source ≡ g.S.Source.fault_count l.fn.source)

abbrev pub decreases-loop-chunk : goal.decreases-loop-chunk
decreases-loop-chunk g l = 268435457 - length l.bytes.items
