use Rattle.std.proofs.Common.{◌≡◌, ◌++◌, length}
use Rattle.tt_chans.proofs.pipe.Pipe.take_bytes.Given as goal

abbrev pub invariant-loop : goal.invariant-loop
invariant-loop l = (l.bytes.items ++ l.self ≡ l.fn.self) × (length l.bytes.items ≡ l.counter)
