use Rattle.tt_devices.specs.Streams.{Stays}
use Rattle.tt_devices.proofs.std_streams.write_some.Given as goal

abbrev pub invariant-loop : goal.invariant-loop
invariant-loop g l = Stays (g.W.Write.contents l.fn.writer) (g.W.Write.contents l.writer)
