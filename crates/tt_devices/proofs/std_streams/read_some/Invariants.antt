use Rattle.tt_devices.specs.Streams.{Stays}
use Rattle.tt_devices.proofs.std_streams.read_some.Given as goal

abbrev pub invariant-loop : goal.invariant-loop
invariant-loop g l = Stays (g.R.Read.remaining l.fn.reader) (g.R.Read.remaining l.reader)
