use Rattle.std.proofs.Common.{◌≡◌, None}
use Rattle.tt_noted.specs.Passes.{IsSamePass, turn_of}
use Rattle.bench_lock.proofs.count_quietly.Given as goal

abbrev pub invariant-loop : goal.invariant-loop
invariant-loop g l = IsSamePass l.lock l.fn.pass l.pass × (turn_of l.pass ≡ None)
