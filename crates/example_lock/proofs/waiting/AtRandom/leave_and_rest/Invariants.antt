use Rattle.std.proofs.Common.{◌≡◌, None}
use Rattle.tt_noted.specs.Passes.{IsSamePass, turn_of}
use Rattle.example_lock.proofs.waiting.AtRandom.leave_and_rest.Given as goal

abbrev pub invariant-loop : goal.invariant-loop
invariant-loop g l = IsSamePass l.lock l.fn.pass l.pass × (turn_of l.pass ≡ None)
