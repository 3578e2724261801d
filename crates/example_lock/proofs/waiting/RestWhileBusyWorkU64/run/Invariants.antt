use Rattle.std.proofs.Common.{◌≡◌, None}
use Rattle.tt_noted.specs.Passes.{IsSamePass, turn_of}
use Rattle.example_lock.proofs.waiting.RestWhileBusyWorkU64.run.Given as goal

abbrev pub invariant-loop : goal.invariant-loop
invariant-loop g l =
    (goal.iterator-loop g).can_next l.iterator' × (goal.iterator-loop g).is_finite l.iterator' × IsSamePass l.lock l.fn.pass l.pass × (turn_of l.pass ≡ None)
