use Rattle.std.proofs.Common.{◌≡◌, Some, None}
use Rattle.tt_noted.specs.Passes.{IsSamePass, note_of, turn_of}
use Rattle.example_lock.proofs.counting.add_many.Given as goal

abbrev pub invariant-loop-noted : goal.invariant-loop-noted
invariant-loop-noted g l = IsSamePass l.lock l.fn.pass l.pass × (turn_of l.pass ≡ None) × (note_of l.pass ≡ Some l.noted)
