use Rattle.std.proofs.Common.{◌≡◌, None}
use Rattle.tt_noted.specs.Passes.{IsSamePass, note_of, turn_of}
use Rattle.tt_workers.proofs.WorkerLemmas.{Carries}
use Rattle.tt_workers.proofs.carrier.carry.Given as goal

abbrev pub invariant-loop : goal.invariant-loop
invariant-loop g l = IsSamePass l.lock l.fn.pass l.pass × (turn_of l.pass ≡ None) × Carries (note_of l.fn.pass) (note_of l.pass) l.done
