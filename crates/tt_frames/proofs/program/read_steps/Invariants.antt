use Rattle.std.proofs.Common.{◌≡◌}
use Rattle.tt_frames.specs.Programs.{plain_steps, program_of}
use Rattle.tt_frames.proofs.program.read_steps.Given as goal

abbrev pub invariant-commands : goal.invariant-commands
invariant-commands l =
    (plain_steps l.steps.items ≡ (program_of l.text l.counter).steps) × (l.next ≡ (program_of l.text l.counter).next)
