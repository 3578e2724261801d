use Rattle.std.proofs.Common.{◌≡◌, ◌++◌, length}
use Rattle.std.specs.Option.{option_map}
use Rattle.tt_procedures.specs.Calling.{arguments_of}
use Rattle.tt_procedures.proofs.calling.arguments_of.Given as goal

abbrev pub invariant-loop-rest : goal.invariant-loop-rest
invariant-loop-rest l =
    arguments_of l.parameters l.words ≡ option_map (λ later. l.arguments ++ later) (arguments_of l.rest l.left)

abbrev pub decreases-loop-rest : goal.decreases-loop-rest
decreases-loop-rest l = length l.rest
