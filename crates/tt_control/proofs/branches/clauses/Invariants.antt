use Rattle.std.proofs.Common.{length, ◌≡◌, ◌++◌}
use Rattle.std.specs.Option.{option_map}
use Rattle.tt_control.specs.Branches.{clauses}
use Rattle.tt_control.specs.declared.branches.Place.TheVariants.{Test}
use Rattle.tt_control.proofs.branches.clauses.Given as goal

abbrev pub invariant-loop-rest : goal.invariant-loop-rest
invariant-loop-rest l = clauses Test l.words ≡ option_map (λ later. l.found ++ later) (clauses l.place l.rest)

abbrev pub decreases-loop-rest : goal.decreases-loop-rest
decreases-loop-rest l = length l.rest
