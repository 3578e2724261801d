use Rattle.std.proofs.Common.{◌≡◌, map}
use Rattle.tt_procedures.proofs.procedures.Procedures.all_names.Given as goal

abbrev pub invariant-loop-name : goal.invariant-loop-name
invariant-loop-name l = l.names ≡ map (λ name. name.now) l.yielded
