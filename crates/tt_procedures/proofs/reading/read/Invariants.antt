use Rattle.std.proofs.Common.{◌≡◌, [], drop}
use Rattle.tt_procedures.specs.Parameters.{parameters_from}
use Rattle.tt_procedures.proofs.reading.read.Given as goal

abbrev pub invariant-loop-text : goal.invariant-loop-text
invariant-loop-text l = parameters_from [] l.texts ≡ parameters_from l.parameters (drop l.text-index l.texts)
