use Rattle.std.proofs.Common.{◌≡◌, ◌++◌, length}
use Rattle.tt_procedures.specs.Calling.{usage_parts, usage}
use Rattle.tt_procedures.proofs.calling.usage.Given as goal

abbrev pub invariant-loop-rest : goal.invariant-loop-rest
invariant-loop-rest l = usage l.word l.parameters ≡ l.text ++ usage_parts l.rest

abbrev pub decreases-loop-rest : goal.decreases-loop-rest
decreases-loop-rest l = length l.rest
