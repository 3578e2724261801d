use Rattle.std.proofs.Common.{length}
use Rattle.tt_schedule.proofs.ReadLemmas.{IsReadSoFar}
use Rattle.tt_schedule.proofs.reading.read_lines.Given as goal

abbrev pub invariant-loop-rest : goal.invariant-loop-rest
invariant-loop-rest l = IsReadSoFar l.text l.runs.items l.rest

abbrev pub decreases-loop-rest : goal.decreases-loop-rest
decreases-loop-rest l = length l.rest
