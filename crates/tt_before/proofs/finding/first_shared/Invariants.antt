use Rattle.std.proofs.Common.{◌≡◌, drop}
use Rattle.tt_before.specs.Touching.{first_shared}
use Rattle.tt_before.proofs.finding.first_shared.Given as goal

abbrev pub invariant-loop-key : goal.invariant-loop-key
invariant-loop-key l = first_shared l.keys l.others ≡ first_shared (drop l.key-index l.keys) l.others
