use Rattle.std.proofs.Common.{rules}
use Rattle.tt_before.specs.inside.Found.{race_of}
use Rattle.tt_before.proofs.RaceCounts.{counted_more}
use Rattle.tt_before.proofs.finding.add_race.Goals as goal

pub returns : goal.returns
returns c = λ all counted. counted_more all c.args.races.now _ (race_of c.args.first.now c.args.second.now) counted c.in_ok-tell.ensures (search rules)
