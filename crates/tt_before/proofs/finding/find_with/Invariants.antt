use Rattle.std.proofs.Common.{List, ◌++◌, take}
use Rattle.std.specs.List.{filter_map}
use Rattle.tt_before.specs.declared.race.Race.{Race}
use Rattle.tt_before.specs.inside.Found.{AreCounted, race_with}
use Rattle.tt_before.proofs.finding.find_with.Given as goal

abbrev pub invariant-loop-first : goal.invariant-loop-first
invariant-loop-first l =
    (all : List Race) → AreCounted all l.fn.races → AreCounted (all ++ filter_map (race_with l.second) (take l.first-index l.firsts)) l.races
