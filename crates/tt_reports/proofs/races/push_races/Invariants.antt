use Rattle.std.proofs.Common.{◌≡◌, ◌++◌, take}
use Rattle.std.specs.List.{flat_map}
use Rattle.tt_reports.specs.RaceText.{race_line}
use Rattle.tt_reports.proofs.races.push_races.Given as goal

abbrev pub invariant-loop-race : goal.invariant-loop-race
invariant-loop-race l = l.text ≡ l.fn.text ++ flat_map race_line (take l.race-index l.races)
