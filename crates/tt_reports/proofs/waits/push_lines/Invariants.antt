use Rattle.std.proofs.Common.{◌≡◌, ◌++◌, take}
use Rattle.std.specs.List.{flat_map}
use Rattle.tt_reports.specs.WaitsText.{waits_line}
use Rattle.tt_reports.proofs.waits.push_lines.Given as goal

abbrev pub invariant-loop-one : goal.invariant-loop-one
invariant-loop-one l = l.text ≡ l.fn.text ++ flat_map waits_line (take l.one-index l.waiting)
