use Rattle.std.proofs.Common.{◌≡◌, ◌++◌, take}
use Rattle.std.specs.List.{flat_map}
use Rattle.tt_reports.specs.WaitsText.{later_id}
use Rattle.tt_reports.proofs.waits.push_later_ids.Given as goal

abbrev pub invariant-loop-thread : goal.invariant-loop-thread
invariant-loop-thread l = l.text ≡ l.fn.text ++ flat_map later_id (take l.thread-index l.threads)
