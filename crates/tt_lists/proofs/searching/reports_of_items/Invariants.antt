use Rattle.std.proofs.Common.{◌≡◌, ◌++◌, drop}
use Rattle.tt_lists.specs.Searching.{reports_from}
use Rattle.tt_lists.proofs.searching.reports_of_items.Given as goal

abbrev pub invariant-loop-place : goal.invariant-loop-place
invariant-loop-place l = l.reports ++ reports_from l.how l.pattern l.place (drop l.place l.items) ≡ reports_from l.how l.pattern 0 l.items
