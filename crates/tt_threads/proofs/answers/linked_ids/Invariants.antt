use Rattle.std.proofs.Common.{◌≡◌, ◌+◌, ◌++◌, drop}
use Rattle.tt_threads.specs.Requests.{linked_ids}
use Rattle.tt_threads.proofs.answers.linked_ids.Given as goal

abbrev pub invariant-loop-place : goal.invariant-loop-place
invariant-loop-place l = l.ids ++ linked_ids (l.place + 1) (drop l.place l.rows) ≡ linked_ids 1 l.rows
