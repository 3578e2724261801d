use Rattle.std.proofs.Common.{◌≡◌, take}
use Rattle.tt_debug.specs.Lines.{event_lines}
use Rattle.tt_debug.proofs.showing.event_lines.Given as goal

abbrev pub invariant-loop-place : goal.invariant-loop-place
invariant-loop-place l = l.text ≡ event_lines (take l.place l.queue)
