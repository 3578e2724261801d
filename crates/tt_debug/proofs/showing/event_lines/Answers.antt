use Rattle.std.proofs.Common.{◌∙◌, ap, sym, List, ℕ, ◌++◌}
use Rattle.tt_debug.proofs.EventLemmas.{more-lines}
use Rattle.tt_debug.proofs.showing.event_lines.Goals as goal

pub loop-place-preserved : goal.loop-place-preserved
loop-place-preserved c =
    more-lines c.args.queue.now c.loop-place.place c.at.result.now c.loop-place.text c.push_event.new.text
    c.at.ensures.event c.loop-place.invariant c.in_ok-push_event.ensures
