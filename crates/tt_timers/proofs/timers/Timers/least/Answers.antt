use Rattle.std.proofs.Common.{rules}
use Rattle.tt_timers.proofs.EntryLemmas.{least-is}
use Rattle.tt_timers.proofs.timers.Timers.least.Goals as goal

pub returns : goal.returns
returns c =
    record {
      least =
          search (rules, least-is c.self.inside.pending.timers.entries (c.in_ok-spot.spot.now, c.in_ok-spot.field-0-1.now) c.in_ok-spot.ensures.first);
    }
