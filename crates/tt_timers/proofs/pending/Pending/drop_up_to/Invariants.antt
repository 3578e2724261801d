use Rattle.std.proofs.Common.{◌≡◌, not, length}
use Rattle.std.specs.List.{filter}
use Rattle.tt_timers.specs.inside.Entries.{Agree, is_up_to}
use Rattle.tt_timers.proofs.pending.Pending.drop_up_to.Given as goal

-- the timers that stay of those that are left are those that stay of all
abbrev pub invariant-loop-owner : goal.invariant-loop-owner
invariant-loop-owner l =
    let others = filter (λ entry. not (is_up_to l.thread l.most entry)) in
    record {
      agree : Agree l.self.timers.entries l.self.moments.entries;
      stay : others l.self.timers.entries ≡ others l.fn.self.timers.entries;
    }

abbrev pub decreases-loop-owner : goal.decreases-loop-owner
decreases-loop-owner l = length l.self.moments.entries
