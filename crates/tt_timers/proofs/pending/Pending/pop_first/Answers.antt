use Rattle.std.proofs.Common.{None, subst}
use Rattle.tt_timers.specs.inside.Entries.{Agree}
use Rattle.tt_timers.specs.declared.spot.Spot.{Spot}
use Rattle.tt_timers.specs.declared.spot.Waiting.{Waiting}
use Rattle.tt_timers.proofs.AgreeLemmas.{Writes, WritesTimer, agree-popped}
use Rattle.tt_timers.proofs.pending.Pending.pop_first.Goals as goal

pub returns-clause-agree : goal.returns-clause-agree
returns-clause-agree c =
    let moments = c.args.self.now.moments.entries in
    let first : Spot × Waiting = (c.in_ok-spot.spot, c.in_ok-spot.waiting) in
    let left = c.pop_first.new.self.entries in
    let all = c.in_ok-spot.ensures.removal in
    agree-popped first left moments c.remove.new.self.entries (subst (λ timers. Agree timers moments) all c.requires.agree)
    (subst (λ owner. Writes moments owner None c.remove.new.self.entries) c.owner_of.ensures c.remove.ensures.updates.0)
    (subst (λ timers. WritesTimer timers c.in_ok-spot.spot None left) all c.in_ok-spot.ensures.updates.0)
