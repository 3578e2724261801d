use Rattle.std.proofs.Common.{None, Some, subst, rules}
use Rattle.tt_timers.specs.inside.Entries.{Agree, owner_of}
use Rattle.tt_timers.proofs.AgreeLemmas.{agree-put, agree-undone, none-kept, Writes}
use Rattle.tt_timers.proofs.pending.Pending.insert.Goals as goal

pub returns-then-is_err-clause-agree : goal.returns-then-is_err-clause-agree
returns-then-is_err-clause-agree c =
    let timers = c.args.self.now.timers.entries in
    let moments = c.args.self.now.moments.entries in
    let owner = owner_of (c.args.spot, c.args.waiting) in
    let same = c.owner_of-owner.ensures in
    let undone = agree-undone timers moments c.insert.new.self.entries c.remove.new.self.entries owner c.args.spot.moment c.requires.agree
    (none-kept timers moments owner c.requires.agree c.requires.fresh)
    (subst (λ owner. Writes moments owner (Some c.args.spot.moment) c.insert.new.self.entries) same c.in_ok-insert.ensures.updates.0)
    (subst (λ owner. Writes c.insert.new.self.entries owner None c.remove.new.self.entries) same c.remove.ensures.updates.0) in
    subst (λ timers. Agree timers c.remove.new.self.entries) (search rules) undone

pub returns-clause-agree : goal.returns-clause-agree
returns-clause-agree c =
    agree-put c.args.self.now.timers.entries c.insert-2.new.self.entries c.args.self.now.moments.entries c.insert.new.self.entries c.args.spot c.args.waiting
    c.requires.agree c.requires.fresh
    (subst (λ owner. Writes c.args.self.now.moments.entries owner (Some c.args.spot.moment) c.insert.new.self.entries) c.owner_of-owner.ensures
    c.in_ok-insert.ensures.updates.0)
    (search rules) (search rules)
