use Rattle.std.proofs.Common.{sym, rules}
use Rattle.tt_timers.specs.inside.Entries.{is_owned}
use Rattle.tt_timers.proofs.AgreeLemmas.{agree-removed, none-owned, removed-where}
use Rattle.tt_timers.proofs.SortLemmas.{filter-none}
use Rattle.tt_timers.proofs.pending.Pending.remove.Goals as goal

pub returns-in_default-clause-removed : goal.returns-in_default-clause-removed
returns-in_default-clause-removed c =
    let timers = c.args.self.now.timers.entries in
    sym (filter-none (is_owned c.args.owner) timers (none-owned timers c.args.self.now.moments.entries c.args.owner c.requires.agree (search rules)))

pub returns-clause-removed : goal.returns-clause-removed
returns-clause-removed c =
    removed-where c.args.self.now.timers.entries c.remove-2.new.self.entries c.args.self.now.moments.entries c.args.owner c.in-Some.moment c.requires.agree
    (sym c.in-Some.ensures.value) c.remove-2.ensures.entries c.remove-2.ensures.updates.0

pub returns-clause-agree : goal.returns-clause-agree
returns-clause-agree c =
    let timers = c.args.self.now.timers.entries in
    let moments = c.args.self.now.moments.entries in
    let gone = removed-where timers c.remove-2.new.self.entries moments c.args.owner c.in-Some.moment c.requires.agree (sym c.in-Some.ensures.value)
    c.remove-2.ensures.entries c.remove-2.ensures.updates.0 in
    agree-removed timers c.remove-2.new.self.entries moments c.remove.new.self.entries c.args.owner c.in-Some.moment c.requires.agree
    (sym c.in-Some.ensures.value) c.remove.ensures.updates.0 gone c.remove-2.ensures.updates.0
