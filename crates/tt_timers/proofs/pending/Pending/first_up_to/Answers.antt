use Rattle.std.proofs.Common.{rules}
use Rattle.tt_timers.proofs.RangeLemmas.{none-up-to}
use Rattle.tt_timers.proofs.pending.Pending.first_up_to.Goals as goal

pub returns-in_err-owner-clause-none : goal.returns-in_err-owner-clause-none
returns-in_err-owner-clause-none c =
    let none = none-up-to c.args.thread c.args.most c.args.self.now.timers.entries c.args.self.now.moments.entries c.requires.agree
    ((c.range.ensures.in_range tt).5 (search rules)) in
    search (rules, none)
