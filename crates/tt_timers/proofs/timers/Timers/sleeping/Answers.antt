use Rattle.std.proofs.Common.{◌∙◌, rules}
use Rattle.tt_timers.specs.Pending.{is_sleep_of}
use Rattle.tt_timers.specs.inside.Entries.{is_up_to}
use Rattle.tt_timers.proofs.RangeLemmas.{any-up-to}
use Rattle.tt_timers.proofs.TestLemmas.{found-is, sleep-is}
use Rattle.tt_timers.proofs.timers.Timers.sleeping.Goals as goal

pub returns : goal.returns
returns c =
    let timers = c.self.inside.pending.timers.entries in
    let any = any-up-to c.args.thread 0 timers c.self.inside.pending.moments.entries c.self.invariant.agree c.first_up_to.result c.first_up_to.ensures.kept
    c.first_up_to.ensures.thread c.first_up_to.ensures.rank c.first_up_to.ensures.none in
    let same = found-is (is_up_to c.args.thread 0) (is_sleep_of c.args.thread) (sleep-is c.args.thread) timers in
    record { sleeping = search (rules, any ∙ same) }
