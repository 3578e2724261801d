use Rattle.std.proofs.Common.{◌∙◌, not, ap, sym}
use Rattle.std.specs.List.{filter}
use Rattle.tt_timers.specs.inside.Entries.{is_owned, is_up_to}
use Rattle.tt_timers.proofs.RangeLemmas.{owned-up-to}
use Rattle.tt_timers.proofs.SortLemmas.{filter-none, filter-wider}
use Rattle.tt_timers.proofs.pending.Pending.drop_up_to.Goals as goal

pub loop-owner-preserved : goal.loop-owner-preserved
loop-owner-preserved c =
    let wide = is_up_to c.args.thread c.args.most in
    let wider = filter-wider (is_owned c.in-Some.owner) wide
    (owned-up-to c.args.thread c.args.most c.in-Some.owner c.in-Some.ensures.thread c.in-Some.ensures.rank) c.loop-owner.self.timers.entries in
    record {
      agree =
          c.remove.ensures.agree;
      stay =
          ap (filter (λ entry. not (wide entry))) c.remove.ensures.removed ∙ wider ∙ c.loop-owner.invariant.stay;
    }

pub returns-clause-dropped : goal.returns-clause-dropped
returns-clause-dropped c =
    sym (filter-none (is_up_to c.args.thread c.args.most) c.loop-owner.self.timers.entries c.in_default.ensures.none) ∙ c.loop-owner.invariant.stay
