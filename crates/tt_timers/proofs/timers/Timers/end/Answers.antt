use Rattle.std.proofs.Common.{◌<◌, not, sym, subst, rules}
use Rattle.std.specs.List.{All}
use Rattle.std.specs.Map.{keys_of}
use Rattle.tt_timers.specs.Pending.{is_of}
use Rattle.tt_timers.specs.inside.Entries.{is_up_to}
use Rattle.tt_timers.proofs.EntryLemmas.{numbers-kept}
use Rattle.tt_timers.proofs.TestLemmas.{dropped-is, any-kind-is}
use Rattle.tt_timers.proofs.timers.Timers.end.Goals as goal

pub invariant_of-self : goal.invariant_of-self
invariant_of-self c =
    record {
      agree =
          c.drop_up_to.ensures.agree;
      drawn =
          subst (λ entries. All (λ spot. spot.number < c.self.inside.next) (keys_of entries)) (sym c.drop_up_to.ensures.dropped)
          (numbers-kept c.self.inside.next (λ entry. not (is_up_to c.args.thread 2 entry)) c.self.inside.pending.timers.entries c.self.invariant.drawn);
    }

pub returns : goal.returns
returns c =
    let timers = c.self.inside.pending.timers.entries in
    let left = dropped-is (is_up_to c.args.thread 2) (is_of c.args.thread) (any-kind-is c.args.thread) timers in
    record { ended = search (rules, c.drop_up_to.ensures.dropped, left) }
