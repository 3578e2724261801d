use Rattle.std.proofs.Common.{◌<◌, sym, subst, rules}
use Rattle.std.proofs.lemmas.List.Elements.{All-weaker}
use Rattle.std.proofs.lemmas.Map.Views.{All-keys-insert_entry}
use Rattle.std.specs.List.{All}
use Rattle.std.specs.Map.{keys_of}
use Rattle.tt_timers.specs.declared.spot.Spot.{Spot}
use Rattle.tt_timers.specs.inside.Entries.{spot_cmp}
use Rattle.tt_timers.proofs.EntryLemmas.{put-is}
use Rattle.tt_timers.proofs.timers.Timers.add.Goals as goal

pub invariant_of-self-2 : goal.invariant_of-self-2
invariant_of-self-2 c =
    let timers = c.self.inside.pending.timers.entries in
    record {
      agree =
          c.insert.ensures.agree;
      drawn =
          subst (λ entries. All (λ spot. spot.number < c.in_ok-next.next) (keys_of entries)) (sym c.in_ok-insert.ensures.put)
          (All-keys-insert_entry spot_cmp (record { moment = c.args.moment; number = c.self.inside.next })
          (record { thread = c.args.thread; kind = c.args.kind })
          (λ spot. spot.number < c.in_ok-next.next) timers
          (All-weaker (λ spot. spot.number < c.self.inside.next) (λ spot. spot.number < c.in_ok-next.next)
          (λ spot less. search (rules, less)) (keys_of timers) c.self.invariant.drawn)
          (search rules));
    }

pub returns-clause-added : goal.returns-clause-added
returns-clause-added c =
    let spot : Spot = record { moment = c.args.moment; number = c.self.inside.next } in
    let put = put-is c.self.inside.pending.timers.entries spot (record { thread = c.args.thread; kind = c.args.kind }) c.self.invariant.drawn in
    search (rules, put)
