use Rattle.std.proofs.Common.{◌<◌, subst}
use Rattle.std.proofs.lemmas.List.Elements.{All-tail}
use Rattle.std.specs.List.{All}
use Rattle.std.specs.Map.{keys_of}
use Rattle.tt_timers.proofs.timers.Timers.take_due.Goals as goal

pub invariant_of-self-2 : goal.invariant_of-self-2
invariant_of-self-2 c =
    record {
      agree =
          c.pop_first.ensures.agree;
      drawn =
          All-tail (λ spot. spot.number < c.self.inside.next) c.in_ok-spot.spot (keys_of c.pop_first.new.self.timers.entries)
          (subst (λ entries. All (λ spot. spot.number < c.self.inside.next) (keys_of entries)) c.in_ok-spot.ensures.first c.self.invariant.drawn);
    }
