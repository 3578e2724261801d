use Rattle.std.proofs.Common.{subst, length}
use Rattle.tt_before.specs.inside.Found.{AreCounted, races_up_to}
use Rattle.tt_before.proofs.Deciding.{all_races}
use Rattle.tt_before.proofs.order.Order.races.Goals as goal

pub returns : goal.returns
returns c = record {
  races = λ entries is.
      all_races entries c.args.self.now.touches.items is.touches c.in_ok-races.races
      (subst (λ list. AreCounted (races_up_to list (length list)) c.in_ok-races.races) c.as_slice.ensures.value c.in_ok-races.ensures);
}
