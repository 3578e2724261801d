use Rattle.std.proofs.Common.{◌≡◌, ◌≤◌, ◌∙◌, None, IsSome, ap, arith, length, rules}
use Rattle.std.specs.Option.{option_copied}
use Rattle.tt_workers.proofs.RoundLemmas.{keeps-fresh, keeps-limit, rounds-end, rounds-fresh}
use Rattle.tt_workers.proofs.TieLemmas.{asks-some, fresh-at}
use Rattle.tt_workers.proofs.TurnLemmas.{whole-part}
use Rattle.tt_calls.specs.Numbers.{at_number}
use Rattle.tt_workers.specs.inside.Places.{asked_at}
use Rattle.tt_workers.specs.declared.next.RunEnd.TheVariants.{Limit}
use Rattle.tt_workers.proofs.world.World.hand_out.Goals as goal

pub hand_out_fresh-requires : goal.hand_out_fresh-requires
hand_out_fresh-requires g c =
    let able = rw (← c.self.view_is) at c.requires.able in
    let nothing : option_copied c.request.result ≡ None = search rules in
    record {
      fresh = fresh-at c.self.inside.desk c.args.number (at_number c.self.inside.roster c.args.number) (option_copied
          c.request.result) nothing c.request.ensures.asks able;
    }

pub returns-then-is_none : goal.returns-then-is_none
returns-then-is_none g c =
    let going = rw (← c.self.view_is) at c.requires.going in
    let kept = rw (← c.self.view_is) at c.requires.kept in
    let within = rw (← c.self.view_is) at c.requires.within in
    record {
      keeps = rw (← c.self.view_is)
          (keeps-fresh g.S.Source g.K.Sink g.E.Sink c.args.pass c.args.number _ _ _ _ _ _ c.requires.pass going c.hand_out_fresh.ensures);
      goes = rw (← c.self.view_is) (rounds-fresh c.args.pass c.args.number _ _ _ _ _ _ going kept within c.hand_out_fresh.ensures);
    }

pub returns-then-len-from : goal.returns-then-len-from
returns-then-len-from g c =
    let going = rw (← c.self.view_is) at c.requires.going in
    let kept = rw (← c.self.view_is) at c.requires.kept in
    let within : length c.self.inside.desk.schedule ≤ c.self.inside.steps = rw (← c.self.view_is) at c.requires.within in
    let able = rw (← c.self.view_is) at c.requires.able in
    let some : IsSome (asked_at (at_number c.self.inside.roster c.args.number)) = search rules in
    let count : c.len.result ≡ length c.self.inside.desk.schedule = c.len.ensures.count ∙ ap length c.schedule.ensures.schedule in
    let full : length c.self.inside.desk.schedule ≡ c.self.inside.steps = omega (arith, count, within) in
    let asks = asks-some c.self.inside.roster c.args.number some in
    record {
      keeps = rw (← c.self.view_is) (keeps-limit g.S.Source g.K.Sink g.E.Sink c.args.pass c.args.number _ _ _ _ asks.0 going full asks.1 able);
      goes = rw (← c.self.view_is)
          (rounds-end c.args.pass _ c.self.inside.desk c.self.inside.desk c.self.inside.roster c.self.inside.roster c.self.inside.end Limit
          going kept (whole-part c.self.inside.desk.schedule) within);
    }

pub returns : goal.returns
returns g c = record {
  keeps = rw (← c.self.view_is) c.act.ensures.keeps;
  goes = rw (← c.self.view_is) c.act.ensures.goes;
}
