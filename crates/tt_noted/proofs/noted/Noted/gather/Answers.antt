use Rattle.std.proofs.Common.{rules, ◌++◌, ap, ◌∙◌}
use Rattle.std.specs.Option.{option_to_list}
use Rattle.tt_noted.specs.inside.Rule.{held_slots}
use Rattle.tt_noted.proofs.Keeps.{join_keeps}
use Rattle.tt_noted.proofs.Gathering.{begins, next_pass, continues}
use Rattle.tt_noted.proofs.noted.Noted.gather.Goals as goal

pub loop-pass-init : goal.loop-pass-init
loop-pass-init g c =
    begins c.args.self.now _ _ c.unwrap-seat.result c.requires (c.pop.ensures.items ∙ ap (λ o. c.pop.new.self.items ++ option_to_list o) c.unwrap-seat.ensures)

pub join_seat-requires : goal.join_seat-requires
join_seat-requires g c = let so = c.loop-pass.invariant in let p = c.in-Some.pass in
    let next = next_pass c.args.self.now _ _ _ p _ so (c.in-Some.ensures.items) in (
      so.of_table,
      next.0.0,
      p.held
          ∙ ap held_slots next.1,
      search rules,
      join_keeps g.T.Tie.fits _ _ c.loop-pass.seat.me.0 _ p.seat.me.0 so.some.0 so.some.1 so.no_turn next.1,
    )

pub loop-pass-preserved : goal.loop-pass-preserved
loop-pass-preserved g c = let did = c.join_seat.ensures in continues c.args.self.now _ _ _ c.in-Some.pass _ _ c.loop-pass.invariant (c.in-Some.ensures.items) did.0 (ap (λ m. m.0) did.2)
