use Rattle.std.proofs.Common.{arith, map, sym, ap, ◌∙◌}
use Rattle.tt_noted.specs.inside.Rule.{held_slots}
use Rattle.tt_noted.proofs.Passes.{leaves_fit, new_notes, first}
use Rattle.tt_noted.proofs.noted.Noted.end_turn.Goals as goal

pub put_back-requires-clause-fits : goal.put_back-requires-clause-fits
put_back-requires-clause-fits g c κs within =
    leaves_fit g.T.Tie.fits c.args.self.now c.args.pass.now c.args.turn c.args.note c.args.pass.now.numbered.1 c.requires.own c.requires.turn c.requires.fits

pub invariant_of-pass : goal.invariant_of-pass
invariant_of-pass g c = let now = c.put_back.ensures.noted in let notes = new_notes c.args.pass.now.seat.me.0 c.put_back.new.seat.me.0 _ c.args.note c.args.pass.now.numbered.1 (ap (λ m. m.0) now) in record {
  numbered = (c.args.pass.now.numbered.0, ap (map (λ c. c.0)) notes);
  counted = let same = ap (λ m. m.0.count) now in omega (arith, c.args.pass.now.counted);
  held = ap (λ m. m.1) now ∙ sym (ap (λ m. held_slots m.0.turn) now);
}

pub returns-then-load-gt0-clause-note : goal.returns-then-load-gt0-clause-note
returns-then-load-gt0-clause-note g c =
    ap first (new_notes c.args.pass.now.seat.me.0 c.put_back.new.seat.me.0 _ c.args.note c.args.pass.now.numbered.1 (ap (λ m. m.0) c.put_back.ensures.noted))

pub returns-clause-note : goal.returns-clause-note
returns-clause-note g c =
    ap first (new_notes c.args.pass.now.seat.me.0 c.put_back.new.seat.me.0 _ c.args.note c.args.pass.now.numbered.1 (ap (λ m. m.0) c.put_back.ensures.noted))
