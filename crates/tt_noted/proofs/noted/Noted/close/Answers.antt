use Rattle.std.proofs.Common.{rules, ◌≡◌, Some, sym, ◌∙◌, subst}
use Rattle.tt_noted.specs.Passes.{FitsNotesOf}
use Rattle.tt_noted.proofs.Gathering.{closed_state}
use Rattle.tt_noted.proofs.noted.Noted.close.Goals as goal

pub unwrap-state-requires : goal.unwrap-state-requires
unwrap-state-requires g c = let seat = c.gather-seat.result in
    let t = closed_state g.T.Tie.fits c.args.self _ seat.id seat.me.0 _ _ _ c.args.self.has_pass c.gather-seat.ensures.view.0 c.requires.all c.gather-seat.ensures.notes c.close_with-closed.ensures.values.2 c.take.ensures.value in
    let is = t.1 in search rules

pub returns : goal.returns
returns g c = let seat = c.gather-seat.result in
    let t = closed_state g.T.Tie.fits c.args.self _ seat.id seat.me.0 _ _ _ c.args.self.has_pass c.gather-seat.ensures.view.0 c.requires.all c.gather-seat.ensures.notes c.close_with-closed.ensures.values.2 c.take.ensures.value in
    let slot : Some t.0 ≡ Some c.unwrap-state.result = sym t.1 ∙ c.unwrap-state.ensures in let same : t.0 ≡ c.unwrap-state.result = cc in
    record { fits = subst (FitsNotesOf g.T.Tie.fits c.args.self c.args.passes.items) same t.2 }
