use Rattle.std.proofs.Common.{rules, ◌≡◌, ◌∷◌, Some, sym, ap, ◌∙◌, subst}
use Rattle.atomic_table.specs.Table.{rest}
use Rattle.tt_noted.proofs.Passes.{first_note, fits_notes}
use Rattle.tt_noted.proofs.Lists.{same_held}
use Rattle.tt_noted.specs.inside.Rule.{FitsAll}
use Rattle.tt_noted.proofs.noted.Noted.enter.Goals as goal

pub take-requires-clause-has_note : goal.take-requires-clause-has_note
take-requires-clause-has_note g c κs within = first_note c.args.pass.now.seat.me.0 _ c.args.pass.now.numbered.1

pub exchange-requires : goal.exchange-requires
exchange-requires g c = let t = c.take.ensures.took in let held = ap (λ m. m.1) t.1 in
    (search rules, (Some t.0, held ∙ ap (λ cs. (0, Some t.0) ∷ rest cs) (sym held)))

pub returns-clause-fits : goal.returns-clause-fits
returns-clause-fits g c = let v = c.args.pass.now.seat.me.0 in let t = c.take.ensures.took in let now = c.exchange.ensures.3 in
    let slot : Some t.0 ≡ c.exchange.result = same_held _ _ _ _ (ap (λ m. m.1) t.1) c.exchange.ensures.2 in let filled : Some t.0 ≡ Some c.unwrap-state.result = slot ∙ c.unwrap-state.ensures in
    let same : t.0 ≡ c.unwrap-state.result = cc in
    fits_notes g.T.Tie.fits v _ _ _ _ (ap (λ m. m.0.notes) now ∙ ap (λ m. m.0.notes) t.1) c.requires.own.1 c.args.pass.now.numbered.1
    (subst (FitsAll g.T.Tie.fits v) same t.2)
