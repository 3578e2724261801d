use Rattle.std.proofs.Common.{List, [], ◌∷◌, ◌++◌, replicate, Option, Some, refl, sym, ap, ◌∙◌, subst}
use Rattle.atomic_table.specs.Table.{opening}
use Rattle.tt_noted.specs.declared.table.Opening.{Opening}
use Rattle.tt_noted.specs.inside.Rule.{IsKept, first_view}
use Rattle.tt_noted.proofs.Keeps.{opening_holds}
use Rattle.tt_noted.proofs.noted.Noted.lay.Goals as goal

pub new-requires : goal.new-requires
new-requires g c = let o : Opening g.row.T-Note.Denot = record { count = c.args.n; note = c.of.result } in
    let slots = c.push_reserved.ensures.items ∙ ap (λ xs. xs ++ Some c.args.state ∷ []) c.in-Ok.ensures.items in
    subst (λ (xs : List (Option g.row.T-State.Denot)). IsKept g.T.Tie.fits c.args.n (opening (0 ∷ []) xs (first_view o))) (sym slots)
    (opening_holds g.T.Tie.fits c.args.n o c.args.state refl
    (subst (λ note. g.T.Tie.fits c.args.state (replicate c.args.n note)) (sym c.of.ensures) c.requires.1))
