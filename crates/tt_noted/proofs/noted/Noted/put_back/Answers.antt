use Rattle.std.proofs.Common.{rules, ◌≡◌, ◌+◌, ◌%◌, [], ◌∷◌, Some, sym, ap, ◌∙◌, subst, arith}
use mathlib.Core.Option.{none}
use Rattle.atomic_table.specs.Table.{rest, step, Allows}
use Rattle.tt_noted.specs.inside.Rule.{IsKept, leaving, noted}
use Rattle.tt_noted.proofs.Keeps.{note_keeps}
use Rattle.tt_noted.proofs.noted.Noted.put_back.Goals as goal

pub fetch_add-requires : goal.fetch_add-requires
fetch_add-requires g c = let seat = c.exchange-found.new.seat in let f = c.requires.fits in let now = c.exchange-found.ensures.3 in let slots = c.args.self.now.table.shared.table_id.slots in
    let more = c.adds-more.result in let odd_more : more % 2 ≡ 1 = c.adds-more.ensures.odd in
    let held : seat.me.1 ≡ (0, Some c.args.state) ∷ [] = ap (λ m. m.1) now ∙ ap (λ cs. (0, Some c.args.state) ∷ rest cs) c.requires.held in (
      search rules,
      search rules,
      subst (λ note. Allows (IsKept g.T.Tie.fits c.args.self.now.table.shared.key.count) slots seat.id seat.me 0 (λ x. (x + more) % 18446744073709551616)
          (noted note (step slots 0 more 0 none) seat.me)) (sym c.requires.note)
          (note_keeps g.T.Tie.fits _ slots _ f.0 more seat.me f.1 c.args._note.now f.2 c.args.state (let one = c.args.self.now.sized in omega arith) odd_more (ap (λ m. m.0.notes) now ∙ f.3) (ap (λ m. m.0.turn) now ∙ f.4) held
          (λ notes long at fit. f.5 notes (long ∙ ap (λ m. m.0.count) now) at fit)),
    )

pub returns-clause-noted : goal.returns-clause-noted
returns-clause-noted g c = let seat = c.exchange-found.new.seat in let now = c.exchange-found.ensures.3 in let note = c.args._note.now in let old = c.args.seat.now.me in
    let did : c.fetch_add.new.seat.me ≡ (leaving seat.me.0 note, rest seat.me.1) =
    subst (λ x. noted x
    (step c.args.self.now.table.shared.table_id.slots 0 c.adds-more.result 0 none) seat.me c.fetch_add.result c.fetch_add.new.seat.me) c.requires.note c.fetch_add.ensures.2 in
    did ∙ ((λ i. (leaving (now i).0 note, rest (now i).1)) ∙ (λ i. (leaving old.0 note, rest (c.requires.held i))))
