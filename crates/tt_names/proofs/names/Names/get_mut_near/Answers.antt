use Rattle.std.proofs.Common.{◌≡◌, Some, inl, refl, rules, sym}
use Rattle.tt_names.specs.Names.{place_of}
use Rattle.tt_names.proofs.Places.{put_at, stands_at, stands_nowhere}
use Rattle.tt_names.proofs.names.Names.get_mut_near.Goals as goal

pub returns-in-Some : goal.returns-in-Some
returns-in-Some g c =
    let at : place_of c.args.self.now c.args.name.now ≡ Some c.in-Some.place = search rules in (
      λ i. inl (c.item_mut.result.ghost_name, λ item. sym (put_at c.args.self.now c.args.name.now c.in-Some.place at item) i),
      record { lent = tt; item = search (stands_at, rules) },
    )

pub returns-in-None : goal.returns-in-None
returns-in-None g c = (refl, record { lent = tt; item = sym (stands_nowhere c.args.self.now c.args.name.now (search rules)) })
