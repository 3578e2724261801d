use Rattle.std.proofs.Common.{◌≡◌, ◌<◌, Some, length, slice_get, rules, refl, ap, sym}
use Rattle.std.specs.Map.{values_of}
use Rattle.std.specs.Vec.{with_item}
use Rattle.tt_names.specs.declared.storage.Storage.TheVariants.{Few}
use Rattle.tt_names.specs.inside.Stored.{stored_pairs}
use Rattle.tt_names.proofs.Places.{item_there, name_there}
use Rattle.tt_names.proofs.storage.Storage.item_mut.Goals as goal

pub returns-in-Few : goal.returns-in-Few
returns-in-Few g c =
    let within : c.args.place < length c.in-Few.pairs.items = search rules in
    let pair = c.index_mut-pair.result.now in
    let name = name_there c.in-Few.pairs.items c.args.place pair in
    let item : slice_get (values_of (stored_pairs c.args.self.now)) c.args.place ≡ Some pair.1 =
    rw c.in-Few.is (item_there c.in-Few.pairs.items c.args.place pair within (search rules)) in (
      (
        refl,
        λ w. rw (c.in-Few.pairs-is, c.in-Few.is)
            (ap (λ name. Few (with_item c.in-Few.pairs c.args.place (name, w))) (sym (name w within (search rules)))),
      ),
      record { lent = tt; item = item },
    )
