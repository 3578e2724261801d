use Rattle.std.proofs.Common.{◌∙◌, ap, refl, rules}
use Rattle.indexmap.specs.IndexMap.{set_value_at}
use Rattle.tt_names.proofs.Changes.{with_item}
use Rattle.tt_names.proofs.names.Names.item_mut.Goals as goal

pub returns : goal.returns
returns g c = (
  (refl, λ item. with_item c.self.inside.storage c.args.place item ∙ ap (λ names. set_value_at names c.args.place item) c.self.view_is),
  record { lent = tt; item = search rules },
)
