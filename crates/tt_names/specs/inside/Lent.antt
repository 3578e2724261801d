-- What stored names end as after what stands at a place was lent: a word of the code's own contracts.
use Rattle.std.specs.Prelude.{ℕ, [], slice_index_or}
use Rattle.std.specs.Borrow.{Fml, Lends, MutBor, RattleType}
use Rattle.std.specs.Vec.{with_item}
use Rattle.indexmap.specs.IndexMap.{with_value_at}
use Rattle.tt_names.specs.contracts.storage.Storage.{the_row}
use Rattle.tt_names.specs.declared.storage.Storage.{Storage}
use Rattle.tt_names.specs.declared.storage.Storage.TheVariants.{Few, Many}

-- another item at a place
abbrev pub with_stored : {V : Type 0} → Storage V → ℕ → V → Storage V
with_stored (Few pairs) place item = Few (with_item pairs place ((slice_index_or pairs.items place ([], item)).0, item))
with_stored (Many map) place item = Many (with_value_at map place item)

module _ (V : RattleType) (storage : MutBor (Storage V.Denot)) where
  -- what is left behind the reference stands at the place
  abbrev pub lends_stored : ℕ → MutBor V.Denot → Fml
  lends_stored place item = Lends (the_row V) V storage item (with_stored storage.now place)
