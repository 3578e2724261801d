-- What names end as after what stands under one of them was lent.
use Rattle.std.specs.Prelude.{ℕ, List, Option}
use Rattle.std.specs.Borrow.{Fml, Lends, LendsIf, MutBor, RattleType}
use Rattle.indexmap.specs.IndexMap.{set_value_at}
use Rattle.tt_names.specs.Names.{Name, with_name}
use Rattle.tt_names.specs.contracts.names.Names.{the_row}

module _ (V : RattleType) (names : MutBor (List (Name × V.Denot))) where
  -- what is left behind the reference stands at the place
  abbrev pub lends_item : (place : ℕ) → MutBor V.Denot → Fml
  lends_item place item = Lends (the_row V) V names item (set_value_at names.now place)

  -- the same if there is such a place, and else the names stay as they are
  abbrev pub lends_place : (place : ℕ) → Option (MutBor V.Denot) → Fml
  lends_place place item = LendsIf (the_row V) V names item (set_value_at names.now place) names.now

  -- what is left behind the reference stands under the name; if nothing does, the names stay as they are
  abbrev pub lends_name : Name → Option (MutBor V.Denot) → Fml
  lends_name name item = LendsIf (the_row V) V names item (with_name names.now name) names.now
