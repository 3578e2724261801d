-- What a list of places ends as after one of them was lent.
use Rattle.std.specs.Prelude.{ℕ, List, Option}
use Rattle.std.specs.Borrow.{Fml, Lends, LendsIf, MutBor, RattleType}
use Rattle.tt_calls.specs.Numbers.{with_at}
use Rattle.tt_places.specs.contracts.places.Places.{the_row}

module _ (T : RattleType) (places : MutBor (List T.Denot)) (number : ℕ) where
  -- what is left behind the reference stands under the number
  abbrev pub lends_place : MutBor T.Denot → Fml
  lends_place place = Lends (the_row T) T places place (with_at places.now number)

  -- the same if there is such a place, and else the list stays as it is
  abbrev pub lends_number : Option (MutBor T.Denot) → Fml
  lends_number place = LendsIf (the_row T) T places place (with_at places.now number) places.now
