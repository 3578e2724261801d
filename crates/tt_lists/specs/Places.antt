-- The places that indices name (lindex(n)).
use Rattle.std.specs.Prelude.{ℕ, ℤ, pos, negsuc, ◌+ℤ◌}
use Rattle.tt_lists.specs.declared.place.Index.{Index}
use Rattle.tt_lists.specs.declared.place.Index.TheVariants.{At, FromEnd}

-- the place that an index names in a list of so many items: 0 is the first, and -1 would be before it
abbrev pub place_in : Index → ℕ → ℤ
place_in (At number) length = number
place_in (FromEnd number) length = (pos length +ℤ negsuc 0) +ℤ number
