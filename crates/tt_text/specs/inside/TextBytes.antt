-- The bytes of a text, which it stores in one of two ways.
use Rattle.std.specs.Prelude.{ℕ, List}
use Rattle.std.specs.Arc.{arc_value}
use Rattle.tt_text.specs.declared.text.Storage.{Storage}
use Rattle.tt_text.specs.declared.text.Storage.TheVariants.{Short, Long}

-- the bytes in place, or those that the pointer shares
abbrev pub bytes_of : Storage → List ℕ
bytes_of (Short few) = few
bytes_of (Long shared) = arc_value shared
