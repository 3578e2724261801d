-- The text of what a value keeps (Tcl(n)).
use Rattle.std.specs.Prelude.{ℕ, List}
use Rattle.std.specs.Arc.{arc_value}
use Rattle.std.specs.Fmt.{signed_decimal}
use Rattle.tt_value.specs.declared.kept.Kept.{Kept}
use Rattle.tt_value.specs.declared.kept.Kept.TheVariants as kept

-- a number in decimal, the text, or that of the list or of the dictionary
abbrev pub text_of : Kept → List ℕ
text_of (kept.Number number) = signed_decimal number
text_of (kept.Text text) = text
text_of (kept.List list) = (arc_value list).text
text_of (kept.Pairs pairs) = (arc_value pairs).text
