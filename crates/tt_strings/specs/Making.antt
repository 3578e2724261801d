-- Texts made from texts (string(n)).
use Rattle.std.specs.Prelude.{◌≡◌, ℕ, ◌*◌, ◌<◌, ◌≤◌, ℤ, pos, negsuc, List, length}
use Rattle.std.specs.List.{repeat}
use Rattle.std.specs.Ordering.{nat_cmp}
use Rattle.std.specs.Cmp.Lexicographic.{slice_cmp}
use Rattle.std.specs.declared.cmp.Ordering.{Ordering}
use Rattle.std.specs.declared.cmp.Ordering.TheVariants.{Less, Equal, Greater}
use Rattle.tt_strings.specs.declared.making.Repetition.{Repetition}
use Rattle.tt_strings.specs.declared.making.Repetition.TheVariants.{Made, TooLong}

-- the greatest length of a repeated text, in bytes
abbrev pub longest : ℕ
longest = 268435456

-- how often a count repeats: not at all if it is below 1 (string(n), string repeat)
abbrev pub times : ℤ → ℕ
times (pos n) = n
times (negsuc n) = 0

-- a text so many times over, if that is not too long (string(n), string repeat)
abbrev pub IsRepeated : Repetition → List ℕ → ℤ → Type 0
IsRepeated (Made made) text count = (times count * length text ≤ longest) × (made ≡ repeat (times count) text)
IsRepeated TooLong text count = longest < times count * length text

-- the number that stands for an order (string(n), string compare)
abbrev pub order_number : Ordering → ℤ
order_number Less = negsuc 0
order_number Equal = pos 0
order_number Greater = pos 1

-- two texts in the order of their bytes (string(n), string compare)
abbrev pub comparison : List ℕ → List ℕ → ℤ
comparison left right = order_number (slice_cmp nat_cmp left right)
