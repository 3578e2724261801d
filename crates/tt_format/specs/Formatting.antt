-- What a template and its values come to (format(n)).
use Rattle.std.specs.Prelude.{◌≡◌, ℕ, ◌<◌, ◌≤◌, List, [], ◌++◌, length, codes}
use Rattle.tt_format.specs.Fields.{Printed, Refused, piece}
use Rattle.tt_format.specs.declared.Formatted.{Formatted}
use Rattle.tt_format.specs.declared.Formatted.TheVariants.{Made, Bad}

-- the greatest length of what is printed, in bytes
abbrev pub longest : ℕ
longest = 268435456

-- what comes of a template and values after what is printed before: its pieces, from the left, up to the first that is
-- refused or makes the text too long
pub data IsFormatted : (before template : List ℕ) (values : List (List ℕ)) (answer : Formatted) → Type 0 where
  ended : {before template : List ℕ} {values : List (List ℕ)} →
      template ≡ [] →
      IsFormatted before template values (Made before)
  printed : {before template bytes rest : List ℕ} {values later : List (List ℕ)} {answer : Formatted} →
      0 < length template →
      piece template values ≡ Printed bytes rest later →
      length (before ++ bytes) ≤ longest →
      IsFormatted (before ++ bytes) rest later answer →
      IsFormatted before template values answer
  too_long : {before template bytes rest : List ℕ} {values later : List (List ℕ)} →
      0 < length template →
      piece template values ≡ Printed bytes rest later →
      longest < length (before ++ bytes) →
      IsFormatted before template values (Bad (codes "result too long"))
  refused : {before template message : List ℕ} {values : List (List ℕ)} →
      0 < length template →
      piece template values ≡ Refused message →
      IsFormatted before template values (Bad message)

-- what format answers
abbrev pub IsFormat : (template : List ℕ) (values : List (List ℕ)) (answer : Formatted) → Type 0
IsFormat template values answer = IsFormatted [] template values answer
