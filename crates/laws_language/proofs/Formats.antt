-- What a template and its values come to is one thing (format(n)).
use Rattle.std.proofs.Common.{◌≡◌, ◌<◌, ◌≤◌, ◌++◌, ℕ, List, [], length, refl, ap, sym, subst, arith}
use Rattle.tt_format.specs.Fields.{Piece, Printed, Refused}
use Rattle.tt_format.specs.Formatting.{IsFormat, IsFormatted, ended, longest, printed, refused, too_long}
use Rattle.tt_format.specs.declared.Formatted.{Formatted}
use Rattle.tt_format.specs.declared.Formatted.TheVariants.{Bad}
use Rattle.laws_language.proofs.Once.{Only}

no-template : {template : List ℕ} → template ≡ [] → 0 < length template → ⊥
no-template {template} e some = omega (arith, some, ap length e)

one-piece : {came : Piece} {one other rest left : List ℕ} {after later : List (List ℕ)} → came ≡ Printed one rest after → came ≡ Printed other left later
    → (one ≡ other) × (rest ≡ left) × (after ≡ later)
one-piece is its = (cc, cc, cc)

no-piece : {came : Piece} {bytes rest message : List ℕ} {later : List (List ℕ)} → came ≡ Printed bytes rest later → came ≡ Refused message → ⊥
no-piece is its = cc

one-refused : {came : Piece} {one other : List ℕ} → came ≡ Refused one → came ≡ Refused other → one ≡ other
one-refused is its = cc

not-both : (before one other : List ℕ) → one ≡ other → length (before ++ one) ≤ longest → longest < length (before ++ other) → ⊥
not-both before one other same fits long = omega (arith, fits, long, ap (λ bytes. length (before ++ bytes)) same)

formatted-same : {before template : List ℕ} {values : List (List ℕ)} {one other : Formatted}
    → IsFormatted before template values one → IsFormatted before template values other → one ≡ other
formatted-same (ended e) (ended h) = refl
formatted-same (ended e) (printed some is fits rest) = absurd (no-template e some)
formatted-same (ended e) (too_long some is long) = absurd (no-template e some)
formatted-same (ended e) (refused some is) = absurd (no-template e some)
formatted-same (printed some is fits rest) (ended e) = absurd (no-template e some)
formatted-same {before} {other = end} (printed {bytes = one} {rest = rest} {later = after} some is fits more)
    (printed {bytes = other} {rest = left} {later = later} any its fit most) =
    let same = one-piece is its in
    formatted-same more
    (subst (λ (bytes : List ℕ). IsFormatted (before ++ bytes) rest after end) (sym same.0)
    (subst (λ (template : List ℕ). IsFormatted (before ++ other) template after end) (sym same.1)
    (subst (λ (values : List (List ℕ)). IsFormatted (before ++ other) left values end) (sym same.2) most)))
formatted-same {before} (printed {bytes = one} some is fits more) (too_long {bytes = other} any its long) =
    absurd (not-both before one other (one-piece is its).0 fits long)
formatted-same (printed some is fits more) (refused any its) = absurd (no-piece is its)
formatted-same (too_long some is long) (ended e) = absurd (no-template e some)
formatted-same {before} (too_long {bytes = one} some is long) (printed {bytes = other} any its fits more) =
    absurd (not-both before other one (one-piece its is).0 fits long)
formatted-same (too_long some is long) (too_long any its longs) = refl
formatted-same (too_long some is long) (refused any its) = absurd (no-piece is its)
formatted-same (refused some is) (ended e) = absurd (no-template e some)
formatted-same (refused some is) (printed any its fits more) = absurd (no-piece its is)
formatted-same (refused some is) (too_long any its long) = absurd (no-piece its is)
formatted-same (refused some is) (refused any its) = ap Bad (one-refused is its)

pub format-once : (template : List ℕ) (values : List (List ℕ)) → Only (IsFormat template values)
format-once template values one other is its = formatted-same is its
