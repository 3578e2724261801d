-- The values of an id in rows, when values are added.
use Rattle.std.proofs.Common.{◌≡◌, Bool, true, false, List, [], ◌∷◌, ◌++◌, refl, sym, ◌∙◌, subst}
use Rattle.std.specs.List.{find}
use Rattle.std.specs.Option.{option_map_or}
use Rattle.std.specs.Str.{bytes_eq}
use Rattle.std.proofs.lemmas.Slice.Eq.{bytes_eq-Decides}
use Rattle.clap.specs.Walk.{Row, Text, with_values}
use Rattle.clap.specs.declared.builder.value_parser.Reading.{Reading}
use Rattle.clap.specs.declared.parser.matches.ValueSource.{ValueSource}

-- the values of an id
abbrev pub values_at : Text → List Row → List Text
values_at id rows = option_map_or (λ r. r.values) (find (λ r. bytes_eq r.id id) rows) []

pub same_text : (a b : Text) → bytes_eq a b ≡ true → a ≡ b
same_text a b e = (bytes_eq-Decides a b).0 e

pub same_test : (a b : Text) → a ≡ b → bytes_eq a b ≡ true
same_test a b e = (bytes_eq-Decides a b).1 e

true_not_false : (b : Bool) → b ≡ true → b ≡ false → ⊥
true_not_false b t f = let e : true ≡ false = sym t ∙ f in cc

-- the values of this id, with one value more
module _ (id : Text) (how : Reading) (source : ValueSource) (value : Text) where
  -- the same id
  more_here : (row : Row) (rows : List Row) (b : Bool) → bytes_eq row.id id ≡ b →
      values_at id (with_values id how source (value ∷ []) rows) ≡ values_at id rows ++ value ∷ [] →
      values_at id (with_values id how source (value ∷ []) (row ∷ rows)) ≡ values_at id (row ∷ rows) ++ value ∷ []
  more_here row rows true e more = rw (e, e) refl
  more_here row rows false e more = rw (e, e) more

  pub values_more : (rows : List Row) →
      values_at id (with_values id how source (value ∷ []) rows) ≡ values_at id rows ++ value ∷ []
  values_more [] = rw (same_test id id refl) refl
  values_more (row ∷ rows) = more_here row rows (bytes_eq row.id id) refl (values_more rows)

  -- another id
  module _ (other : Text) (differs : bytes_eq id other ≡ false) where
    not_both : (row : Row) → bytes_eq row.id id ≡ true → bytes_eq row.id other ≡ false
    not_both row e = subst (λ (t : Text). bytes_eq t other ≡ false) (sym (same_text row.id id e)) differs

    same_here : (row : Row) (rows : List Row) (b d : Bool) → bytes_eq row.id id ≡ b → bytes_eq row.id other ≡ d →
        values_at other (with_values id how source (value ∷ []) rows) ≡ values_at other rows →
        values_at other (with_values id how source (value ∷ []) (row ∷ rows)) ≡ values_at other (row ∷ rows)
    same_here row rows true true e d same = absurd (true_not_false (bytes_eq row.id other) d (not_both row e))
    same_here row rows true false e d same = rw (e, d) refl
    same_here row rows false true e d same = rw (e, d) refl
    same_here row rows false false e d same = rw (e, d) same

    pub values_same : (rows : List Row) →
        values_at other (with_values id how source (value ∷ []) rows) ≡ values_at other rows
    values_same [] = rw differs refl
    values_same (row ∷ rows) =
        same_here row rows (bytes_eq row.id id) (bytes_eq row.id other) refl refl (values_same rows)
