-- Names, their places and what stands there.
use Rattle.std.proofs.Common.{◌≡◌, ◌∙◌, ℕ, zero, suc, ◌<◌, ◌+◌, Bool, cond, not, nat_lt, List, [], ◌∷◌, Some}
use Rattle.std.proofs.Common.{None, position, slice_index_or, slice_get, bytes_eq, length, refl, sym, ap, arith}
use Rattle.std.proofs.lemmas.List.{get_or_default}
use Rattle.std.proofs.lemmas.Map.Entries.{length-keys_of}
use Rattle.std.specs.List.{position_or_len}
use Rattle.std.specs.Map.{keys_of, values_of}
use Rattle.indexmap.specs.IndexMap.{set_value_at}
use Rattle.indexmap.proofs.MapLemmas.{Found-position, Missing-position, insert_entry-first}
use Rattle.tt_names.specs.Names.{Name, place_of, under, with_name}

-- the name in a pair that is lent is the one at the place
pub name_there : {X : Type 0} (pairs : List (Name × X)) (place : ℕ) (pair : Name × X) (item : X) →
    place < length pairs → pair ≡ slice_index_or pairs place pair →
    (slice_index_or pairs place ([], item)).0 ≡ pair.0
name_there pairs place pair item there is = ap (λ found. found.0) (get_or_default pairs place ([], item) pair there ∙ sym is)

-- what is lent of it is what stands there
pub item_there : {X : Type 0} (pairs : List (Name × X)) (place : ℕ) (pair : Name × X) →
    place < length pairs → pair ≡ slice_index_or pairs place pair → slice_get (values_of pairs) place ≡ Some pair.1
item_there [] place pair there is = absurd (omega (arith, there))
item_there (first ∷ pairs) zero pair there is = ap (λ found. Some found.1) (sym is)
item_there (first ∷ pairs) (suc place) pair there is = item_there pairs place pair (omega (arith, there)) is

place_in_keys : {X : Type 0} (test : Name → Bool) (pairs : List (Name × X)) →
    position_or_len (λ pair. test pair.0) pairs ≡ position_or_len test (keys_of pairs)
place_in_keys test [] = refl
place_in_keys test (pair ∷ pairs) = ap (λ n. cond (not (test pair.0)) (1 + n) 0) (place_in_keys test pairs)

-- a search by the names of pairs is a search among the names
pub found_in_keys : {X : Type 0} (test : Name → Bool) (pairs : List (Name × X)) →
    position (λ pair. test pair.0) pairs ≡ position test (keys_of pairs)
found_in_keys test pairs i =
    cond (nat_lt (place_in_keys test pairs i) (sym (length-keys_of pairs) i)) (Some (place_in_keys test pairs i)) None

module _ {X : Type 0} (names : List (Name × X)) (name : Name) where
  pub place_within : (place : ℕ) → place_of names name ≡ Some place → place < length names
  place_within place at = (Found-position (bytes_eq name) names place at).within

  -- what stands under a name stands at its place
  pub stands_at : (place : ℕ) → place_of names name ≡ Some place → under names name ≡ slice_get (values_of names) place
  stands_at place at = (Found-position (bytes_eq name) names place at).value

  pub stands_nowhere : place_of names name ≡ None → under names name ≡ None
  stands_nowhere at = (Missing-position (bytes_eq name) names at).value

  -- a name that is there keeps its place
  pub put_at : (place : ℕ) → place_of names name ≡ Some place → (item : X) → with_name names name item ≡ set_value_at names place item
  put_at place at item = insert_entry-first bytes_eq name item names place (Found-position (bytes_eq name) names place at).first
