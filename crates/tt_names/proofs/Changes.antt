-- What changes leave of names.
use Rattle.std.proofs.Common.{◌≡◌, ◌∙◌, ℕ, zero, suc, ◌<◌, Bool, true, false, cond, bytes_eq, List, [], ◌∷◌, ◌++◌, Option, Some, None}
use Rattle.std.proofs.Common.{slice_index_or, slice_set, slice_get, remove, length, refl, sym, ap, subst, arith}
use Rattle.std.specs.Option.{IfSome}
use Rattle.std.specs.Cmp.{IsEquivalence}
use Rattle.std.specs.List.{IsDistinct, list_any}
use Rattle.std.specs.Map.{keys_of}
use Rattle.std.proofs.lemmas.Cmp.{nat_list_eq_equiv}
use Rattle.std.proofs.lemmas.Map.Keys.{IsDistinct-push}
use Rattle.std.proofs.lemmas.Map.Entries.{length-keys_of}
use Rattle.std.proofs.lemmas.Option.{slice_get_within}
use Rattle.std.proofs.lemmas.Slice.Eq.{bytes_eq-Decides}
use Rattle.indexmap.specs.IndexMap.{set_value_at}
use Rattle.indexmap.proofs.MapLemmas.{absent_from_lookup, index-first, insert_entry-absent}
use Rattle.indexmap.proofs.RemoveLemmas.{Out, own_first, shift_out}
use Rattle.indexmap.proofs.SetLemmas.{keys_insert_entry}
use Rattle.tt_names.specs.declared.storage.Storage.{Storage}
use Rattle.tt_names.specs.declared.storage.Storage.TheVariants.{Few, Many}
use Rattle.tt_names.specs.inside.Lent.{with_stored}
use Rattle.tt_names.specs.inside.Stored.{stored_pairs}
use Rattle.tt_names.specs.Names.{Name, NamesDiffer, Updates, place_of, under, with_name}
use Rattle.tt_names.proofs.Places.{put_at}

same : IsEquivalence bytes_eq
same = nat_list_eq_equiv

pub none_differ : {X : Type 0} (names : List (Name × X)) → names ≡ [] → NamesDiffer names
unfolding IsDistinct
none_differ names is = subst NamesDiffer (sym is) tt

-- ---- another item at a place ----

keys-put : {X : Type 0} (names : List (Name × X)) (place : ℕ) (item : X) → keys_of (set_value_at names place item) ≡ keys_of names
keys-put [] place item = refl
keys-put (pair ∷ names) zero item = refl
keys-put (pair ∷ names) (suc place) item = ap (λ keys. pair.0 ∷ keys) (keys-put names place item)

put_there : {X : Type 0} (names : List (Name × X)) (place : ℕ) (item : X) →
    slice_set names place ((slice_index_or names place ([], item)).0, item) ≡ set_value_at names place item
put_there [] place item = refl
put_there (pair ∷ names) zero item = refl
put_there (pair ∷ names) (suc place) item = ap (λ later. pair ∷ later) (put_there names place item)

pub with_item : {V : Type 0} (storage : Storage V) (place : ℕ) (item : V) →
    stored_pairs (with_stored storage place item) ≡ set_value_at (stored_pairs storage) place item
with_item (Few pairs) place item = put_there pairs.items place item
with_item (Many map) place item = refl

pub put_differ : {X : Type 0} (names : List (Name × X)) (place : ℕ) (item : X) → NamesDiffer names → NamesDiffer (set_value_at names place item)
put_differ names place item = subst (IsDistinct bytes_eq) (sym (keys-put names place item))

pub item_differ : {V : Type 0} (storage : Storage V) (place : ℕ) (item : V) → NamesDiffer (stored_pairs storage) → NamesDiffer (stored_pairs (with_stored storage place item))
item_differ storage place item differ =
    subst NamesDiffer (sym (with_item storage place item)) (put_differ (stored_pairs storage) place item differ)

-- ---- an item under a name ----

pub put_under : {V : Type 0} (storage : Storage V) (name : Name) (place : ℕ) (item : V) → place_of (stored_pairs storage) name ≡ Some place →
    stored_pairs (with_stored storage place item) ≡ with_name (stored_pairs storage) name item
put_under storage name place item at = with_item storage place item ∙ sym (put_at (stored_pairs storage) name place at item)

pub goes_last : {X : Type 0} (names : List (Name × X)) (name : Name) (item : X) → under names name ≡ None →
    with_name names name item ≡ names ++ (name, item) ∷ []
goes_last names name item none = insert_entry-absent bytes_eq name item names (absent_from_lookup (bytes_eq name) names none)

pub with_differ : {X : Type 0} (names : List (Name × X)) (name : Name) (item : X) → NamesDiffer names → NamesDiffer (with_name names name item)
with_differ names name item differ =
    subst (IsDistinct bytes_eq) (sym (keys_insert_entry bytes_eq names name item)) (by (list_any (bytes_eq name) (keys_of names)) refl)
  where
    by : (b : Bool) → list_any (bytes_eq name) (keys_of names) ≡ b → IsDistinct bytes_eq (cond b (keys_of names) (keys_of names ++ name ∷ []))
    by true is = differ
    by false is = IsDistinct-push same (keys_of names) name differ is

twice : {A : Type 0} (c : Bool) (x y z : A) → cond c x z ≡ cond c x (cond c y z)
twice true x y z = refl
twice false x y z = refl

pub with_updates : {X : Type 0} (names : List (Name × X)) (name : Name) (item : X) → Updates names (with_name names name item) name (Some item)
with_updates [] name item other = ap (λ b. cond b (Some item) None) (same.symm other name)
with_updates {X} (pair ∷ names) name item other = by (bytes_eq name pair.0) refl (with_updates names name item other)
  where
    Later : Type 0
    Later = under (with_name names name item) other ≡ cond (bytes_eq name other) (Some item) (under names other)

    past : (c : Bool) → bytes_eq other pair.0 ≡ c → bytes_eq name pair.0 ≡ false → Later →
        cond c (Some pair.1) (under (with_name names name item) other)
        ≡ cond (bytes_eq name other) (Some item) (cond c (Some pair.1) (under names other))
    past true at apart later =
        sym (ap (λ b. cond b (Some item) (Some pair.1))
        (same.symm name other ∙ same.congr other pair.0 name at ∙ same.symm pair.0 name ∙ apart))
    past false at apart later = later

    by : (b : Bool) → bytes_eq name pair.0 ≡ b → Later →
        under (cond b ((pair.0, item) ∷ names) (pair ∷ with_name names name item)) other
        ≡ cond (bytes_eq name other) (Some item) (under (pair ∷ names) other)
    by true is later =
        twice (bytes_eq other pair.0) (Some item) (Some pair.1) (under names other)
        ∙ ap (λ b. cond b (Some item) (under (pair ∷ names) other)) (sym (same.congr name pair.0 other is ∙ same.symm pair.0 other))
    by false is later = past (bytes_eq other pair.0) refl is later

pub inserted_differ : {X : Type 0} (names new : List (Name × X)) (name : Name) (item : X) → new ≡ with_name names name item → NamesDiffer names → NamesDiffer new
inserted_differ names new name item is differ = subst NamesDiffer (sym is) (with_differ names name item differ)

pub inserted_updates : {X : Type 0} (names new : List (Name × X)) (name : Name) (item : X) → new ≡ with_name names name item → Updates names new name (Some item)
inserted_updates names new name item is = subst (λ now. Updates names now name (Some item)) (sym is) (with_updates names name item)

-- ---- a name less ----

module _ {X : Type 0} (names : List (Name × X)) (place : ℕ) (pair : Name × X) (at : slice_get names place ≡ Some pair) (differ : NamesDiffer names) where
  taken : Out bytes_eq same (bytes_eq pair.0) names (remove names place) pair
  taken = shift_out bytes_eq same (bytes_eq pair.0) (same.congr pair.0) names place pair
      (index-first (bytes_eq pair.0) names place (own_first bytes_eq same names place pair.0 pair.1 differ at)) at differ (remove names place) refl

  pub taken_differ : NamesDiffer (remove names place)
  taken_differ = taken.unique

  pub taken_updates : Updates names (remove names place) pair.0 None
  taken_updates = taken.updated.0

there : {X : Type 0} (names : List (Name × X)) (place : ℕ) → place < length names → (pair : Name × X) × (slice_get names place ≡ Some pair)
there [] place within = absurd (omega (arith, within))
there (pair ∷ names) zero within = (pair, refl)
there (pair ∷ names) (suc place) within = there names place (omega (arith, within))

-- ---- a name at a place ----

pub key_there : {X : Type 0} (pairs : List (Name × X)) (place : ℕ) (pair : Name × X) → place < length pairs
    → pair ≡ slice_index_or pairs place pair → slice_get (keys_of pairs) place ≡ Some pair.0
key_there [] place pair within is = absurd (omega (arith, within))
key_there (first ∷ pairs) zero pair within is = ap (λ found. Some found.0) (sym is)
key_there (first ∷ pairs) (suc place) pair within is = key_there pairs place pair (omega (arith, within)) is

pub key_nowhere : {X : Type 0} (pairs : List (Name × X)) (place : ℕ) → ¬ (place < length pairs) → slice_get (keys_of pairs) place ≡ None
key_nowhere [] zero beyond = refl
key_nowhere [] (suc place) beyond = refl
key_nowhere (first ∷ pairs) zero beyond = absurd (beyond (omega arith))
key_nowhere (first ∷ pairs) (suc place) beyond = key_nowhere pairs place (λ within. beyond (omega (arith, within)))

key_of : {X : Type 0} (names : List (Name × X)) (place : ℕ) (pair : Name × X) (key : Name) →
    slice_get names place ≡ Some pair → slice_get (keys_of names) place ≡ Some key → pair.0 ≡ key
key_of [] zero pair key at is = absurd (cc)
key_of [] (suc place) pair key at is = absurd (cc)
key_of (first ∷ names) zero pair key at is = cc
key_of (first ∷ names) (suc place) pair key at is = key_of names place pair key at is

module _ {X : Type 0} (names : List (Name × X)) (name key : Name) (place : ℕ) (at : slice_get (keys_of names) place ≡ Some key) where
  pub near_within : place < length names
  near_within = omega (arith, slice_get_within (keys_of names) place key at, length-keys_of names)

  -- no other name is the one at a place
  pub found_near : NamesDiffer names → bytes_eq key name ≡ true → Some place ≡ place_of names name
  found_near differ same_bytes =
      let found = there names place near_within in
      let pair = found.0 in
      let is : pair.0 ≡ name = key_of names place pair key found.1 at ∙ (bytes_eq-Decides key name).0 same_bytes in
      let first = index-first (bytes_eq pair.0) names place (own_first bytes_eq same names place pair.0 pair.1 differ found.1) in
      sym (subst (λ own. place_of names own ≡ Some place) is first)

module _ {X : Type 0} (names new : List (Name × X)) (place : ℕ) (is : new ≡ remove names place) (differ : NamesDiffer names) where
  pub less_differ : place < length names → NamesDiffer new
  less_differ within =
      let found = there names place within in
      subst NamesDiffer (sym is) (taken_differ names place found.0 found.1 differ)

  pub less_updates : IfSome (slice_get names place) (λ pair. Updates names new pair.0 None)
  less_updates = by (slice_get names place) refl
    where
      by : (found : Option (Name × X)) → slice_get names place ≡ found → IfSome found (λ pair. Updates names new pair.0 None)
      by None at = tt
      by (Some pair) at = subst (λ now. Updates names now pair.0 None) (sym is) (taken_updates names place pair at differ)
