-- What holds of the keys of dictionaries, of their values and of their texts.
use Rattle.std.proofs.Common.{◌≡◌, ◌∙◌, ℕ, Bool, true, false, cond, bytes_eq, List, [], ◌∷◌, ◌++◌, Option, Some, None}
use Rattle.std.proofs.Common.{Ok, refl, sym, ap, subst, append-nil, append_assoc, unwrap_or, if◌then◌else◌, rules}
use Rattle.std.specs.Cmp.{IsEquivalence}
use Rattle.std.proofs.lemmas.Cmp.{nat_list_eq_equiv}
use Rattle.std.proofs.lemmas.Map.{lookup-remove_entry}
use Rattle.std.proofs.lemmas.Slice.Eq.{bytes_eq-Decides}
use Rattle.std.specs.List.{AllByRecursion, IsDistinct}
use Rattle.std.specs.Map.{keys_of, remove_entry}
use Rattle.indexmap.specs.IndexMap.{insert_entry}
use Rattle.indexmap.proofs.MapLemmas.{absent_before, absent_from_lookup, insert_entry-absent}
use Rattle.tt_lists.proofs.Joining.{splits_back}
use Rattle.tt_lists.specs.declared.items.Split.{Split}
use Rattle.tt_lists.specs.declared.items.Split.TheVariants.{Items, Bad}
use Rattle.tt_lists.specs.Reading.{split_of}
use Rattle.tt_pairs.specs.PairLaws.{KeysDiffer, KeysLaw, OtherValuesLaw, ReadsBackLaw}
use Rattle.tt_pairs.specs.Pairs.{Pairs, items_of, joined_pairs, value_of, with_pair, without_key}
use Rattle.tt_pairs.specs.Reading.{pairs_of, reading_by, whole, with_items}

same_bytes : IsEquivalence bytes_eq
same_bytes = nat_list_eq_equiv

-- ---- keys ----

other_than_put : (x key value : List ℕ) (pairs : Pairs) →
    AllByRecursion (λ other. bytes_eq x other ≡ false) (keys_of pairs) →
    bytes_eq x key ≡ false →
    AllByRecursion (λ other. bytes_eq x other ≡ false) (keys_of (insert_entry bytes_eq pairs key value))
other_than_put x key value [] all apart = (apart, tt)
other_than_put x key value (pair ∷ pairs) all apart =
    go (bytes_eq key pair.0) (other_than_put x key value pairs all.1 apart)
  where
    go : (b : Bool) → AllByRecursion (λ other. bytes_eq x other ≡ false) (keys_of (insert_entry bytes_eq pairs key value))
        → AllByRecursion (λ other. bytes_eq x other ≡ false)
        (keys_of (if b then (pair.0, value) ∷ pairs else pair ∷ insert_entry bytes_eq pairs key value))
    go true later = all
    go false later = (all.0, later)

pub put_differ : (pairs : Pairs) (key value : List ℕ) → KeysDiffer pairs → KeysDiffer (with_pair pairs key value)
unfolding IsDistinct
put_differ [] key value differ = (tt, tt)
put_differ (pair ∷ pairs) key value differ =
    go (bytes_eq key pair.0) refl (put_differ pairs key value differ.1)
  where
    go : (b : Bool) → bytes_eq key pair.0 ≡ b → KeysDiffer (insert_entry bytes_eq pairs key value)
        → KeysDiffer (if b then (pair.0, value) ∷ pairs else pair ∷ insert_entry bytes_eq pairs key value)
    go true is later = differ
    go false is later = (other_than_put pair.0 key value pairs differ.0 (same_bytes.symm pair.0 key ∙ is), later)

still_other : (x key : List ℕ) (pairs : Pairs) →
    AllByRecursion (λ other. bytes_eq x other ≡ false) (keys_of pairs) →
    AllByRecursion (λ other. bytes_eq x other ≡ false) (keys_of (remove_entry (bytes_eq key) pairs))
still_other x key [] all = tt
still_other x key (pair ∷ pairs) all = go (bytes_eq key pair.0) (still_other x key pairs all.1)
  where
    go : (b : Bool) → AllByRecursion (λ other. bytes_eq x other ≡ false) (keys_of (remove_entry (bytes_eq key) pairs))
        → AllByRecursion (λ other. bytes_eq x other ≡ false)
        (keys_of (cond b pairs (pair ∷ remove_entry (bytes_eq key) pairs)))
    go true later = all.1
    go false later = (all.0, later)

pub removed_differ : (pairs : Pairs) (key : List ℕ) → KeysDiffer pairs → KeysDiffer (without_key pairs key)
unfolding IsDistinct
removed_differ [] key differ = tt
removed_differ (pair ∷ pairs) key differ = go (bytes_eq key pair.0) (removed_differ pairs key differ.1)
  where
    go : (b : Bool) → KeysDiffer (remove_entry (bytes_eq key) pairs) → KeysDiffer (cond b pairs (pair ∷ remove_entry (bytes_eq key) pairs))
    go true later = differ.1
    go false later = (still_other pair.0 key pairs differ.0, later)

merged_differ : (pairs more : Pairs) → KeysDiffer pairs → KeysDiffer (joined_pairs pairs more)
merged_differ pairs [] differ = differ
merged_differ pairs (pair ∷ more) differ =
    merged_differ (with_pair pairs pair.0 pair.1) more (put_differ pairs pair.0 pair.1 differ)

pub no_keys : KeysDiffer []
unfolding IsDistinct
no_keys = tt

some_same : {A : Type 0} {x y : A} → Some x ≡ Some y → x ≡ y
some_same {A} {x} is = ap (λ r. unwrap_or r x) is

items_differ : (pairs : Pairs) (items : List (List ℕ)) (found : Pairs) →
    with_items pairs items ≡ Some found → KeysDiffer pairs → KeysDiffer found
items_differ pairs [] found is differ = subst KeysDiffer (some_same is) differ
items_differ pairs (key ∷ []) found is differ = absurd (search (rules, is))
items_differ pairs (key ∷ value ∷ items) found is differ =
    items_differ (with_pair pairs key value) items found is (put_differ pairs key value differ)

whole_some : (found : Option Pairs) (pairs : Pairs) → whole found ≡ Ok pairs → found ≡ Some pairs
whole_some (Some found) pairs is = grind rules
whole_some None pairs is = absurd (search (rules, is))

split_differ : (split : Split) (pairs : Pairs) → reading_by split ≡ Ok pairs → KeysDiffer pairs
split_differ (Items items) pairs is = items_differ [] items pairs (whole_some (pairs_of items) pairs is) no_keys
split_differ (Bad fault) pairs is = absurd (search (rules, is))

pub keys_law : KeysLaw
keys_law = record {
  read = λ text pairs is. split_differ (split_of text) pairs is;
  put = put_differ;
  removed = removed_differ;
  merged = merged_differ;
}

-- ---- texts ----

items_back : (done pairs : Pairs) → KeysDiffer (done ++ pairs) → with_items done (items_of pairs) ≡ Some (done ++ pairs)
items_back done [] differ = ap Some (sym (append-nil done))
items_back done (pair ∷ pairs) differ =
    let new : with_pair done pair.0 pair.1 ≡ done ++ pair ∷ [] =
    insert_entry-absent bytes_eq pair.0 pair.1 done
    (absent_from_lookup (bytes_eq pair.0) done (absent_before same_bytes done pairs pair differ)) in
    let along : (done ++ pair ∷ []) ++ pairs ≡ done ++ pair ∷ pairs = append_assoc done (pair ∷ []) pairs in
    ap (λ begun. with_items begun (items_of pairs)) new
    ∙ items_back (done ++ pair ∷ []) pairs (subst KeysDiffer (sym along) differ)
    ∙ ap Some along

pub reads_back : ReadsBackLaw
reads_back pairs differ = ap reading_by (splits_back (items_of pairs)) ∙ ap whole (items_back [] pairs differ)

-- pairs whose keys differ, put in one after the other

joined_back : (done pairs : Pairs) → KeysDiffer (done ++ pairs) → joined_pairs done pairs ≡ done ++ pairs
joined_back done [] differ = sym (append-nil done)
joined_back done (pair ∷ pairs) differ =
    let new : with_pair done pair.0 pair.1 ≡ done ++ pair ∷ [] =
    insert_entry-absent bytes_eq pair.0 pair.1 done
    (absent_from_lookup (bytes_eq pair.0) done (absent_before same_bytes done pairs pair differ)) in
    let along : (done ++ pair ∷ []) ++ pairs ≡ done ++ pair ∷ pairs = append_assoc done (pair ∷ []) pairs in
    ap (λ begun. joined_pairs begun pairs) new
    ∙ joined_back (done ++ pair ∷ []) pairs (subst KeysDiffer (sym along) differ)
    ∙ along

pub joined_alone : (pairs : Pairs) → KeysDiffer pairs → joined_pairs [] pairs ≡ pairs
joined_alone pairs differ = joined_back [] pairs differ

-- ---- values ----

put_value : (pairs : Pairs) (key value other : List ℕ) →
    value_of (with_pair pairs key value) other ≡ (if bytes_eq other key then Some value else value_of pairs other)
put_value [] key value other = refl
put_value (pair ∷ pairs) key value other = go (bytes_eq key pair.0) refl (put_value pairs key value other)
  where
    Later : Type 0
    Later =
        value_of (with_pair pairs key value) other ≡ (if bytes_eq other key then Some value else value_of pairs other)

    at_key : (b : Bool) →
        cond b (Some value) (value_of pairs other) ≡ cond b (Some value) (cond b (Some pair.1) (value_of pairs other))
    at_key true = refl
    at_key false = refl

    past_key : (b : Bool) → bytes_eq other pair.0 ≡ b → bytes_eq key pair.0 ≡ false → Later →
        cond b (Some pair.1) (value_of (with_pair pairs key value) other)
        ≡ cond (bytes_eq other key) (Some value) (cond b (Some pair.1) (value_of pairs other))
    past_key true at apart later =
        sym (ap (λ b. cond b (Some value) (Some pair.1)) (same_bytes.congr other pair.0 key at ∙ same_bytes.symm pair.0 key ∙ apart))
    past_key false at apart later = later

    go : (b : Bool) → bytes_eq key pair.0 ≡ b → Later →
        value_of (if b then (pair.0, value) ∷ pairs else pair ∷ insert_entry bytes_eq pairs key value) other
        ≡ cond (bytes_eq other key) (Some value) (value_of (pair ∷ pairs) other)
    go true is later =
        subst (λ k. cond (bytes_eq other pair.0) (Some value) (value_of pairs other)
        ≡ cond (bytes_eq other k) (Some value) (cond (bytes_eq other pair.0) (Some pair.1) (value_of pairs other)))
        (sym ((bytes_eq-Decides key pair.0).0 is)) (at_key (bytes_eq other pair.0))
    go false is later = past_key (bytes_eq other pair.0) refl is later

removed_value : (pairs : Pairs) (key other : List ℕ) → KeysDiffer pairs →
    value_of (without_key pairs key) other ≡ (if bytes_eq other key then None else value_of pairs other)
removed_value pairs key other differ =
    lookup-remove_entry same_bytes (bytes_eq key) (λ x y same. same_bytes.congr key x y same) other pairs differ
    ∙ ap (λ b. cond b None (value_of pairs other)) (same_bytes.symm key other)

pub other_values_law : OtherValuesLaw
other_values_law = record { put = put_value; removed = removed_value }
