-- What holds of the command dict(n).
use Rattle.std.proofs.Common.{◌≡◌, ℕ, codes, List, [], ◌∷◌, ◌++◌, Result, Ok, Err, ap, subst, unwrap_or, rules}
use Rattle.std.specs.Result.{result_ok}
use Rattle.tt_lists.specs.Reading.{split_of}
use Rattle.tt_pairs.proofs.PairLaws.{keys_law}
use Rattle.tt_pairs.specs.PairLaws.{KeysDiffer}
use Rattle.tt_pairs.specs.Pairs.{Pairs, joined_pairs, text_of, value_of}
use Rattle.tt_pairs.specs.Reading.{Reading}
use Rattle.tt_dict.specs.Changing.{text_with, change_answer, text_increase, list_with, putting, value_or}
use Rattle.tt_dict.specs.DictLaws.{ChangedKeysLaw, MergeLaw, SamePairsLaw}
use Rattle.tt_dict.specs.Paths.{after_edit, after_edit_at, after_edit_on, for_pairs, put_back, way_by}
use Rattle.tt_dict.specs.Telling.{merge_of, text_answer}
use Rattle.tt_dict.specs.declared.changes.Change.TheVariants.{Set, Unset, Incr, Append, Lappend}
use Rattle.tt_dict.specs.declared.edit.Edit.{Edit}
use Rattle.tt_dict.specs.declared.edit.Edit.TheVariants.{Put, Remove}

-- ---- the same pairs ----

pub same_pairs : SamePairsLaw
same_pairs = record {
  read = λ answer wrong one other words same. ap (λ reading. answer wrong reading words) same;
  merged = λ wrong ones others same. ap (λ readings. text_answer text_of (merge_of [] readings)) same;
  changed = λ change one other same. ap (change_answer change) same;
}

-- ---- keys ----

ok_same : {A B : Type 0} {x y : A} → ◌≡◌ {A = Result A B} (Ok x) (Ok y) → x ≡ y
ok_same {A} {B} {x} is = ap (λ r. unwrap_or (result_ok r) x) is

putting_differ : (pairs made : Pairs) (key : List ℕ) (text : Result (List ℕ) (List ℕ)) →
    KeysDiffer pairs → putting pairs key text ≡ Ok made → KeysDiffer made
putting_differ pairs made key (Ok text) differ is = subst KeysDiffer (ok_same is) (keys_law.put pairs key text differ)
putting_differ pairs made key (Err message) differ is = absurd (search (rules, is))

back_differ : (pairs made : Pairs) (key : List ℕ) (inner : Reading) →
    KeysDiffer pairs → put_back pairs key inner ≡ Ok made → KeysDiffer made
back_differ pairs made key (Ok inner) differ is =
    subst KeysDiffer (ok_same is) (keys_law.put pairs key (text_of inner) differ)
back_differ pairs made key (Err message) differ is = absurd (search (rules, is))

edited_differ : (edit : Edit) (pairs : Pairs) (key : List ℕ) → KeysDiffer pairs → KeysDiffer (after_edit edit pairs key)
edited_differ (Put value) pairs key differ = keys_law.put pairs key value differ
edited_differ Remove pairs key differ = keys_law.removed pairs key differ

path_differ : (edit : Edit) (pairs made : Pairs) (path : List (List ℕ)) →
    KeysDiffer pairs → after_edit_on edit pairs path ≡ Ok made → KeysDiffer made
path_differ edit pairs made [] differ is = subst KeysDiffer (ok_same is) differ
path_differ edit pairs made (key ∷ []) differ is =
    subst KeysDiffer (ok_same is) (edited_differ edit pairs key differ)
path_differ edit pairs made (key ∷ next ∷ keys) differ is =
    back_differ pairs made key
    (for_pairs (λ inner. after_edit_at edit inner next keys) (way_by edit key (value_of pairs key))) differ is

pub changed_keys : ChangedKeysLaw
changed_keys (Set path value) pairs made differ is = path_differ (Put value) pairs made path differ is
changed_keys (Unset path) pairs made differ is = path_differ Remove pairs made path differ is
changed_keys (Incr key by) pairs made differ is =
    putting_differ pairs made key (text_increase (value_or (codes "0") pairs key) by) differ is
changed_keys (Append key pieces) pairs made differ is =
    putting_differ pairs made key (Ok (text_with (value_or [] pairs key) pieces)) differ is
changed_keys (Lappend key items) pairs made differ is =
    putting_differ pairs made key (list_with (split_of (value_or [] pairs key)) items) differ is

-- ---- merging ----

merge_from : (pairs between : Pairs) (reading : Reading) (front back : List Reading) →
    ((more : Pairs) → merge_of (joined_pairs pairs more) front ≡ Ok between →
    merge_of (joined_pairs pairs more) (front ++ back) ≡ merge_of between back) →
    merge_of pairs (reading ∷ front) ≡ Ok between →
    merge_of pairs (reading ∷ front ++ back) ≡ merge_of between back
merge_from pairs between (Ok more) front back goes is = goes more is
merge_from pairs between (Err message) front back goes is = absurd (search (rules, is))

pub merges_on : MergeLaw
merges_on pairs between [] back is = ap (λ pairs. merge_of pairs back) (ok_same is)
merges_on pairs between (reading ∷ front) back is =
    merge_from pairs between reading front back (λ more. merges_on (joined_pairs pairs more) between front back) is
