-- What is found in a table by ids, in the order of the ids' bytes, after it was changed.
use Rattle.std.proofs.Common.{◌≡◌, ◌≢◌, ◌∙◌, ℕ, Bool, true, false, cond, List, [], ◌∷◌, Option, Some, refl, ap, sym}
use Rattle.std.proofs.lemmas.Cmp.{nat_list_cmp_total, tied_itself}
use Rattle.std.proofs.lemmas.Map.Lookups.{exact_bytes}
use Rattle.std.proofs.lemmas.Map.Views.{tells_apart}
use Rattle.std.specs.BTreeMap.{insert_entry, is_at}
use Rattle.std.specs.Cmp.Lexicographic.{slice_cmp}
use Rattle.std.specs.Map.{lookup, remove_entry, set_value}
use Rattle.std.specs.Ordering.{is_eq, match_ordering, nat_cmp}
use Rattle.std.specs.declared.cmp.Ordering.{Ordering}
use Rattle.std.specs.declared.cmp.Ordering.TheVariants.{Less, Equal, Greater}

abbrev pub is_key : List ℕ → List ℕ → Bool
is_key text = is_at (slice_cmp nat_cmp text)

pub same_key : (a b : List ℕ) → is_key a b ≡ true → a ≡ b
same_key a b is = tells_apart exact_bytes a b is

pub own_key : (a : List ℕ) → is_key a a ≡ true
own_key a = ap is_eq (tied_itself nat_list_cmp_total a)

both : (a b key : List ℕ) → is_key a key ≡ true → is_key b key ≡ true → a ≡ b
both a b key here there = same_key a key here ∙ sym (same_key b key there)

abbrev pub Entries : Type 0 → Type 0
Entries X = List (List ℕ × X)

abbrev pub at : {X : Type 0} → List ℕ → Entries X → Option X
at text entries = lookup (is_key text) entries

module _ {X : Type 0} where
  -- another value under an id
  pub by_set : (P : Option X → Type 0) (text id : List ℕ) (entries : Entries X) (x : X)
      → (text ≡ id → P (at id entries) → P (Some x)) → P (at text entries) → P (at text (set_value (is_key id) entries x))
  by_set P text id [] x holding is = is
  by_set P text id (e ∷ es) x holding is = go (is_key id e.0) (is_key text e.0) refl refl holding is (by_set P text id es x)
    where
      go : (here there : Bool) → is_key id e.0 ≡ here → is_key text e.0 ≡ there
          → (text ≡ id → P (cond here (Some e.1) (at id es)) → P (Some x))
          → P (cond there (Some e.1) (at text es))
          → ((text ≡ id → P (at id es) → P (Some x)) → P (at text es) → P (at text (set_value (is_key id) es x)))
          → P (at text (cond here ((e.0, x) ∷ es) (e ∷ set_value (is_key id) es x)))
      go true true here there holding is later = rw there (holding (both text id e.0 there here) is)
      go true false here there holding is later = rw there is
      go false true here there holding is later = rw there is
      go false false here there holding is later = rw there (later holding is)

  -- the value that was set is found
  pub set_here : (id : List ℕ) (entries : Entries X) (x old : X) → at id entries ≡ Some old → at id (set_value (is_key id) entries x) ≡ Some x
  set_here id [] x old is = absurd (cc is)
  set_here id (e ∷ es) x old is = go (is_key id e.0) refl is (set_here id es x old)
    where
      go : (here : Bool) → is_key id e.0 ≡ here → cond here (Some e.1) (at id es) ≡ Some old →
          (at id es ≡ Some old → at id (set_value (is_key id) es x) ≡ Some x)
          → at id (cond here ((e.0, x) ∷ es) (e ∷ set_value (is_key id) es x)) ≡ Some x
      go true here is later = rw here refl
      go false here is later = rw here (later is)

  -- a new entry
  pub by_insert : (P : Option X → Type 0) (text id : List ℕ) (entries : Entries X) (x : X)
      → (text ≡ id → P (Some x)) → P (at text entries) → P (at text (insert_entry (slice_cmp nat_cmp) entries id x))
  by_insert P text id [] x holding is = go (is_key text id) refl
    where
      go : (there : Bool) → is_key text id ≡ there → P (at text ((id, x) ∷ []))
      go true there = rw there (holding (same_key text id there))
      go false there = rw there is
  by_insert P text id (e ∷ es) x holding is = go (slice_cmp nat_cmp id e.0) refl (is_key text e.0) refl is (by_insert P text id es x holding)
    where
      new : (there : Bool) → is_key text id ≡ there → (rest : Entries X) → P (at text rest) → P (cond there (Some x) (at text rest))
      new true there rest is = holding (same_key text id there)
      new false there rest is = is

      go : (order : Ordering) → slice_cmp nat_cmp id e.0 ≡ order → (there : Bool) → is_key text e.0 ≡ there
          → P (cond there (Some e.1) (at text es))
          → (P (at text es) → P (at text (insert_entry (slice_cmp nat_cmp) es id x)))
          → P (at text (match_ordering order ((id, x) ∷ e ∷ es) ((e.0, x) ∷ es) (e ∷ insert_entry (slice_cmp nat_cmp) es id x)))
      go Less is there other found later = new (is_key text id) refl (e ∷ es) (rw other found)
      go Equal is true other found later = rw other (holding (both text id e.0 other (ap is_eq is)))
      go Equal is false other found later = rw other found
      go Greater is true other found later = rw other found
      go Greater is false other found later = rw other (later found)

  -- an entry is taken out
  pub by_remove : (P : Option X → Type 0) (text id : List ℕ) (entries : Entries X) → text ≢ id → P (at text entries) →
      P (at text (remove_entry (is_key id) entries))
  by_remove P text id [] differs is = is
  by_remove P text id (e ∷ es) differs is = go (is_key id e.0) (is_key text e.0) refl refl is (by_remove P text id es differs)
    where
      go : (here there : Bool) → is_key id e.0 ≡ here → is_key text e.0 ≡ there
          → P (cond there (Some e.1) (at text es))
          → (P (at text es) → P (at text (remove_entry (is_key id) es)))
          → P (at text (cond here es (e ∷ remove_entry (is_key id) es)))
      go true true here there is later = absurd (differs (both text id e.0 there here))
      go true false here there is later = is
      go false true here there is later = rw there is
      go false false here there is later = rw there (later is)
