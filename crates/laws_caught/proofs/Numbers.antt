-- What stands under a number, after entries under other numbers were changed.
use Rattle.std.proofs.Common.{◌≡◌, ◌≢◌, ◌∙◌, ℕ, Bool, true, false, cond, List, [], ◌∷◌, map, Option, Some, None, option_map, refl, ap, sym}
use Rattle.std.specs.BTreeMap.{insert_entry, is_at}
use Rattle.std.specs.Map.{lookup, remove_entry, set_value}
use Rattle.std.specs.Ordering.{is_eq, match_ordering, nat_cmp}
use Rattle.std.specs.declared.cmp.Ordering.{Ordering}
use Rattle.std.specs.declared.cmp.Ordering.TheVariants.{Less, Equal, Greater}
use Rattle.laws_sends.proofs.Entries.{Entries, key_is}
use Rattle.laws_shared.proofs.Deciding.{not_true}

abbrev pub is_number : ℕ → ℕ → Bool
is_number n = is_at (nat_cmp n)

-- another number is not at this place
apart_at : (n k key : ℕ) → k ≢ n → is_number k key ≡ true → is_number n key ≡ false
apart_at n k key other here = not_true (is_number n key) (λ there. other (sym (key_is k key here) ∙ key_is n key there))

module _ {X : Type 0} where
  abbrev at : ℕ → Entries X → Option X
  at n entries = lookup (is_number n) entries

  pub at_set : (n k : ℕ) (es : Entries X) (x : X) → k ≢ n → at n (set_value (is_number k) es x) ≡ at n es
  at_set n k [] x other = refl
  at_set n k (e ∷ es) x other = go (is_number k e.0) refl (at_set n k es x other)
    where
      go : (b : Bool) → is_number k e.0 ≡ b → at n (set_value (is_number k) es x) ≡ at n es
          → at n (cond b ((e.0, x) ∷ es) (e ∷ set_value (is_number k) es x)) ≡ at n (e ∷ es)
      go true here later = ap (λ b. cond b (Some x) (at n es)) (apart_at n k e.0 other here) ∙ sym (ap (λ b. cond b (Some e.1) (at n es)) (apart_at n k e.0 other here))
      go false here later = ap (λ rest. cond (is_number n e.0) (Some e.1) rest) later

  pub at_remove : (n k : ℕ) (es : Entries X) → k ≢ n → at n (remove_entry (is_number k) es) ≡ at n es
  at_remove n k [] other = refl
  at_remove n k (e ∷ es) other = go (is_number k e.0) refl (at_remove n k es other)
    where
      go : (b : Bool) → is_number k e.0 ≡ b → at n (remove_entry (is_number k) es) ≡ at n es
          → at n (cond b es (e ∷ remove_entry (is_number k) es)) ≡ at n (e ∷ es)
      go true here later = sym (ap (λ b. cond b (Some e.1) (at n es)) (apart_at n k e.0 other here))
      go false here later = ap (λ rest. cond (is_number n e.0) (Some e.1) rest) later

  pub at_insert : (n k : ℕ) (es : Entries X) (x : X) → k ≢ n → at n (insert_entry nat_cmp es k x) ≡ at n es
  at_insert n k [] x other = ap (λ b. cond b (Some x) None) (not_true (is_number n k) (λ is. other (key_is n k is)))
  at_insert n k (e ∷ es) x other = go (nat_cmp k e.0) refl (at_insert n k es x other)
    where
      not_here : is_number n k ≡ false
      not_here = not_true (is_number n k) (λ is. other (key_is n k is))

      go : (order : Ordering) → nat_cmp k e.0 ≡ order → at n (insert_entry nat_cmp es k x) ≡ at n es
          → at n (match_ordering order ((k, x) ∷ e ∷ es) ((e.0, x) ∷ es) (e ∷ insert_entry nat_cmp es k x)) ≡ at n (e ∷ es)
      go Less is later = ap (λ b. cond b (Some x) (at n (e ∷ es))) not_here
      go Equal is later =
          let out = apart_at n k e.0 other (ap is_eq is) in
          ap (λ b. cond b (Some x) (at n es)) out ∙ sym (ap (λ b. cond b (Some e.1) (at n es)) out)
      go Greater is later = ap (λ rest. cond (is_number n e.0) (Some e.1) rest) later

  pub at_map : (n : ℕ) (change : X → X) (es : Entries X) → at n (map (λ entry. (entry.0, change entry.1)) es) ≡ option_map change (at n es)
  at_map n change [] = refl
  at_map n change (e ∷ es) = go (is_number n e.0) (at_map n change es)
    where
      go : (b : Bool) → at n (map (λ entry. (entry.0, change entry.1)) es) ≡ option_map change (at n es)
          → cond b (Some (change e.1)) (at n (map (λ entry. (entry.0, change entry.1)) es)) ≡ option_map change (cond b (Some e.1) (at n es))
      go true later = refl
      go false later = later
