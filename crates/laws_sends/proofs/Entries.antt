-- Sums of weights over entries under numbers, and what holds of each, after they were changed.
use Rattle.std.proofs.Common.{◌≡◌, ◌∙◌, ◌+◌, ◌≤◌, ◌==◌, ℕ, nat_lt, Bool, true, false, cond, List, [], ◌∷◌, filter}
use Rattle.std.proofs.Common.{Option, Some, ap, refl, sym, subst, arith}
use Rattle.std.specs.BTreeMap.{insert_entry, is_at}
use Rattle.std.specs.Map.{lookup, remove_entry, set_value}
use Rattle.std.specs.Ordering.{is_eq, match_ordering, nat_cmp}
use Rattle.std.specs.declared.cmp.Ordering.{Ordering}
use Rattle.std.specs.declared.cmp.Ordering.TheVariants.{Less, Equal, Greater}
use Rattle.std.proofs.lemmas.Bool.Decides.{nat_tests}
use Rattle.laws_sends.proofs.Cuts.{Every}
use Rattle.laws_sends.proofs.Totals.{total}

pub key_is : (n k : ℕ) → is_at (nat_cmp n) k ≡ true → k ≡ n
key_is n k is = go (nat_lt n k) (n == k) refl refl is
  where
    go : (less same : Bool) → nat_lt n k ≡ less → (n == k) ≡ same → is_eq (cond less Less (cond same Equal Greater)) ≡ true → k ≡ n
    go true same less_is same_is is = absurd (cc is)
    go false true less_is same_is is = grind (arith, nat_tests, same_is)
    go false false less_is same_is is = absurd (cc is)

abbrev pub Entries : Type 0 → Type 0
Entries X = List (ℕ × X)

module _ {X : Type 0} where
  abbrev pub at : ℕ → Entries X → Option X
  at n entries = lookup (is_at (nat_cmp n)) entries

  -- ---- weights ----

  pub total-insert : (w : ℕ × X → ℕ) (es : Entries X) (k : ℕ) (v : X) → total w (insert_entry nat_cmp es k v) ≤ w (k, v) + total w es
  total-insert w [] k v = omega arith
  total-insert w (e ∷ es) k v = go (nat_cmp k e.0) refl (total-insert w es k v)
    where
      go : (order : Ordering) → nat_cmp k e.0 ≡ order → total w (insert_entry nat_cmp es k v) ≤ w (k, v) + total w es
          → total w (match_ordering order ((k, v) ∷ e ∷ es) ((e.0, v) ∷ es) (e ∷ insert_entry nat_cmp es k v)) ≤ w (k, v) + (w e + total w es)
      go Less is later = omega arith
      go Equal is later =
          let same : e.0 ≡ k = key_is k e.0 (ap is_eq is) in
          let weighs : w (e.0, v) ≡ w (k, v) = ap (λ key. w (key, v)) same in
          omega (arith, weighs)
      go Greater is later = omega (arith, later)

  pub total-remove : (w : ℕ × X → ℕ) (n : ℕ) (es : Entries X) (v : X) → at n es ≡ Some v → total w (remove_entry (is_at (nat_cmp n)) es) + w (n, v) ≡ total w es
  total-remove w n [] v there = absurd (cc there)
  total-remove w n (e ∷ es) v there = go (is_at (nat_cmp n) e.0) refl there (total-remove w n es v)
    where
      go : (b : Bool) → is_at (nat_cmp n) e.0 ≡ b → cond b (Some e.1) (at n es) ≡ Some v
          → (at n es ≡ Some v → total w (remove_entry (is_at (nat_cmp n)) es) + w (n, v) ≡ total w es)
          → total w (cond b es (e ∷ remove_entry (is_at (nat_cmp n)) es)) + w (n, v) ≡ w e + total w es
      go true is there later =
          let same : e.0 ≡ n = key_is n e.0 is in
          let found : e.1 ≡ v = cc there in
          let weighs : w e ≡ w (n, v) = ap (λ key. w (key, e.1)) same ∙ ap (λ value. w (n, value)) found in
          omega (arith, weighs)
      go false is there later = omega (arith, later there)

  pub total-set : (w : ℕ × X → ℕ) (n : ℕ) (es : Entries X) (v new : X) → at n es ≡ Some v →
      total w (set_value (is_at (nat_cmp n)) es new) + w (n, v) ≡ total w es + w (n, new)
  total-set w n [] v new there = absurd (cc there)
  total-set w n (e ∷ es) v new there = go (is_at (nat_cmp n) e.0) refl there (total-set w n es v new)
    where
      go : (b : Bool) → is_at (nat_cmp n) e.0 ≡ b → cond b (Some e.1) (at n es) ≡ Some v
          → (at n es ≡ Some v → total w (set_value (is_at (nat_cmp n)) es new) + w (n, v) ≡ total w es + w (n, new))
          → total w (cond b ((e.0, new) ∷ es) (e ∷ set_value (is_at (nat_cmp n)) es new)) + w (n, v) ≡ w e + total w es + w (n, new)
      go true is there later =
          let same : e.0 ≡ n = key_is n e.0 is in
          let found : e.1 ≡ v = cc there in
          let weighs : w e ≡ w (n, v) = ap (λ key. w (key, e.1)) same ∙ ap (λ value. w (n, value)) found in
          let now : w (e.0, new) ≡ w (n, new) = ap (λ key. w (key, new)) same in
          omega (arith, weighs, now)
      go false is there later = omega (arith, later there)

  -- an entry that is there counts
  pub total-at : (w : ℕ × X → ℕ) (n : ℕ) (es : Entries X) (v : X) → at n es ≡ Some v → w (n, v) ≤ total w es
  total-at w n es v there = omega (arith, total-remove w n es v there)

  -- ---- what holds of each ----

  pub every-insert : (P : ℕ × X → Type 0) (es : Entries X) (k : ℕ) (v : X) → Every P es → P (k, v) → Every P (insert_entry nat_cmp es k v)
  every-insert P [] k v every is = (is, tt)
  every-insert P (e ∷ es) k v every is = go (nat_cmp k e.0) refl (every-insert P es k v every.1 is)
    where
      go : (order : Ordering) → nat_cmp k e.0 ≡ order → Every P (insert_entry nat_cmp es k v)
          → Every P (match_ordering order ((k, v) ∷ e ∷ es) ((e.0, v) ∷ es) (e ∷ insert_entry nat_cmp es k v))
      go Less order later = (is, every)
      go Equal order later = (subst (λ key. P (key, v)) (sym (key_is k e.0 (ap is_eq order))) is, every.1)
      go Greater order later = (every.0, later)

  pub every-remove : (P : ℕ × X → Type 0) (n : ℕ) (es : Entries X) → Every P es → Every P (remove_entry (is_at (nat_cmp n)) es)
  every-remove P n [] every = tt
  every-remove P n (e ∷ es) every = go (is_at (nat_cmp n) e.0) (every-remove P n es every.1)
    where
      go : (b : Bool) → Every P (remove_entry (is_at (nat_cmp n)) es) → Every P (cond b es (e ∷ remove_entry (is_at (nat_cmp n)) es))
      go true later = every.1
      go false later = (every.0, later)

  pub every-set : (P : ℕ × X → Type 0) (n : ℕ) (es : Entries X) (new : X) → Every P es → P (n, new) → Every P (set_value (is_at (nat_cmp n)) es new)
  every-set P n [] new every is = tt
  every-set P n (e ∷ es) new every is = go (is_at (nat_cmp n) e.0) refl (every-set P n es new every.1 is)
    where
      go : (b : Bool) → is_at (nat_cmp n) e.0 ≡ b → Every P (set_value (is_at (nat_cmp n)) es new)
          → Every P (cond b ((e.0, new) ∷ es) (e ∷ set_value (is_at (nat_cmp n)) es new))
      go true same later = (subst (λ key. P (key, new)) (sym (key_is n e.0 same)) is, every.1)
      go false differs later = (every.0, later)

  pub every-at : (P : ℕ × X → Type 0) (n : ℕ) (es : Entries X) (v : X) → Every P es → at n es ≡ Some v → P (n, v)
  every-at P n [] v every there = absurd (cc there)
  every-at P n (e ∷ es) v every there = go (is_at (nat_cmp n) e.0) refl there (every-at P n es v every.1)
    where
      go : (b : Bool) → is_at (nat_cmp n) e.0 ≡ b → cond b (Some e.1) (at n es) ≡ Some v → (at n es ≡ Some v → P (n, v)) → P (n, v)
      go true is there later =
          let found : e.1 ≡ v = cc there in
          subst (λ value. P (n, value)) found (subst (λ key. P (key, e.1)) (key_is n e.0 is) every.0)
      go false is there later = later there

  pub every-filter : (P : ℕ × X → Type 0) (p : ℕ × X → Bool) (es : Entries X) → Every P es → Every P (filter p es)
  every-filter P p [] every = tt
  every-filter P p (e ∷ es) every = go (p e) (every-filter P p es every.1)
    where
      go : (b : Bool) → Every P (filter p es) → Every P (cond b (e ∷ filter p es) (filter p es))
      go true later = (every.0, later)
      go false later = later
