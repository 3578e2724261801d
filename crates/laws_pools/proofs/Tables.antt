-- What is found under a number, in a table in the order of the numbers, after it was changed.
use Rattle.std.proofs.Common.{◌≡◌, ◌≢◌, ◌∙◌, ◌+◌, ◌<◌, ◌≤◌, ◌==◌, ℕ, Bool, true, false, cond, [], ◌∷◌, Option, Some, None, refl, ap, sym, arith}
use Rattle.std.proofs.lemmas.Cmp.{nat_cmp_total, tied_itself}
use Rattle.std.specs.BTreeMap.{insert_entry, is_at}
use Rattle.std.specs.Map.{remove_entry, set_value}
use Rattle.std.specs.Ordering.{is_eq, match_ordering, nat_cmp}
use Rattle.std.specs.declared.cmp.Ordering.{Ordering}
use Rattle.std.specs.declared.cmp.Ordering.TheVariants.{Less, Equal, Greater}
use Rattle.laws_pools.proofs.Moves.{Single}
use Rattle.laws_pools.proofs.Views.{numbered}
use Rattle.laws_sends.proofs.Entries.{Entries, at, key_is, total-at, total-insert, total-remove, total-set}
use Rattle.laws_sends.proofs.Totals.{total}
use Rattle.laws_sends.proofs.Weights.{one_other, one_same}
use Rattle.laws_shared.proofs.Deciding.{differs, same}
use Rattle.tt_pools.specs.Pools.{PoolTable, at_number, with_new}
use Rattle.tt_pools.specs.declared.pool.Pool.{Pool}

own_key : (n : ℕ) → is_at (nat_cmp n) n ≡ true
own_key n = ap is_eq (tied_itself nat_cmp_total n)

no_key : (m n : ℕ) → m ≢ n → is_at (nat_cmp m) n ≡ false
no_key m n other = go (is_at (nat_cmp m) n) refl
  where
    go : (b : Bool) → is_at (nat_cmp m) n ≡ b → b ≡ false
    go true is = absurd (other (sym (key_is m n is)))
    go false is = refl

module _ {X : Type 0} where
  pub set_here : (n : ℕ) (es : Entries X) (old new : X) → at n es ≡ Some old → at n (set_value (is_at (nat_cmp n)) es new) ≡ Some new
  set_here n [] old new is = absurd (cc is)
  set_here n (e ∷ es) old new is = go (is_at (nat_cmp n) e.0) refl is (set_here n es old new)
    where
      go : (b : Bool) → is_at (nat_cmp n) e.0 ≡ b → cond b (Some e.1) (at n es) ≡ Some old
          → (at n es ≡ Some old → at n (set_value (is_at (nat_cmp n)) es new) ≡ Some new)
          → at n (cond b ((e.0, new) ∷ es) (e ∷ set_value (is_at (nat_cmp n)) es new)) ≡ Some new
      go true here is later = rw here refl
      go false here is later = rw here (later is)

  pub set_other : (m n : ℕ) (es : Entries X) (new : X) → m ≢ n → at m (set_value (is_at (nat_cmp n)) es new) ≡ at m es
  set_other m n [] new other = refl
  set_other m n (e ∷ es) new other = go (is_at (nat_cmp n) e.0) (is_at (nat_cmp m) e.0) refl refl (set_other m n es new other)
    where
      go : (b c : Bool) → is_at (nat_cmp n) e.0 ≡ b → is_at (nat_cmp m) e.0 ≡ c
          → at m (set_value (is_at (nat_cmp n)) es new) ≡ at m es
          → at m (cond b ((e.0, new) ∷ es) (e ∷ set_value (is_at (nat_cmp n)) es new)) ≡ cond c (Some e.1) (at m es)
      go true true here there later = absurd (other (sym (key_is m e.0 there) ∙ key_is n e.0 here))
      go true false here there later = rw there refl
      go false true here there later = rw there refl
      go false false here there later = rw there later

  pub insert_here : (n : ℕ) (es : Entries X) (new : X) → at n (insert_entry nat_cmp es n new) ≡ Some new
  insert_here n [] new = rw (own_key n) refl
  insert_here n (e ∷ es) new = go (nat_cmp n e.0) refl (insert_here n es new)
    where
      go : (order : Ordering) → nat_cmp n e.0 ≡ order → at n (insert_entry nat_cmp es n new) ≡ Some new
          → at n (match_ordering order ((n, new) ∷ e ∷ es) ((e.0, new) ∷ es) (e ∷ insert_entry nat_cmp es n new)) ≡ Some new
      go Less is later = rw (own_key n) refl
      go Equal is later = let here : is_at (nat_cmp n) e.0 ≡ true = ap is_eq is in rw here refl
      go Greater is later = let here : is_at (nat_cmp n) e.0 ≡ false = ap is_eq is in rw here later

  pub insert_other : (m n : ℕ) (es : Entries X) (new : X) → m ≢ n → at m (insert_entry nat_cmp es n new) ≡ at m es
  insert_other m n [] new other = rw (no_key m n other) refl
  insert_other m n (e ∷ es) new other = go (nat_cmp n e.0) refl (insert_other m n es new other)
    where
      go : (order : Ordering) → nat_cmp n e.0 ≡ order → at m (insert_entry nat_cmp es n new) ≡ at m es
          → at m (match_ordering order ((n, new) ∷ e ∷ es) ((e.0, new) ∷ es) (e ∷ insert_entry nat_cmp es n new)) ≡ at m (e ∷ es)
      go Less is later = rw (no_key m n other) refl
      go Equal is later =
          let here : is_at (nat_cmp m) e.0 ≡ false = ap (is_at (nat_cmp m)) (key_is n e.0 (ap is_eq is)) ∙ no_key m n other in
          rw here refl
      go Greater is later = ap (cond (is_at (nat_cmp m) e.0) (Some e.1)) later

  pub remove_other : (m n : ℕ) (es : Entries X) → m ≢ n → at m (remove_entry (is_at (nat_cmp n)) es) ≡ at m es
  remove_other m n [] other = refl
  remove_other m n (e ∷ es) other = go (is_at (nat_cmp n) e.0) refl (remove_other m n es other)
    where
      go : (b : Bool) → is_at (nat_cmp n) e.0 ≡ b → at m (remove_entry (is_at (nat_cmp n)) es) ≡ at m es
          → at m (cond b es (e ∷ remove_entry (is_at (nat_cmp n)) es)) ≡ at m (e ∷ es)
      go true is later =
          let there : is_at (nat_cmp m) e.0 ≡ false = ap (is_at (nat_cmp m)) (key_is n e.0 is) ∙ no_key m n other in
          rw there refl
      go false is later = ap (cond (is_at (nat_cmp m) e.0) (Some e.1)) later

  pub none_there : (n : ℕ) (es : Entries X) → total (numbered n) es ≡ 0 → at n es ≡ None
  none_there n es none = go (at n es) refl
    where
      go : (found : Option X) → at n es ≡ found → found ≡ None
      go None is = refl
      go (Some x) is = let no : ⊥ = omega (arith, none, total-at (numbered n) n es x is, one_same n n refl) in absurd no

  pub none_counts : (n : ℕ) (es : Entries X) → at n es ≡ None → total (numbered n) es ≡ 0
  none_counts n [] is = refl
  none_counts n (e ∷ es) is = go (is_at (nat_cmp n) e.0) refl is (none_counts n es)
    where
      go : (b : Bool) → is_at (nat_cmp n) e.0 ≡ b → cond b (Some e.1) (at n es) ≡ None → (at n es ≡ None → total (numbered n) es ≡ 0)
          → total (numbered n) (e ∷ es) ≡ 0
      go true here is later = absurd (cc is)
      go false here is later =
          omega (arith, later is, one_other e.0 n (λ alike. let no : true ≡ false = sym (own_key n) ∙ ap (is_at (nat_cmp n)) (sym alike) ∙ here in cc no))

  -- an entry that counts is found
  pub there_is : (n : ℕ) (es : Entries X) → 0 < total (numbered n) es → (x : X) × (at n es ≡ Some x)
  there_is n es some = go (at n es) refl
    where
      go : (found : Option X) → at n es ≡ found → (x : X) × (at n es ≡ Some x)
      go None is = let no : ⊥ = omega (arith, some, none_counts n es is) in absurd no
      go (Some x) is = (x, is)

  -- a new entry counts
  pub insert_new : (n k : ℕ) (es : Entries X) (x : X) → total (numbered k) es ≡ 0
      → total (numbered n) (insert_entry nat_cmp es k x) ≡ numbered n (k, x) + total (numbered n) es
  insert_new n k [] x none = omega arith
  insert_new n k (e ∷ es) x none = go (nat_cmp k e.0) refl (insert_new n k es x (omega (arith, none)))
    where
      go : (order : Ordering) → nat_cmp k e.0 ≡ order
          → total (numbered n) (insert_entry nat_cmp es k x) ≡ numbered n (k, x) + total (numbered n) es
          → total (numbered n) (match_ordering order ((k, x) ∷ e ∷ es) ((e.0, x) ∷ es) (e ∷ insert_entry nat_cmp es k x))
          ≡ numbered n (k, x) + total (numbered n) (e ∷ es)
      go Less is later = omega arith
      go Equal is later = let no : ⊥ = omega (arith, none, one_same e.0 k (key_is k e.0 (ap is_eq is))) in absurd no
      go Greater is later = omega (arith, later)

-- ---- the table of pools ----

abbrev pub placed : PoolTable → ℕ → Pool → PoolTable
placed table n pool = record table { pools = set_value (is_at (nat_cmp n)) table.pools pool }

abbrev pub dropped : PoolTable → ℕ → PoolTable
dropped table n = record table { pools = remove_entry (is_at (nat_cmp n)) table.pools }

pub single_placed : (p n : ℕ) (table : PoolTable) (old new : Pool) → at_number table n ≡ Some old → Single p table → Single p (placed table n new)
single_placed p n table old new there single = record {
  one = omega (arith, total-set (numbered p) n table.pools old new there, single.one);
  later = λ past. omega (arith, total-set (numbered p) n table.pools old new there, single.later past);
}

pub single_dropped : (p n : ℕ) (table : PoolTable) (old : Pool) → at_number table n ≡ Some old → Single p table → Single p (dropped table n)
single_dropped p n table old there single = record {
  one = omega (arith, total-remove (numbered p) n table.pools old there, single.one);
  later = λ past. omega (arith, total-remove (numbered p) n table.pools old there, single.later past);
}

pub none_dropped : (p : ℕ) (table : PoolTable) (old : Pool) → at_number table p ≡ Some old → Single p table → at_number (dropped table p) p ≡ None
none_dropped p table old there single =
    none_there p (remove_entry (is_at (nat_cmp p)) table.pools)
    (omega (arith, total-remove (numbered p) p table.pools old there, single.one, one_same p p refl))

pub single_new : (p : ℕ) (table : PoolTable) (pool : Pool) → Single p table → Single p (with_new table pool)
single_new p table pool single = record { one = go (table.next == p) refl; later = past }
  where
    more : total (numbered p) (insert_entry nat_cmp table.pools table.next pool) ≤ numbered p (table.next, pool) + total (numbered p) table.pools
    more = total-insert (numbered p) table.pools table.next pool

    past : table.next + 1 ≤ p → total (numbered p) (insert_entry nat_cmp table.pools table.next pool) ≡ 0
    past above =
        omega (arith, more, one_other table.next p (λ is. omega (arith, is, above)), single.later (omega (arith, above)))

    go : (b : Bool) → (table.next == p) ≡ b → total (numbered p) (insert_entry nat_cmp table.pools table.next pool) ≤ 1
    go true is = omega (arith, more, one_same table.next p (same table.next p is), single.later (omega (arith, same table.next p is)))
    go false is = omega (arith, more, one_other table.next p (differs table.next p is), single.one)
