-- The queue of a pool stands in the order of the jobs' numbers.
use Rattle.std.proofs.Common.{◌≡◌, ◌<◌, ◌==◌, ℕ, zero, suc, Bool, true, false, cond, List, [], ◌∷◌, ◌++◌, if◌then◌else◌, refl, sym, subst, arith}
use Rattle.std.specs.BTreeMap.{insert_entry, is_at}
use Rattle.std.specs.Bool.{⊤}
use Rattle.std.specs.Map.{remove_entry}
use Rattle.std.specs.Ordering.{nat_cmp}
use Rattle.laws_pools.proofs.Counts.{Counted, queued_posted, under_next}
use Rattle.laws_pools.proofs.Moves.{Move, begins, cancels, ends, gets, posts, quiet, suspends}
use Rattle.laws_pools.proofs.Views.{numbered}
use Rattle.laws_pools.specs.PoolHappenings.{PoolHappening}
use Rattle.laws_sends.proofs.Totals.{total, total-append}
use Rattle.laws_sends.proofs.Weights.{one_other, one_same}
use Rattle.laws_shared.proofs.Deciding.{differs, same}
use Rattle.tt_pools.specs.Jobs.{JobTable, without}

module _ {X : Type 0} where
  abbrev pub Rising : List (ℕ × X) → Type 0
  Rising [] = ⊤
  Rising (e ∷ es) = ((k : ℕ) → 0 < total (numbered k) es → e.0 < k) × Rising es

  pub rising_last : (es : List (ℕ × X)) (k : ℕ) (v : X) → ((n : ℕ) → 0 < total (numbered n) es → n < k) → Rising es → Rising (es ++ (k, v) ∷ [])
  rising_last [] k v under rising = (λ n there. let no : ⊥ = omega (arith, there) in absurd no, tt)
  rising_last (e ∷ es) k v under rising = (λ n there. go n (k == n) refl there, rising_last es k v (λ n there. under n (omega (arith, there))) rising.1)
    where
      itself : 0 < total (numbered e.0) (e ∷ es)
      itself = omega (arith, one_same e.0 e.0 refl)

      go : (n : ℕ) (b : Bool) → (k == n) ≡ b → 0 < total (numbered n) (es ++ (k, v) ∷ []) → e.0 < n
      go n true is there = omega (arith, same k n is, under e.0 itself)
      go n false is there =
          rising.0 n (omega (arith, there, total-append (numbered n) es ((k, v) ∷ []), one_other k n (differs k n is)))

  fewer : (k n : ℕ) (es : List (ℕ × X)) → 0 < total (numbered k) (remove_entry (is_at (nat_cmp n)) es) → 0 < total (numbered k) es
  fewer k n [] there = there
  fewer k n (e ∷ es) there = go (is_at (nat_cmp n) e.0) there (fewer k n es)
    where
      go : (b : Bool) → 0 < total (numbered k) (cond b es (e ∷ remove_entry (is_at (nat_cmp n)) es))
          → (0 < total (numbered k) (remove_entry (is_at (nat_cmp n)) es) → 0 < total (numbered k) es)
          → 0 < total (numbered k) (e ∷ es)
      go true there later = omega (arith, there)
      go false there later = at (numbered k e) refl
        where
          at : (m : ℕ) → numbered k e ≡ m → 0 < total (numbered k) (e ∷ es)
          at zero none = omega (arith, later (omega (arith, there, none)))
          at (suc m) some = omega (arith, some)

  pub rising_without : (n : ℕ) (es : List (ℕ × X)) → Rising es → Rising (remove_entry (is_at (nat_cmp n)) es)
  rising_without n [] rising = tt
  rising_without n (e ∷ es) rising = go (is_at (nat_cmp n) e.0) (rising_without n es rising.1)
    where
      go : (b : Bool) → Rising (remove_entry (is_at (nat_cmp n)) es) → Rising (cond b es (e ∷ remove_entry (is_at (nat_cmp n)) es))
      go true later = rising.1
      go false later = (λ k there. rising.0 k (fewer k n es there), later)

pub rising_on : (hs : List PoolHappening) (on now : Bool) (old new : JobTable) (happened : List PoolHappening) → Move on old now new happened → Counted hs old
    → Rising old.queued → Rising new.queued
rising_on hs on _ old _ _ quiet counted rising = rising
rising_on hs on _ old _ _ (posts script from detached) counted rising =
    subst Rising (sym (queued_posted hs old script detached counted)) (rising_last old.queued old.next _ (under_next hs old counted) rising)
rising_on hs on _ old _ _ (cancels n job there own) counted rising = rising_without n old.queued rising
rising_on hs on _ old _ _ (begins n t job later is goes_on) counted rising = (subst Rising is rising).1
rising_on hs on _ old _ _ (ends t begun outcome one there end) counted rising = go begun.detached
  where
    go : (b : Bool) → Rising (if b then record old { begun = without old.begun t }
        else record old { begun = without old.begun t; done = insert_entry nat_cmp old.done begun.job outcome }).queued
    go true = rising
    go false = rising
rising_on hs on _ old _ _ (gets n t outcome there) counted rising = rising
rising_on hs on _ old _ _ (suspends now) counted rising = rising
