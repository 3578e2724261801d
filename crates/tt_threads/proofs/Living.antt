-- A thread that lives has a row, and one that ends is one less that lives.
use Rattle.std.proofs.Common.{◌≡◌, ◌<◌, ◌≤◌, ◌+◌, ◌-◌, ◌==◌, ◌⊎◌, inl, inr, ℕ, Bool, true, false, List, length, Some}
use Rattle.std.proofs.Common.{None, slice_get, slice_set, get_or, if◌then◌else◌, cond, IsTrue, refl, subst, rules}
use Rattle.std.proofs.Common.{arith}
use Rattle.std.proofs.lemmas.List.Sums.{sum_by-set}
use Rattle.std.proofs.lemmas.Option.{get_or_from_slice_get, slice_get_cases}
use Rattle.tt_threads.specs.Rows.{is_living, is_living_at, lives, living, row_of}
use Rattle.tt_threads.specs.declared.row.Row.{Row}

pub record Living (rows : List Row) (n : ℕ) (d : Row) : Type 0 where
  pub made : 1 ≤ n
  pub within : n - 1 < length rows
  pub alive : lives (get_or rows (n - 1) d).life ≡ true
  pub there : row_of rows n ≡ Some (get_or rows (n - 1) d)

pub living_row : (rows : List Row) (n : ℕ) (d : Row) → IsTrue (is_living rows n) → Living rows n d
living_row rows n d alive = go (n == 0) refl (slice_get_cases rows (n - 1)).1 alive
  where
    go : (none : Bool) → (n == 0) ≡ none →
        ((row : Row) × (n - 1 < length rows) × (slice_get rows (n - 1) ≡ Some row) × (get_or rows (n - 1) row ≡ row)) ⊎
        ((length rows ≤ n - 1) × (slice_get rows (n - 1) ≡ None)) → IsTrue (is_living_at (if none then None else slice_get rows (n - 1))) → Living rows n d
    go true is cases alive = absurd (search rules)
    go false is (inl found) alive =
        let same : get_or rows (n - 1) d ≡ found.0 = get_or_from_slice_get rows (n - 1) found.0 d found.2 in
        let alive' : IsTrue (is_living_at (Some found.0)) = subst (λ row. IsTrue (is_living_at row)) found.2 alive in
        record {
          made = search (rules, is);
          within = found.1;
          alive = rw same (search (rules, alive'));
          there = rw (same, is) found.2;
        }
    go false is (inr past) alive =
        let alive' : IsTrue (is_living_at None) = subst (λ row. IsTrue (is_living_at row)) past.1 alive in
        absurd (search rules)

pub living_less : (rows : List Row) (i : ℕ) (new d : Row) → i < length rows → lives (get_or rows i d).life ≡ true → lives new.life ≡ false →
    living (slice_set rows i new) + 1 ≡ living rows
living_less rows i new d within alive ended =
    let moved = sum_by-set (λ row. cond (lives row.life) 1 0) rows i new d within in
    let before : ◌≡◌ {A = ℕ} (cond (lives (get_or rows i d).life) 1 0) 1 = rw alive refl in
    let after : ◌≡◌ {A = ℕ} (cond (lives new.life) 1 0) 0 = rw ended refl in
    omega (arith, moved, before, after)

pub living_same : (rows : List Row) (i : ℕ) (new d : Row) → i < length rows → lives new.life ≡ lives (get_or rows i d).life →
    living (slice_set rows i new) ≡ living rows
living_same rows i new d within same =
    let moved = sum_by-set (λ row. cond (lives row.life) 1 0) rows i new d within in
    let alike : ◌≡◌ {A = ℕ} (cond (lives new.life) 1 0) (cond (lives (get_or rows i d).life) 1 0) = rw same refl in
    omega (arith, moved, alike)
