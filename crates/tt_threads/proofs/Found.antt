-- The thread that an id names: no other thread has it.
use Rattle.std.proofs.Common.{◌≡◌, ◌≢◌, ◌<◌, ◌≤◌, ◌+◌, ◌^◌, ℕ, zero, suc, Bool, true, false, ◌&&◌, List, [], ◌∷◌}
use Rattle.std.proofs.Common.{length, Option, Some, None, slice_get, get_or, ◌-◌, if◌then◌else◌, IfSome, IfNone, ◌⊎◌}
use Rattle.std.proofs.Common.{inl, inr, refl, sym, rules, arith}
use Rattle.std.proofs.lemmas.Option.{slice_get_cases, slice_get_read, slice_get_within}
use Rattle.std.proofs.lemmas.Slice.Eq.{bytes_eq-Decides}
use Rattle.std.specs.Bool.{Decides}
use Rattle.std.specs.Str.{bytes_eq}
use Rattle.tt_ids.proofs.CallerLemmas.{ids_differ}
use Rattle.tt_ids.specs.Ids.{id}
use Rattle.tt_ids.specs.declared.id.IdKind.TheVariants.{Thread}
use Rattle.tt_threads.specs.Rows.{found_from, thread_of_id}
use Rattle.tt_threads.specs.declared.row.Life.{Life}
use Rattle.tt_threads.specs.declared.row.Row.{Row}

differs : (answer : Bool) (P : Type 0) → Decides answer P → (P → ⊥) → answer ≡ false
differs true P decides fails = absurd (fails (decides.0 refl))
differs false P decides fails = refl

bytes_differ : (one two : List ℕ) → one ≢ two → bytes_eq one two ≡ false
bytes_differ one two apart = differs (bytes_eq one two) (one ≡ two) (bytes_eq-Decides one two) apart

pub none_found : (p : Life → Bool) (k : ℕ) (rows : List Row) (text : List ℕ) → ((n : ℕ) → k ≤ n → n < k + length rows → text ≢ id Thread n) →
    found_from p k rows text ≡ None
none_found p k [] text h = refl
none_found p k (row ∷ rows) text h =
    let other : bytes_eq text (id Thread k) ≡ false = bytes_differ text (id Thread k) (h k (omega arith) (omega arith)) in
    let later = none_found p (suc k) rows text (λ n low high. h n (omega (arith, low)) (omega (arith, high))) in
    rw other (go (p row.life) later)
  where
    go : (counts : Bool) → found_from p (suc k) rows text ≡ None → (if counts && false then Some k else found_from p (suc k) rows text) ≡ None
    go true later = later
    go false later = later

pub found_at : (p : Life → Bool) (k i n : ℕ) (rows : List Row) (row : Row) → k + length rows < 2 ^ 64 → n ≡ k + i → slice_get rows i ≡ Some row →
    found_from p k rows (id Thread n) ≡ (if p row.life then Some n else None)
found_at p k i n [] row small is there = absurd (search rules)
found_at p k zero n (first ∷ rows) row small is there =
    let here : n ≡ k = omega (arith, is) in
    let same : row ≡ first = cc there in
    let none = none_found p (suc k) rows (id Thread k)
    (λ m low high e. absurd (omega (arith, low, ids_differ Thread k m (omega (arith, small)) (omega (arith, high, small)) e))) in
    rw (same, here, (bytes_eq-Decides (id Thread k) (id Thread k)).1 refl) (go (p first.life) none)
  where
    go : (counts : Bool) → found_from p (suc k) rows (id Thread k) ≡ None →
        (if counts && true then Some k else found_from p (suc k) rows (id Thread k)) ≡ (if counts then Some k else None)
    go true none = refl
    go false none = none
found_at p k (suc i) n (first ∷ rows) row small is there =
    let within = slice_get_within rows i row there in
    let short : n < 2 ^ 64 = omega (arith, small, within, is) in
    let apart : n ≢ k = λ e. omega (arith, is, e) in
    let other : bytes_eq (id Thread n) (id Thread k) ≡ false = bytes_differ _ _ (λ e. apart (ids_differ Thread n k short (omega (arith, small)) e)) in
    rw other (go (p first.life) (found_at p (suc k) i n rows row (omega (arith, small)) (omega (arith, is)) there))
  where
    go : (counts : Bool) → found_from p (suc k) rows (id Thread n) ≡ (if p row.life then Some n else None) →
        (if counts && false then Some k else found_from p (suc k) rows (id Thread n)) ≡ (if p row.life then Some n else None)
    go true later = later
    go false later = later

pub numbered : (p : Life → Bool) (n : ℕ) (rows : List Row) (row : Row) (text : List ℕ) → length rows < 2 ^ 32 → (1 ≤ n) × (n ≤ length rows)
    × (text ≡ id Thread n) → row ≡ get_or rows (n - 1) row → found_from p 1 rows text ≡ (if p row.life then Some n else None)
numbered p n rows row text few found at =
    let low = found.0 in
    let high = found.1 in
    let there = slice_get_read rows (length rows) (n - 1) row refl (omega (arith, low, high)) at in
    rw (found.2) (found_at p 1 (n - 1) n rows row (omega (arith, few)) (omega (arith, low)) there)

pub not_numbered : (p : Life → Bool) (rows : List Row) (text : List ℕ) → ((n : ℕ) → 1 ≤ n → n ≤ length rows → text ≢ id Thread n) →
    found_from p 1 rows text ≡ None
not_numbered p rows text none = none_found p 1 rows text (λ n low high. none n low (omega (arith, high)))

-- the numbers that were made are those of rows
pub made_is : (rows : List Row) (text : List ℕ) (found : Option ℕ) → length rows < 2 ^ 32 →
    IfSome found (λ n. (1 ≤ n) × (n ≤ length rows) × (text ≡ id Thread n)) → IfNone found ((n : ℕ) → 1 ≤ n → n ≤ length rows → text ≢ id Thread n) →
    found ≡ thread_of_id rows text
made_is rows text None few some none = sym (not_numbered (λ life. true) rows text none)
made_is rows text (Some n) few some none = go (slice_get_cases rows (n - 1)).1
  where
    go : ((row : Row) × (n - 1 < length rows) × (slice_get rows (n - 1) ≡ Some row) × (get_or rows (n - 1) row ≡ row)) ⊎
        ((length rows ≤ n - 1) × (slice_get rows (n - 1) ≡ None)) → Some n ≡ thread_of_id rows text
    go (inl there) = sym (numbered (λ life. true) n rows there.0 text few some (sym there.3))
    go (inr past) = absurd (omega (arith, past.0, some.0, some.1))
