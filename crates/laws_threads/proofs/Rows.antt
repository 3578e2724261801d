-- What requests on the table of threads leave: as many threads, and as many of them live. The end of a thread.
use Rattle.std.proofs.Common.{◌≡◌, ◌-◌, ◌+◌, ◌==◌, arith, cond, not, ℕ, zero, suc, Bool, true, false, nat_lt, List, length, slice_get, get_or}
use Rattle.std.proofs.Common.{Option, Some, None, if◌then◌else◌, ap, refl, sym, ℤ, pos, negsuc, ◌<◌}
use Rattle.std.proofs.lemmas.List.Sums.{sum_by-set}
use Rattle.std.proofs.lemmas.Option.{get_or_from_slice_get, slice_get_within}
use Rattle.laws_shared.proofs.Numbered.{length-put}
use Rattle.laws_threads.proofs.Numbers.{Bounded, Same, by_one_less, by_same, same}
use Rattle.tt_calls.specs.declared.request.Request.{Request}
use Rattle.tt_calls.specs.declared.request.Request.TheVariants as ask
use Rattle.tt_threads.specs.Requests as threads
use Rattle.tt_threads.specs.Rows.{ended_row, linked_thread, lives, row_of, thread_of_id, living, with_end, with_end_at, with_row}
use Rattle.tt_threads.specs.declared.row.Life.{Life}
use Rattle.tt_threads.specs.declared.row.Life.TheVariants.{Live, Marked, Ended}
use Rattle.tt_threads.specs.declared.row.Row.{Row}

-- the row of a thread stands in a place
record IsPlace (rows : List Row) (n : ℕ) (row : Row) : Type 0 where
  within : n - 1 < length rows
  there : get_or rows (n - 1) row ≡ row

place : (rows : List Row) (n : ℕ) (row : Row) → row_of rows n ≡ Some row → IsPlace rows n row
place rows n row there = go (n == 0) there
  where
    go : (b : Bool) → (if b then None else slice_get rows (n - 1)) ≡ Some row → IsPlace rows n row
    go true there = absurd (cc there)
    go false there = record {
      within = slice_get_within rows (n - 1) row there;
      there = get_or_from_slice_get rows (n - 1) row row there;
    }

-- how many live with another row in its place
swapped : (rows : List Row) (n : ℕ) (old new : Row) → row_of rows n ≡ Some old
    → living (with_row rows n new) + cond (lives old.life) 1 0 ≡ living rows + cond (lives new.life) 1 0
swapped rows n old new there =
    let at = place rows n old there in
    let moved = sum_by-set (λ row. cond (lives row.life) 1 0) rows (n - 1) new old at.within in
    let same : ◌≡◌ {A = ℕ} (cond (lives (get_or rows (n - 1) old).life) 1 0) (cond (lives old.life) 1 0) =
    ap (λ (row : Row). cond (lives row.life) 1 0) at.there in
    omega (arith, moved, same)

on_row : (rows : List Row) (n : ℕ) (old new : Row) → row_of rows n ≡ Some old → lives new.life ≡ lives old.life → Same rows (with_row rows n new)
on_row rows n old new there alike =
    let same : ◌≡◌ {A = ℕ} (cond (lives new.life) 1 0) (cond (lives old.life) 1 0) = ap (λ b. cond b 1 0) alike in
    record { many = length-put rows (n - 1) new; live = omega (arith, swapped rows n old new there, same) }

-- ---- requests ----

lives_at : (count : ℤ) (life : Life) → lives (threads.life_at count life) ≡ lives life
lives_at (pos (suc n)) was = refl
lives_at (pos zero) Live = refl
lives_at (pos zero) Marked = refl
lives_at (pos zero) (Ended code) = refl
lives_at (negsuc n) Live = refl
lives_at (negsuc n) Marked = refl
lives_at (negsuc n) (Ended code) = refl

module _ (rows : List Row) where
  by_if : (b : Bool) (one other : threads.Answered) → Same rows one.rows → Same rows other.rows → Same rows (if b then one else other).rows
  by_if true one other first second = first
  by_if false one other first second = second

  by_count : (change : Row → Row) → ((row : Row) → lives (change row).life ≡ lives row.life) → (n : ℕ) (found : Option Row) → row_of rows n ≡ found →
      Same rows (threads.counts_at change rows n found).rows
  by_count change alike n None is = same rows
  by_count change alike n (Some row) is = on_row rows n row (change row) is (alike row)

  by_counts : (change : Row → Row) → ((row : Row) → lives (change row).life ≡ lives row.life) → (text : List ℕ) (target : Option ℕ) →
      Same rows (threads.counts change rows text target).rows
  by_counts change alike text None = same rows
  by_counts change alike text (Some n) = by_count change alike n (row_of rows n) refl

  by_join : (text : List ℕ) (n : ℕ) (found : Option Row) → row_of rows n ≡ found → Same rows (threads.joins_at rows text n found).rows
  by_join text n None is = same rows
  by_join text n (Some row) is =
      by_if (not row.joinable) _ _ (same rows)
      (by_if row.joined _ _ (same rows) (on_row rows n row (record row { joined = true }) is refl))

  by_joins : (t : ℕ) (text : List ℕ) (target : Option ℕ) → Same rows (threads.joins rows t text target).rows
  by_joins t text None = same rows
  by_joins t text (Some n) = by_if (n == t) _ _ (same rows) (by_join text n (row_of rows n) refl)

  by_exit : (found : Option Row) → Same rows (threads.exits rows found).rows
  by_exit None = same rows
  by_exit (Some row) = go row.life refl
    where
      go : (life : Life) → row.life ≡ life → Same rows (threads.exits rows (Some row)).rows
      go Live is = rw (is, threads.exits) (same rows)
      go Marked is = rw (is, threads.exits) (same rows)
      go (Ended code) is = rw (is, threads.exits) (same rows)

  by_sets : (n : ℕ) (row : Row) (now : _) → row_of rows n ≡ Some row → Same rows (threads.sets rows n row now).rows
  by_sets n row None is = same rows
  by_sets n row (Some now) is = on_row rows n row (threads.put_settings row now) is refl

  by_configure : (n : ℕ) (words : List (List ℕ)) (found : Option Row) → row_of rows n ≡ found → Same rows (threads.configures_at rows n words found).rows
  by_configure n words None is = same rows
  by_configure n words (Some row) is =
      by_if (nat_lt (length words) 2) _ _ (same rows) (by_sets n row (threads.with_settings words (threads.settings_of row)) is)

  by_configures : (text : List ℕ) (words : List (List ℕ)) (target : Option ℕ) → Same rows (threads.configures rows text words target).rows
  by_configures text words None = same rows
  by_configures text words (Some n) = by_configure n words (row_of rows n) refl

  pub by_threads : (t : ℕ) (request : Request) → Same rows (threads.act rows t request).rows
  by_threads t (ask.Preserve text) = by_counts threads.with_reference (λ row. refl) text (threads.thread_named rows t text)
  by_threads t (ask.Release text) = by_counts threads.without_reference (λ row. lives_at _ row.life) text (threads.thread_named rows t text)
  by_threads t (ask.Join text) = by_joins t text (thread_of_id rows text)
  by_threads t (ask.AwaitEnd n) = by_exit (row_of rows n)
  by_threads t (ask.Configure text words) = by_configures text words (linked_thread rows text)
  by_threads t request = same rows

-- ---- the end of a thread ----

-- one less lives, if it lived
pub by_end : (rows : List Row) (t : ℕ) (code : ℤ) → Bounded rows (with_end rows t code)
by_end rows t code = go (row_of rows t) refl
  where
    on_life : (row : Row) (b : Bool) → lives row.life ≡ b → row_of rows t ≡ Some row → Bounded rows (with_row rows t (ended_row row code))
    on_life row true is there =
        let lived : ◌≡◌ {A = ℕ} (cond (lives row.life) 1 0) 1 = ap (λ b. cond b 1 0) is in
        by_one_less rows _ (length-put rows (t - 1) (ended_row row code)) (omega (arith, swapped rows t row (ended_row row code) there, lived))
    on_life row false is there = by_same rows _ (on_row rows t row (ended_row row code) there (sym is))

    go : (found : Option Row) → row_of rows t ≡ found → Bounded rows (with_end_at rows t code found)
    go None there = by_same rows rows (same rows)
    go (Some row) there = on_life row (lives row.life) refl there
