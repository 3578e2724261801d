-- Who was made as a worker of a pool stays one, whatever is asked.
use Rattle.std.proofs.Common.{◌≡◌, ◌==◌, ℕ, Bool, true, false, not, nat_lt, List, [], ◌∷◌, ◌++◌, length}
use Rattle.std.proofs.Common.{Option, Some, None, if◌then◌else◌, refl, sym, subst, ℤ}
use Rattle.laws_shared.proofs.Numbered.{by_more, by_number}
use Rattle.tt_calls.specs.declared.request.Request.{Request}
use Rattle.tt_calls.specs.declared.request.Request.TheVariants as ask
use Rattle.tt_shared.specs.Ends.{pool_of_row, pool_of_start}
use Rattle.tt_threads.specs.Requests as threads
use Rattle.tt_threads.specs.Rows.{linked_thread, row_of, thread_of_id, with_end, with_end_at, with_row}
use Rattle.tt_threads.specs.declared.row.Life.{Life}
use Rattle.tt_threads.specs.declared.row.Life.TheVariants.{Live, Marked, Ended}
use Rattle.tt_threads.specs.declared.row.Row.{Row}

abbrev pub StayWorkers : (old new : List Row) → Type 0
StayWorkers old new = (u : ℕ) (text : List ℕ) → pool_of_row (row_of old u) ≡ Some text → pool_of_row (row_of new u) ≡ Some text

pub stay_same : (rows : List Row) → StayWorkers rows rows
stay_same rows u text is = is

pub on_row : (rows : List Row) (n : ℕ) (old new : Row) → row_of rows n ≡ Some old → new.start ≡ old.start → StayWorkers rows (with_row rows n new)
on_row rows n old new there keeps u text is =
    by_number (λ found. pool_of_row found ≡ Some text) rows n u new old there
    (λ same.
    subst (λ start. pool_of_start start ≡ Some text) (sym keeps)
    (subst (λ found. pool_of_row found ≡ Some text) there (subst (λ one. pool_of_row (row_of rows one) ≡ Some text) same is))) is

pub by_new : (rows : List Row) (row : Row) → StayWorkers rows (rows ++ row ∷ [])
by_new rows row u text is = by_more (λ found. pool_of_row found ≡ Some text) rows u row (λ none last. absurd (cc none)) is

-- ---- requests on threads ----

module _ (rows : List Row) where
  by_if : (b : Bool) (one other : threads.Answered) → StayWorkers rows one.rows → StayWorkers rows other.rows → StayWorkers rows (if b then one else other).rows
  by_if true one other first second = first
  by_if false one other first second = second

  by_count : (change : Row → Row) → ((row : Row) → (change row).start ≡ row.start) → (n : ℕ) (found : Option Row) → row_of rows n ≡ found →
      StayWorkers rows (threads.counts_at change rows n found).rows
  by_count change keeps n None is = stay_same rows
  by_count change keeps n (Some row) is = on_row rows n row (change row) is (keeps row)

  by_counts : (change : Row → Row) → ((row : Row) → (change row).start ≡ row.start) → (text : List ℕ) (target : Option ℕ) →
      StayWorkers rows (threads.counts change rows text target).rows
  by_counts change keeps text None = stay_same rows
  by_counts change keeps text (Some n) = by_count change keeps n (row_of rows n) refl

  by_join : (text : List ℕ) (n : ℕ) (found : Option Row) → row_of rows n ≡ found → StayWorkers rows (threads.joins_at rows text n found).rows
  by_join text n None is = stay_same rows
  by_join text n (Some row) is =
      by_if (not row.joinable) _ _ (stay_same rows)
      (by_if row.joined _ _ (stay_same rows) (on_row rows n row (record row { joined = true }) is refl))

  by_joins : (t : ℕ) (text : List ℕ) (target : Option ℕ) → StayWorkers rows (threads.joins rows t text target).rows
  by_joins t text None = stay_same rows
  by_joins t text (Some n) = by_if (n == t) _ _ (stay_same rows) (by_join text n (row_of rows n) refl)

  by_exit : (found : Option Row) → StayWorkers rows (threads.exits rows found).rows
  by_exit None = stay_same rows
  by_exit (Some row) = go row.life refl
    where
      go : (life : Life) → row.life ≡ life → StayWorkers rows (threads.exits rows (Some row)).rows
      go Live is = rw (is, threads.exits) (stay_same rows)
      go Marked is = rw (is, threads.exits) (stay_same rows)
      go (Ended code) is = rw (is, threads.exits) (stay_same rows)

  by_sets : (n : ℕ) (row : Row) (now : _) → row_of rows n ≡ Some row → StayWorkers rows (threads.sets rows n row now).rows
  by_sets n row None is = stay_same rows
  by_sets n row (Some now) is = on_row rows n row (threads.put_settings row now) is refl

  by_configure : (n : ℕ) (words : List (List ℕ)) (found : Option Row) → row_of rows n ≡ found → StayWorkers rows (threads.configures_at rows n words found).rows
  by_configure n words None is = stay_same rows
  by_configure n words (Some row) is =
      by_if (nat_lt (length words) 2) _ _ (stay_same rows) (by_sets n row (threads.with_settings words (threads.settings_of row)) is)

  by_configures : (text : List ℕ) (words : List (List ℕ)) (target : Option ℕ) → StayWorkers rows (threads.configures rows text words target).rows
  by_configures text words None = stay_same rows
  by_configures text words (Some n) = by_configure n words (row_of rows n) refl

  pub by_threads : (t : ℕ) (request : Request) → StayWorkers rows (threads.act rows t request).rows
  by_threads t (ask.Preserve text) = by_counts threads.with_reference (λ row. refl) text (threads.thread_named rows t text)
  by_threads t (ask.Release text) = by_counts threads.without_reference (λ row. refl) text (threads.thread_named rows t text)
  by_threads t (ask.Join text) = by_joins t text (thread_of_id rows text)
  by_threads t (ask.AwaitEnd n) = by_exit (row_of rows n)
  by_threads t (ask.Configure text words) = by_configures text words (linked_thread rows text)
  by_threads t request = stay_same rows

-- ---- the end of a thread ----

pub by_end : (rows : List Row) (t : ℕ) (code : ℤ) → StayWorkers rows (with_end rows t code)
by_end rows t code = go (row_of rows t) refl
  where
    go : (found : Option Row) → row_of rows t ≡ found → StayWorkers rows (with_end_at rows t code found)
    go None there = stay_same rows
    go (Some row) there = on_row rows t row _ there refl
