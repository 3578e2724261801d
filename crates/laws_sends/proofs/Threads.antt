-- Who has ended stays so, whatever is asked of the table of threads.
use Rattle.std.proofs.Common.{◌≡◌, ◌==◌, ℕ, zero, suc, Bool, true, false, not, nat_lt, List, [], ◌∷◌, ◌++◌, length}
use Rattle.std.proofs.Common.{Option, Some, None, if◌then◌else◌, ap, refl, subst, ℤ, pos, negsuc}
use Rattle.laws_sends.proofs.Views.{StayEnded, has_ended, has_ended_at}
use Rattle.laws_shared.proofs.Numbered.{by_more, by_number, put_here}
use Rattle.tt_calls.specs.declared.request.Request.{Request}
use Rattle.tt_calls.specs.declared.request.Request.TheVariants as ask
use Rattle.tt_threads.specs.Requests as threads
use Rattle.tt_threads.specs.Rows.{is_living, is_living_at, linked_thread, lives, row_of, thread_of_id, with_end, with_end_at, with_row}
use Rattle.tt_threads.specs.declared.row.Life.{Life}
use Rattle.tt_threads.specs.declared.row.Life.TheVariants.{Live, Marked, Ended}
use Rattle.tt_threads.specs.declared.row.Row.{Row}

pub stay_same : (rows : List Row) → StayEnded rows rows
stay_same rows u is = is

abbrev pub KeepsEnd : Row → Row → Type 0
KeepsEnd old new = not (lives old.life) ≡ true → not (lives new.life) ≡ true

pub on_row : (rows : List Row) (n : ℕ) (old new : Row) → row_of rows n ≡ Some old → KeepsEnd old new → StayEnded rows (with_row rows n new)
on_row rows n old new there keeps u is =
    by_number (λ found. has_ended_at found ≡ true) rows n u new old there
    (λ same. keeps (subst (λ found. has_ended_at found ≡ true) there (subst (λ one. has_ended rows one ≡ true) same is))) is

pub by_new : (rows : List Row) (row : Row) → StayEnded rows (rows ++ row ∷ [])
by_new rows row u is = by_more (λ found. has_ended_at found ≡ true) rows u row (λ none last. absurd (cc none)) is

-- who lives has not ended
pub living_not_ended : (rows : List Row) (t : ℕ) → is_living rows t ≡ true → has_ended rows t ≡ false
living_not_ended rows t is = go (row_of rows t) is
  where
    go : (found : Option Row) → is_living_at found ≡ true → has_ended_at found ≡ false
    go None is = absurd (cc is)
    go (Some row) is = ap not is

-- ---- requests on threads ----

ends_at : (count : ℤ) (life : Life) → not (lives life) ≡ true → not (lives (threads.life_at count life)) ≡ true
ends_at (pos (suc n)) was is = is
ends_at (pos zero) Live is = absurd (cc is)
ends_at (pos zero) Marked is = absurd (cc is)
ends_at (pos zero) (Ended code) is = is
ends_at (negsuc n) Live is = absurd (cc is)
ends_at (negsuc n) Marked is = absurd (cc is)
ends_at (negsuc n) (Ended code) is = is

module _ (rows : List Row) where
  by_if : (b : Bool) (one other : threads.Answered) → StayEnded rows one.rows → StayEnded rows other.rows → StayEnded rows (if b then one else other).rows
  by_if true one other first second = first
  by_if false one other first second = second

  by_count : (change : Row → Row) → ((row : Row) → KeepsEnd row (change row)) → (n : ℕ) (found : Option Row) → row_of rows n ≡ found →
      StayEnded rows (threads.counts_at change rows n found).rows
  by_count change keeps n None is = stay_same rows
  by_count change keeps n (Some row) is = on_row rows n row (change row) is (keeps row)

  by_counts : (change : Row → Row) → ((row : Row) → KeepsEnd row (change row)) → (text : List ℕ) (target : Option ℕ) →
      StayEnded rows (threads.counts change rows text target).rows
  by_counts change keeps text None = stay_same rows
  by_counts change keeps text (Some n) = by_count change keeps n (row_of rows n) refl

  by_join : (text : List ℕ) (n : ℕ) (found : Option Row) → row_of rows n ≡ found → StayEnded rows (threads.joins_at rows text n found).rows
  by_join text n None is = stay_same rows
  by_join text n (Some row) is =
      by_if (not row.joinable) _ _ (stay_same rows)
      (by_if row.joined _ _ (stay_same rows) (on_row rows n row (record row { joined = true }) is (λ ended. ended)))

  by_joins : (t : ℕ) (text : List ℕ) (target : Option ℕ) → StayEnded rows (threads.joins rows t text target).rows
  by_joins t text None = stay_same rows
  by_joins t text (Some n) = by_if (n == t) _ _ (stay_same rows) (by_join text n (row_of rows n) refl)

  by_exit : (found : Option Row) → StayEnded rows (threads.exits rows found).rows
  by_exit None = stay_same rows
  by_exit (Some row) = go row.life refl
    where
      go : (life : Life) → row.life ≡ life → StayEnded rows (threads.exits rows (Some row)).rows
      go Live is = rw (is, threads.exits) (stay_same rows)
      go Marked is = rw (is, threads.exits) (stay_same rows)
      go (Ended code) is = rw (is, threads.exits) (stay_same rows)

  by_sets : (n : ℕ) (row : Row) (now : _) → row_of rows n ≡ Some row → StayEnded rows (threads.sets rows n row now).rows
  by_sets n row None is = stay_same rows
  by_sets n row (Some now) is = on_row rows n row (threads.put_settings row now) is (λ ended. ended)

  by_configure : (n : ℕ) (words : List (List ℕ)) (found : Option Row) → row_of rows n ≡ found → StayEnded rows (threads.configures_at rows n words found).rows
  by_configure n words None is = stay_same rows
  by_configure n words (Some row) is =
      by_if (nat_lt (length words) 2) _ _ (stay_same rows) (by_sets n row (threads.with_settings words (threads.settings_of row)) is)

  by_configures : (text : List ℕ) (words : List (List ℕ)) (target : Option ℕ) → StayEnded rows (threads.configures rows text words target).rows
  by_configures text words None = stay_same rows
  by_configures text words (Some n) = by_configure n words (row_of rows n) refl

  pub by_threads : (t : ℕ) (request : Request) → StayEnded rows (threads.act rows t request).rows
  by_threads t (ask.Preserve text) = by_counts threads.with_reference (λ row is. is) text (threads.thread_named rows t text)
  by_threads t (ask.Release text) = by_counts threads.without_reference (λ row is. ends_at _ row.life is) text (threads.thread_named rows t text)
  by_threads t (ask.Join text) = by_joins t text (thread_of_id rows text)
  by_threads t (ask.AwaitEnd n) = by_exit (row_of rows n)
  by_threads t (ask.Configure text words) = by_configures text words (linked_thread rows text)
  by_threads t request = stay_same rows

-- ---- the end of a thread ----

pub end_stays : (rows : List Row) (t : ℕ) (code : ℤ) → StayEnded rows (with_end rows t code)
end_stays rows t code = go (row_of rows t) refl
  where
    go : (found : Option Row) → row_of rows t ≡ found → StayEnded rows (with_end_at rows t code found)
    go None there = stay_same rows
    go (Some row) there = on_row rows t row _ there (λ is. refl)

pub end_ends : (rows : List Row) (t : ℕ) (code : ℤ) → is_living rows t ≡ true → has_ended (with_end rows t code) t ≡ true
end_ends rows t code is = go (row_of rows t) refl is
  where
    go : (found : Option Row) → row_of rows t ≡ found → is_living_at found ≡ true → has_ended (with_end_at rows t code found) t ≡ true
    go None there is = absurd (cc is)
    go (Some row) there is = ap has_ended_at (put_here rows t _ row there)
