-- What requests on the table of threads leave: who lives goes on living.
use Rattle.std.proofs.Common.{◌≡◌, ◌∙◌, ◌-◌, ◌+◌, ◌==◌, ◌&&◌, ℕ, zero, suc, Bool, true, false, not, nat_lt, List, []}
use Rattle.std.proofs.Common.{◌∷◌, length, slice_get, Option, Some, None, if◌then◌else◌, ap, refl, sym, subst, bytes_eq}
use Rattle.std.proofs.Common.{ℤ, pos, negsuc, arith}
use Rattle.tt_calls.specs.declared.request.Request.{Request}
use Rattle.tt_calls.specs.declared.request.Request.TheVariants as ask
use Rattle.laws_shared.proofs.Numbered.{by_number, length-put, numbered-suc}
use Rattle.tt_ids.specs.Ids.{id}
use Rattle.tt_ids.specs.declared.id.IdKind.TheVariants.{Thread}
use Rattle.tt_threads.specs.Requests as threads
use Rattle.tt_threads.specs.Rows.{found_from, is_linked, is_living, is_living_at, linked_thread, lives, row_of, thread_of_id, with_end, with_end_at, with_row}
use Rattle.tt_threads.specs.declared.row.Life.{Life}
use Rattle.tt_threads.specs.declared.row.Life.TheVariants.{Live, Marked, Ended}
use Rattle.tt_threads.specs.declared.row.Row.{Row}

-- as many threads, and who lived lives
pub record GoesOn (old new : List Row) : Type 0 where
  pub many : length new ≡ length old
  pub live : (u : ℕ) → is_living old u ≡ true → is_living new u ≡ true

pub on_same : (rows : List Row) → GoesOn rows rows
on_same rows = record { many = refl; live = λ u is. is }

-- a row in place of another
pub on_row : (rows : List Row) (n : ℕ) (old new : Row) → row_of rows n ≡ Some old → (lives old.life ≡ true → lives new.life ≡ true) →
    GoesOn rows (with_row rows n new)
on_row rows n old new there keeps = record {
  many = length-put rows (n - 1) new;
  live = λ u is.
      by_number (λ found. is_living_at found ≡ true) rows n u new old there
      (λ same. keeps (subst (λ found. is_living_at found ≡ true) there (subst (λ one. is_living rows one ≡ true) same is))) is;
}

-- ---- requests on threads ----

lives_at : (count : ℤ) (life : Life) → lives life ≡ true → lives (threads.life_at count life) ≡ true
lives_at (pos (suc n)) was is = is
lives_at (pos zero) Live is = refl
lives_at (pos zero) Marked is = refl
lives_at (pos zero) (Ended code) is = is
lives_at (negsuc n) Live is = refl
lives_at (negsuc n) Marked is = refl
lives_at (negsuc n) (Ended code) is = is

module _ (rows : List Row) where
  by_if : (b : Bool) (one other : threads.Answered) → GoesOn rows one.rows → GoesOn rows other.rows → GoesOn rows (if b then one else other).rows
  by_if true one other first second = first
  by_if false one other first second = second

  by_count : (change : Row → Row) → ((row : Row) → lives row.life ≡ true → lives (change row).life ≡ true) → (n : ℕ) (found : Option Row) →
      row_of rows n ≡ found
      → GoesOn rows (threads.counts_at change rows n found).rows
  by_count change keeps n None is = on_same rows
  by_count change keeps n (Some row) is = on_row rows n row (change row) is (keeps row)

  by_counts : (change : Row → Row) → ((row : Row) → lives row.life ≡ true → lives (change row).life ≡ true) → (text : List ℕ) (target : Option ℕ)
      → GoesOn rows (threads.counts change rows text target).rows
  by_counts change keeps text None = on_same rows
  by_counts change keeps text (Some n) = by_count change keeps n (row_of rows n) refl

  by_join : (text : List ℕ) (n : ℕ) (found : Option Row) → row_of rows n ≡ found → GoesOn rows (threads.joins_at rows text n found).rows
  by_join text n None is = on_same rows
  by_join text n (Some row) is =
      by_if (not row.joinable) _ _ (on_same rows) (by_if row.joined _ _ (on_same rows) (on_row rows n row (record row { joined = true }) is (λ lives. lives)))

  by_joins : (t : ℕ) (text : List ℕ) (target : Option ℕ) → GoesOn rows (threads.joins rows t text target).rows
  by_joins t text None = on_same rows
  by_joins t text (Some n) = by_if (n == t) _ _ (on_same rows) (by_join text n (row_of rows n) refl)

  by_exit : (found : Option Row) → GoesOn rows (threads.exits rows found).rows
  by_exit None = on_same rows
  by_exit (Some row) = go row.life refl
    where
      go : (life : Life) → row.life ≡ life → GoesOn rows (threads.exits rows (Some row)).rows
      go Live is = rw (is, threads.exits) (on_same rows)
      go Marked is = rw (is, threads.exits) (on_same rows)
      go (Ended code) is = rw (is, threads.exits) (on_same rows)

  by_sets : (n : ℕ) (row : Row) (now : _) → row_of rows n ≡ Some row → GoesOn rows (threads.sets rows n row now).rows
  by_sets n row None is = on_same rows
  by_sets n row (Some now) is = on_row rows n row (threads.put_settings row now) is (λ lives. lives)

  by_configure : (n : ℕ) (words : List (List ℕ)) (found : Option Row) → row_of rows n ≡ found → GoesOn rows (threads.configures_at rows n words found).rows
  by_configure n words None is = on_same rows
  by_configure n words (Some row) is =
      by_if (nat_lt (length words) 2) _ _ (on_same rows) (by_sets n row (threads.with_settings words (threads.settings_of row)) is)

  by_configures : (text : List ℕ) (words : List (List ℕ)) (target : Option ℕ) → GoesOn rows (threads.configures rows text words target).rows
  by_configures text words None = on_same rows
  by_configures text words (Some n) = by_configure n words (row_of rows n) refl

  pub by_threads : (t : ℕ) (request : Request) → GoesOn rows (threads.act rows t request).rows
  by_threads t (ask.Preserve text) = by_counts threads.with_reference (λ row is. is) text (threads.thread_named rows t text)
  by_threads t (ask.Release text) = by_counts threads.without_reference (λ row is. lives_at _ row.life is) text (threads.thread_named rows t text)
  by_threads t (ask.Join text) = by_joins t text (thread_of_id rows text)
  by_threads t (ask.AwaitEnd n) = by_exit (row_of rows n)
  by_threads t (ask.Configure text words) = by_configures text words (linked_thread rows text)
  by_threads t request = on_same rows

-- ---- others live on at the end of a thread, and a thread that is linked lives ----

pub by_end : (rows : List Row) (t : ℕ) (code : ℤ) (u : ℕ) → (u ≡ t → ⊥) → is_living rows u ≡ true → is_living (with_end rows t code) u ≡ true
by_end rows t code u other is = go (row_of rows t) refl
  where
    go : (found : Option Row) → row_of rows t ≡ found → is_living (with_end_at rows t code found) u ≡ true
    go None there = is
    go (Some row) there = by_number (λ found. is_living_at found ≡ true) rows t u _ row there (λ same. absurd (other same)) is

pub many_end : (rows : List Row) (t : ℕ) (code : ℤ) → length (with_end rows t code) ≡ length rows
many_end rows t code = go (row_of rows t)
  where
    go : (found : Option Row) → length (with_end_at rows t code found) ≡ length rows
    go None = refl
    go (Some row) = length-put rows (t - 1) _

-- a thread that an id names is there, and lives
pub record IsLinked (rows : List Row) (n : ℕ) : Type 0 where
  pub row : Row
  pub there : row_of rows n ≡ Some row
  pub living : is_living rows n ≡ true

linked_lives : (was : Life) → is_linked was ≡ true → lives was ≡ true
linked_lives Live is = refl
linked_lives Marked is = absurd (cc is)
linked_lives (Ended code) is = absurd (cc is)

record IsAt (rows : List Row) (start n : ℕ) : Type 0 where
  place : ℕ
  row : Row
  number : n ≡ start + place
  there : slice_get rows place ≡ Some row
  is : is_linked row.life ≡ true

found_at : (rows : List Row) (start n : ℕ) (text : List ℕ) → found_from is_linked start rows text ≡ Some n → IsAt rows start n
found_at [] start n text is = absurd (cc is)
found_at (row ∷ rows) start n text is = go (is_linked row.life) (bytes_eq text (id Thread start)) refl is (found_at rows (suc start) n text)
  where
    more : IsAt rows (suc start) n → IsAt (row ∷ rows) start n
    more at = record { place = suc at.place; row = at.row; number = omega (arith, at.number); there = at.there; is = at.is }

    go : (first second : Bool) → is_linked row.life ≡ first → (if first && second then Some start else found_from is_linked (suc start) rows text) ≡ Some n
        → (found_from is_linked (suc start) rows text ≡ Some n → IsAt rows (suc start) n) → IsAt (row ∷ rows) start n
    go true true linked_thread is later =
        let same : start ≡ n = cc is in
        record { place = 0; row = row; number = omega (arith, same); there = refl; is = linked_thread }
    go true false linked_thread is later = more (later is)
    go false second linked_thread is later = more (later is)

pub linked_is : (rows : List Row) (text : List ℕ) (n : ℕ) → linked_thread rows text ≡ Some n → IsLinked rows n
linked_is rows text n is =
    let at = found_at rows 1 n text is in
    let number : n ≡ suc at.place = omega (arith, at.number) in
    let here : row_of rows (suc at.place) ≡ Some at.row = numbered-suc rows at.place ∙ at.there in
    let there : row_of rows n ≡ Some at.row = subst (λ one. row_of rows one ≡ Some at.row) (sym number) here in
    record { row = at.row; there = there; living = ap is_living_at there ∙ linked_lives at.row.life at.is }
