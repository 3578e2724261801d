-- The rows of the threads, which are numbered from 1 (thread(n)).
use Rattle.std.specs.Prelude.{ℕ, suc, Bool, true, false, ◌&&◌, nat_lt, List, [], ◌∷◌, ◌++◌, length, count_by, Option}
use Rattle.std.specs.Prelude.{Some, None, if◌then◌else◌, ℤ, pos}
use Rattle.std.specs.Str.{bytes_eq}
use Rattle.tt_calls.specs.Numbers.{at_number, with_at}
use Rattle.tt_calls.specs.declared.start.Start.{Start}
use Rattle.tt_ids.specs.Ids.{id}
use Rattle.tt_ids.specs.declared.id.IdKind.TheVariants.{Thread}
use Rattle.tt_threads.specs.declared.row.Life.{Life}
use Rattle.tt_threads.specs.declared.row.Life.TheVariants.{Live, Marked, Ended}
use Rattle.tt_threads.specs.declared.row.Row.{Row}

-- a thread that has not ended lives
abbrev pub lives : Life → Bool
lives Live = true
lives Marked = true
lives (Ended code) = false

-- a thread that lives and is not marked is linked: its id names it
abbrev pub is_linked : Life → Bool
is_linked Live = true
is_linked Marked = false
is_linked (Ended code) = false

-- how many threads live, and so count against the limit
abbrev pub living : List Row → ℕ
living rows = count_by (λ row. lives row.life) rows

-- the most threads that live at once
abbrev pub most_living : ℕ
most_living = 1000

-- the row of a thread
abbrev pub row_of : List Row → ℕ → Option Row
row_of rows number = at_number rows number

-- whether a thread was made and lives
abbrev pub is_living_at : Option Row → Bool
is_living_at None = false
is_living_at (Some row) = lives row.life

abbrev pub is_living : List Row → ℕ → Bool
is_living rows number = is_living_at (row_of rows number)

-- the rows with another one for that thread
abbrev pub with_row : List Row → ℕ → Row → List Row
with_row rows number row = with_at rows number row

-- the thread of this id among those of whose lives this is true, the first of them having this number
abbrev pub found_from : (Life → Bool) → ℕ → List Row → List ℕ → Option ℕ
found_from counts number [] text = None
found_from counts number (row ∷ rows) text =
    if counts row.life && bytes_eq text (id Thread number) then Some number
    else found_from counts (suc number) rows text

-- the linked thread of this id
abbrev pub linked_thread : List Row → List ℕ → Option ℕ
linked_thread rows text = found_from is_linked 1 rows text

-- the thread of this id, whatever became of it
abbrev pub thread_of_id : List Row → List ℕ → Option ℕ
thread_of_id rows text = found_from (λ life. true) 1 rows text

-- the row of a new thread, which is held once if it is preserved (thread::create)
abbrev pub new_row : Start → (joinable preserved : Bool) → Row
new_row start joinable preserved = record {
  start = start;
  life = Live;
  joinable = joinable;
  joined = false;
  count = if preserved then pos 1 else pos 0;
  eventmark = 0;
  unwind = false;
}

-- the number of a thread that is made: none if the most live already
abbrev pub number_made : List Row → Option ℕ
number_made rows = if nat_lt (living rows) most_living then Some (suc (length rows)) else None

abbrev pub with_made : List Row → Row → List Row
with_made rows row = if nat_lt (living rows) most_living then rows ++ row ∷ [] else rows

-- the row of a thread that has ended with this code
abbrev pub ended_row : Row → ℤ → Row
ended_row row code = record row { life = Ended code }

abbrev pub with_end_at : List Row → ℕ → ℤ → Option Row → List Row
with_end_at rows number code None = rows
with_end_at rows number code (Some row) = with_row rows number (ended_row row code)

abbrev pub with_end : List Row → ℕ → ℤ → List Row
with_end rows number code = with_end_at rows number code (row_of rows number)
