-- What the requests on the table of threads do to it, and what they are answered: a case each (thread(n)).
use Rattle.std.specs.Prelude.{ℕ, suc, Bool, true, ◌==◌, not, nat_lt, length, List, [], ◌∷◌, ◌++◌, codes, Option, Some}
use Rattle.std.specs.Prelude.{None, if◌then◌else◌, option_and_then, is_some, ℤ, pos, negsuc, ◌+ℤ◌}
use Rattle.std.specs.Result.{result_ok}
use Rattle.std.specs.Fmt.{decimal, signed_decimal}
use Rattle.std.specs.Int.RustNames.{unsigned_abs}
use Rattle.std.specs.Str.{bytes_eq}
use Rattle.tt_calls.specs.declared.reply.Reply.{Reply}
use Rattle.tt_calls.specs.declared.reply.Reply.TheVariants.{Go, Value, Refused, Waits}
use Rattle.tt_calls.specs.declared.request.Request.{Request}
use Rattle.tt_calls.specs.declared.request.Request.TheVariants as ask
use Rattle.tt_ids.specs.Ids.{id}
use Rattle.tt_ids.specs.declared.id.IdKind.TheVariants.{Thread}
use Rattle.tt_lists.specs.Spelling.{list_of}
use Rattle.tt_number.specs.Numerals.{whole_of}
use Rattle.tt_threads.specs.Rows.{is_linked, linked_thread, row_of, thread_of_id, with_row}
use Rattle.tt_threads.specs.declared.configure.Settings.{Settings}
use Rattle.tt_threads.specs.declared.row.Life.{Life}
use Rattle.tt_threads.specs.declared.row.Life.TheVariants.{Live, Marked, Ended}
use Rattle.tt_threads.specs.declared.row.Row.{Row}

-- the rows after a request, and its reply
pub record Answered : Type 0 where
  pub rows : List Row
  pub reply : Reply

-- a request that is refused changes nothing
abbrev pub refuses : List Row → List ℕ → Answered
refuses rows message = record { rows = rows; reply = Refused message }

-- a request that no command makes
abbrev pub is_not_asked : List Row → Answered
is_not_asked rows = refuses rows []

abbrev pub answers : List Row → List ℕ → Answered
answers rows text = record { rows = rows; reply = Value text }

abbrev pub has_no_thread : List Row → List ℕ → Answered
has_no_thread rows text = refuses rows (codes "thread \"" ++ (text ++ codes "\" does not exist"))

abbrev pub bit : Bool → List ℕ
bit b = if b then codes "1" else codes "0"

-- ---- thread::preserve, thread::release ----

-- the empty id is the asker's own
abbrev pub thread_named : List Row → ℕ → List ℕ → Option ℕ
thread_named rows asker [] = Some asker
thread_named rows asker (byte ∷ text) = linked_thread rows (byte ∷ text)

-- a thread that nobody holds any more is marked
abbrev pub life_unheld : Life → Life
life_unheld Live = Marked
life_unheld other = other

abbrev pub life_at : ℤ → Life → Life
life_at (pos (suc n)) before = before
life_at count before = life_unheld before

abbrev pub with_reference : Row → Row
with_reference row = record row { count = row.count +ℤ pos 1 }

abbrev pub without_reference : Row → Row
without_reference row = record row { count = row.count +ℤ negsuc 0; life = life_at (row.count +ℤ negsuc 0) row.life }

-- the row is changed, and the new count is the answer
abbrev pub counts_at : (Row → Row) → List Row → ℕ → Option Row → Answered
counts_at change rows number None = is_not_asked rows
counts_at change rows number (Some row) =
    record { rows = with_row rows number (change row); reply = Value (signed_decimal (change row).count) }

abbrev pub counts_of : (Row → Row) → List Row → ℕ → Answered
counts_of change rows number = counts_at change rows number (row_of rows number)

abbrev pub counts : (Row → Row) → List Row → List ℕ → Option ℕ → Answered
counts change rows text None = has_no_thread rows text
counts change rows text (Some number) = counts_of change rows number

-- ---- thread::names, thread::exists ----

-- the ids of the linked threads by number, the first of them being this
abbrev pub linked_ids : ℕ → List Row → List (List ℕ)
linked_ids number [] = []
linked_ids number (row ∷ rows) =
    if is_linked row.life then id Thread number ∷ linked_ids (suc number) rows else linked_ids (suc number) rows

-- ---- thread::join ----

abbrev pub joins_at : List Row → (text : List ℕ) → ℕ → Option Row → Answered
joins_at rows text number None = is_not_asked rows
joins_at rows text number (Some row) =
    if not row.joinable then refuses rows (codes "thread \"" ++ (text ++ codes "\" is not joinable")) else
    if row.joined then refuses rows (codes "thread \"" ++ (text ++ codes "\" is already joined")) else
    record { rows = with_row rows number (record row { joined = true }); reply = Waits number }

abbrev pub joins_of : List Row → (text : List ℕ) → ℕ → Answered
joins_of rows text number = joins_at rows text number (row_of rows number)

abbrev pub joins : List Row → (asker : ℕ) → (text : List ℕ) → Option ℕ → Answered
joins rows asker text None = has_no_thread rows text
joins rows asker text (Some number) =
    if number == asker then refuses rows (codes "cannot join oneself") else
    joins_of rows text number

abbrev pub joins_named : List Row → (asker : ℕ) → (text : List ℕ) → Answered
joins_named rows asker text = joins rows asker text (thread_of_id rows text)

-- the exit code of a thread that has ended
abbrev pub exits : List Row → Option Row → Answered
exits rows None = is_not_asked rows
exits rows (Some row) =
    elim row.life [
      | Live ↦ is_not_asked rows
      | Marked ↦ is_not_asked rows
      | Ended code ↦ answers rows (signed_decimal code)
    ]

-- ---- thread::configure ----

-- the options, each with its value after it
abbrev pub settings : Settings → List (List ℕ)
settings now = codes "-eventmark" ∷ decimal now.eventmark ∷ codes "-unwindonerror" ∷ bit now.unwind ∷ []

abbrev pub setting_of : Settings → List ℕ → Option (List ℕ)
setting_of now name =
    if bytes_eq name (codes "-eventmark") then Some (decimal now.eventmark) else
    if bytes_eq name (codes "-unwindonerror") then Some (bit now.unwind) else None

-- a mark is a whole number that isn't negative
abbrev pub with_mark : Settings → ℤ → Option Settings
with_mark now (pos mark) = Some (record now { eventmark = mark })
with_mark now (negsuc n) = None

-- a boolean is given as a whole number, 0 for false
abbrev pub with_unwind : Settings → ℤ → Option Settings
with_unwind now number = Some (record now { unwind = not (unsigned_abs number == 0) })

abbrev pub with_value : (name : List ℕ) → Settings → ℤ → Option Settings
with_value name now value =
    if bytes_eq name (codes "-eventmark") then with_mark now value else
    if bytes_eq name (codes "-unwindonerror") then with_unwind now value else None

abbrev pub with_setting : (name value : List ℕ) → Settings → Option Settings
with_setting name value now = option_and_then (with_value name now) (result_ok (whole_of value))

-- names and values in turn are set from the left; none if one of them is no setting
abbrev pub with_settings : List (List ℕ) → Settings → Option Settings
with_settings [] now = Some now
with_settings (name ∷ []) now = None
with_settings (name ∷ value ∷ words) now = option_and_then (with_settings words) (with_setting name value now)

-- the settings of a row, and the row with others
abbrev pub settings_of : Row → Settings
settings_of row = record { eventmark = row.eventmark; unwind = row.unwind }

abbrev pub put_settings : Row → Settings → Row
put_settings row now = record row { eventmark = now.eventmark; unwind = now.unwind }

abbrev pub sets : List Row → ℕ → Row → Option Settings → Answered
sets rows number row None = is_not_asked rows
sets rows number row (Some now) = record { rows = with_row rows number (put_settings row now); reply = Go }

-- no word reports all settings, and one word the setting of that option
abbrev pub settings_report : Settings → List (List ℕ) → Reply
settings_report now [] = Value (list_of (settings now))
settings_report now (name ∷ words) = elim (setting_of now name) [ Some value ↦ Value value | None ↦ Refused [] ]

-- more words set what they say
abbrev pub configures_row : List Row → ℕ → Row → List (List ℕ) → Answered
configures_row rows number row words =
    if nat_lt (length words) 2 then record { rows = rows; reply = settings_report (settings_of row) words } else
    sets rows number row (with_settings words (settings_of row))

abbrev pub configures_at : List Row → ℕ → List (List ℕ) → Option Row → Answered
configures_at rows number words None = is_not_asked rows
configures_at rows number words (Some row) = configures_row rows number row words

abbrev pub configures_of : List Row → ℕ → List (List ℕ) → Answered
configures_of rows number words = configures_at rows number words (row_of rows number)

abbrev pub configures : List Row → (text : List ℕ) → List (List ℕ) → Option ℕ → Answered
configures rows text words None = has_no_thread rows text
configures rows text words (Some number) = configures_of rows number words

-- ---- all of them ----

-- Preserve and Release count; a marked thread is asked to stop by the queues, which stand elsewhere. AwaitEnd is asked
-- of a thread that has ended.
abbrev pub act : List Row → (asker : ℕ) → Request → Answered
act rows asker (ask.Preserve text) = counts with_reference rows text (thread_named rows asker text)
act rows asker (ask.Release text) = counts without_reference rows text (thread_named rows asker text)
act rows asker ask.Names = answers rows (list_of (linked_ids 1 rows))
act rows asker (ask.Exists text) = answers rows (bit (is_some (linked_thread rows text)))
act rows asker (ask.Join text) = joins_named rows asker text
act rows asker (ask.AwaitEnd number) = exits rows (row_of rows number)
act rows asker (ask.Configure text words) = configures rows text words (linked_thread rows text)
act rows asker request = is_not_asked rows
