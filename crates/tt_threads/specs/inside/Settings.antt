-- The rows with other settings of one of them: a word of the code's own contracts.
use Rattle.std.specs.Prelude.{ℕ, List, Option, Some, None, slice_get, slice_set}
use Rattle.tt_threads.specs.Requests.{put_settings}
use Rattle.tt_threads.specs.declared.configure.Settings.{Settings}
use Rattle.tt_threads.specs.declared.row.Row.{Row}

-- the rows with other settings of the one at this place
abbrev pub with_settings_found : List Row → ℕ → Settings → Option Row → List Row
with_settings_found rows place now None = rows
with_settings_found rows place now (Some row) = slice_set rows place (put_settings row now)

abbrev pub with_settings : List Row → ℕ → Settings → List Row
with_settings rows place now = with_settings_found rows place now (slice_get rows place)
