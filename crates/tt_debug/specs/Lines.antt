-- The lines that a debugging session shows.
use Rattle.std.specs.Prelude.{ℕ, Bool, true, false, List, [], ◌∷◌, ◌++◌, codes, Option, Some, None, if◌then◌else◌}
use Rattle.std.specs.Fmt.{decimal}
use Rattle.tt_calls.specs.declared.event.Event.{Event}
use Rattle.tt_calls.specs.declared.event.Event.TheVariants as event
use Rattle.tt_calls.specs.declared.request.Request.{Request}
use Rattle.tt_debug.specs.Names.{name_of}
use Rattle.tt_ids.specs.Ids.{id}
use Rattle.tt_ids.specs.declared.id.IdKind.TheVariants.{Thread}
use Rattle.tt_shared.specs.Mail.{queue_of}
use Rattle.tt_shared.specs.State.{State}
use Rattle.tt_threads.specs.Rows.{is_living}
use Rattle.tt_tsv.specs.Calls.{array_text}

abbrev pub line : List ℕ → List ℕ
line text = text ++ codes "\n"

-- the place after a move
abbrev pub place_line : (place : ℕ) → List ℕ
place_line place = line (codes "at " ++ decimal place)

-- a thread, whether its request is enabled, and what that is
abbrev pub standing_word : (enabled : Bool) → List ℕ
standing_word true = codes " enabled "
standing_word false = codes " waits "

abbrev pub thread_line : (number : ℕ) → (enabled : Bool) → Request → List ℕ
thread_line number enabled request = line (id Thread number ++ (standing_word enabled ++ name_of request))

-- an event of a queue
abbrev pub event_text : Event → List ℕ
event_text (event.Script n script answer plain) = codes "Script " ++ decimal n
event_text (event.SetVar name value) = codes "SetVar " ++ name
event_text (event.Moved chan) = codes "Moved " ++ chan
event_text (event.Timer n script) = codes "Timer " ++ decimal n
event_text event.Stop = codes "Stop"

abbrev pub event_lines : List Event → List ℕ
event_lines [] = []
event_lines (first ∷ events) = line (event_text first) ++ event_lines events

-- the queue of a thread that lives; nothing of another
abbrev pub events_shown : Option (List Event) → List ℕ
events_shown None = []
events_shown (Some events) = event_lines events

abbrev pub queue_shown : State → (thread : Option ℕ) → List ℕ
queue_shown state None = []
queue_shown state (Some thread) =
    if is_living state.rows thread then events_shown (queue_of state.queues thread) else []

-- a shared array as a list
abbrev pub list_shown : Option (List ℕ) → List ℕ
list_shown None = line (codes "no array")
list_shown (Some text) = line text

abbrev pub array_shown : State → (name : List ℕ) → List ℕ
array_shown state name = list_shown (array_text state.arrays name)

-- how many bytes were written
abbrev pub bytes_shown : (out err : ℕ) → List ℕ
bytes_shown out err = line (codes "out " ++ (decimal out ++ (codes " err " ++ decimal err)))

abbrev pub unknown_line : List ℕ
unknown_line = line (codes "unknown command")
