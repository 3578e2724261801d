-- The events of a queue by kind (thread(n)).
use Rattle.std.specs.Prelude.{ℕ, Bool, true, false, List, count_by}
use Rattle.tt_calls.specs.declared.event.Event.{Event}
use Rattle.tt_calls.specs.declared.event.Event.TheVariants.{Script, SetVar, Moved, Timer, Stop}

-- a script that was sent to the thread
abbrev pub is_script : Event → Bool
is_script (Script n script answer plain) = true
is_script (SetVar name value) = false
is_script (Moved chan) = false
is_script (Timer n script) = false
is_script Stop = false

-- how many scripts wait in the queue (thread::configure, -eventmark)
abbrev pub pending : List Event → ℕ
pending events = count_by is_script events
