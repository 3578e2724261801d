-- The pending timers of threads: of a script (after(n), after ms script), of a sleep (after(n), after ms) and of a wait
-- for a condition that has a time (thread(n), thread::cond wait).
use Rattle.std.specs.Prelude.{ℕ, ◌+◌, ◌==◌, nat_le, Bool, true, false, ◌&&◌, not, if◌then◌else◌, List, [], ◌∷◌}
use Rattle.std.specs.Prelude.{Option, Some, None}
use Rattle.std.specs.List.{filter, list_any}
use Rattle.tt_timers.specs.declared.timer.Due.{Due}
use Rattle.tt_timers.specs.declared.timer.TimerKind.{TimerKind}
use Rattle.tt_timers.specs.declared.timer.TimerKind.TheVariants.{Script, Sleep, Condition}

-- a timer: its number, its thread, the moment in milliseconds at which it is due, and what it is for
pub record Timer : Type 0 where
  pub number : ℕ
  pub thread : ℕ
  pub moment : ℕ
  pub kind : TimerKind

-- the pending timers, by moment and those of one moment by number, and the number that the next one draws
pub record TimerTable : Type 0 where
  pub timers : List Timer
  pub next : ℕ

-- no timer yet
abbrev pub no_timers : TimerTable
no_timers = record { timers = []; next = 1 }

-- a number is drawn
abbrev pub after_draw : TimerTable → TimerTable
after_draw table = record table { next = table.next + 1 }

-- ---- a timer more ----

-- the timers with one more, before the first whose moment is later
abbrev pub put_timer : Timer → List Timer → List Timer
put_timer timer [] = timer ∷ []
put_timer timer (first ∷ timers) =
    if nat_le first.moment timer.moment then first ∷ put_timer timer timers else timer ∷ first ∷ timers

-- the timer that is added next
abbrev pub next_timer : TimerTable → (thread moment : ℕ) → TimerKind → Timer
next_timer table thread moment kind =
    record { number = table.next; thread = thread; moment = moment; kind = kind }

-- a timer more, which draws a number
abbrev pub with_timer : TimerTable → (thread moment : ℕ) → TimerKind → TimerTable
with_timer table thread moment kind =
    record { timers = put_timer (next_timer table thread moment kind) table.timers; next = table.next + 1 }

-- ---- what is due ----

-- a timer is due at a moment
abbrev pub is_due : ℕ → Timer → Bool
is_due moment timer = nat_le timer.moment moment

-- the moment of the first timer; none if none is pending
abbrev pub least_in : List Timer → Option ℕ
least_in [] = None
least_in (first ∷ timers) = Some first.moment

abbrev pub least : TimerTable → Option ℕ
least table = least_in table.timers

-- the first timer if it is due, and the timers without it
abbrev pub first_due_in : ℕ → List Timer → Option Timer
first_due_in moment [] = None
first_due_in moment (first ∷ timers) = if is_due moment first then Some first else None

abbrev pub without_first_due_in : ℕ → List Timer → List Timer
without_first_due_in moment [] = []
without_first_due_in moment (first ∷ timers) = if is_due moment first then timers else first ∷ timers

abbrev pub first_due : ℕ → TimerTable → Option Timer
first_due moment table = first_due_in moment table.timers

abbrev pub after_take : ℕ → TimerTable → TimerTable
after_take moment table = record table { timers = without_first_due_in moment table.timers }

-- what is reported of a timer that rings
abbrev pub due_of : Timer → Due
due_of timer = record { number = timer.number; thread = timer.thread; kind = timer.kind }

-- ---- the timers of a thread ----

-- what a timer is for: a script, or a sleep
abbrev pub is_script : TimerKind → Bool
is_script (Script script) = true
is_script Sleep = false
is_script Condition = false

abbrev pub is_sleep : TimerKind → Bool
is_sleep (Script script) = false
is_sleep Sleep = true
is_sleep Condition = false

-- the timer is of this thread
abbrev pub is_of : (thread : ℕ) → Timer → Bool
is_of thread timer = timer.thread == thread

-- the thread's script timer of a number (after(n), after cancel)
abbrev pub is_script_of : (thread number : ℕ) → Timer → Bool
is_script_of thread number timer = is_of thread timer && (timer.number == number && is_script timer.kind)

-- a timer of the thread's sleep, and one of its sleep or of its wait for a condition
abbrev pub is_sleep_of : (thread : ℕ) → Timer → Bool
is_sleep_of thread timer = is_of thread timer && is_sleep timer.kind

abbrev pub is_wait_of : (thread : ℕ) → Timer → Bool
is_wait_of thread timer = is_of thread timer && not (is_script timer.kind)

-- a timer of this sort is pending
abbrev pub has_timer : (Timer → Bool) → TimerTable → Bool
has_timer test table = list_any test table.timers

-- the table without the timers of a sort
abbrev pub without : (Timer → Bool) → TimerTable → TimerTable
without test table = record table { timers = filter (λ timer. not (test timer)) table.timers }
