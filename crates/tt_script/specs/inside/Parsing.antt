-- How an answer of the parser stands to what the text reads as.
use Rattle.std.specs.Prelude.{◌≡◌, ◌≤◌, ◌<◌, ℕ, Result, Ok, Err}
use Rattle.tt_script.specs.Reading.{Read, takes, fails}
use Rattle.tt_script.specs.declared.command.Ending.{Ending}
use Rattle.tt_script.specs.declared.command.Ending.TheVariants as endings
use Rattle.tt_script.specs.declared.mode.Mode.{Mode}
use Rattle.tt_script.specs.declared.mode.Mode.TheVariants.{Keep}
use Rattle.tt_script.specs.declared.stop.Stop.{Stop}
use Rattle.tt_script.specs.declared.stop.Stop.TheVariants as stops

-- it stopped at the fault that the text reads as, or for want of memory
abbrev pub Refuses : {A : Type 0} → Stop → Read A → Type 0
Refuses stops.NoMemory read = Unit {0}
Refuses (stops.Fault fault) read = read ≡ fails fault

-- it answered the place after the value, and where values are kept that value, seen as view shows it
abbrev pub Answers : {X A : Type 0} → Mode → (X → A) → Result (X × ℕ) Stop → Read A → Type 0
Answers {A = A} mode view (Ok x) read = (value : A) × (read ≡ takes value x.1) × (mode ≡ Keep → view x.0 ≡ value)
Answers mode view (Err stop) read = Refuses stop read

-- it went on to a place from which the text reads as it did before
abbrev pub Continues : {A : Type 0} → Result ℕ Stop → (ℕ → Read A) → Read A → Type 0
Continues (Ok next) from read = read ≡ from next
Continues (Err stop) from read = Refuses stop read

-- parts end within a text of this length, before the byte that closes them
abbrev pub ends_within : Ending → ℕ → ℕ → Type 0
ends_within (endings.Word place) end size = end ≤ size
ends_within endings.Quote end size = end < size
ends_within endings.Parenthesis end size = end < size
