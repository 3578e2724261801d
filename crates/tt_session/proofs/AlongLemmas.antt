-- How far a schedule was gone along.
use Rattle.std.proofs.Common.{◌≡◌, ℕ, List, length, Option, None, Some, IfSome, IsSome, refl}
use Rattle.tt_core.specs.Faithful.{AsksLine}
use Rattle.tt_core.specs.Stage.{IsNextAfter, OfMachine, SameBeginning, Stage}
use Rattle.tt_machine.proofs.Steps.{not_barred}
use Rattle.tt_machine.specs.Machine.{CanStep, IsBarred, IsStuck, Machine, Runs, start_machine}
use Rattle.tt_session.proofs.FollowLemmas.{at-both, at-run, same-run-of}
use Rattle.tt_session.specs.Choosing.{Freely}
use Rattle.tt_session.specs.Ending.{IsFull, StopsAtLine}
use Rattle.tt_session.specs.inside.Following.{AtRun}

-- who is next can take a step
pub next-can : {S K E : Type 0} (held : S → Option (List ℕ)) (stage : Stage S K E) (after thread : ℕ)
    → OfMachine held stage (IsNextAfter after (Some thread)) → OfMachine held stage (λ machine. CanStep machine thread)
next-can held stage after thread is = go (held stage.began.input) is
  where
    go : (known : Option (List ℕ))
        → IfSome known
        (λ input. (machine : Machine) × Runs (start_machine stage.setup input) stage.desk.schedule machine × IsNextAfter after (Some thread) machine)
        → IfSome known (λ input. (machine : Machine) × Runs (start_machine stage.setup input) stage.desk.schedule machine × CanStep machine thread)
    go None is = tt
    go (Some input) is = (is.0, is.1, is.2.0)

-- the run is over, with this code
pub along-over : {S K E : Type 0} (held : S → Option (List ℕ)) (stage : Stage S K E) (code : ℕ)
    → OfMachine held stage (λ machine. machine.shared.over ≡ Some code)
    → AtRun held stage (λ begun machine. Unit {0} × (machine.shared.over ≡ Some code))
along-over held stage code over =
    at-run held stage (λ machine. machine.shared.over ≡ Some code) (λ begun machine. Unit {0} × (machine.shared.over ≡ Some code)) over
    (λ begun machine is. (tt, is))

-- no thread can go on, and the run isn't over
pub along-stuck : {S K E : Type 0} (held : S → Option (List ℕ)) (stage : Stage S K E) (last steps : ℕ)
    → OfMachine held stage (IsNextAfter last None) → OfMachine held stage (λ machine. machine.shared.over ≡ None)
    → AtRun held stage (λ begun machine. IsSome (Some steps) × IsStuck machine)
along-stuck held stage last steps barred going =
    at-both held stage (λ begun machine. (number : ℕ) → IsBarred machine number) (λ begun machine. machine.shared.over ≡ None)
    (λ begun machine. IsSome (Some steps) × IsStuck machine)
    (at-run held stage (IsNextAfter last None) (λ begun machine. (number : ℕ) → IsBarred machine number) barred (λ begun machine is. is))
    (at-run held stage (λ machine. machine.shared.over ≡ None) (λ begun machine. machine.shared.over ≡ None) going (λ begun machine is. is))
    (λ begun machine is over. (refl, record { going = over; barred = is }))

-- at the limit a thread could go on
pub along-full : {S K E : Type 0} (held : S → Option (List ℕ)) (stage : Stage S K E) (last thread steps : ℕ)
    → OfMachine held stage (IsNextAfter last (Some thread)) → length stage.desk.schedule ≡ steps
    → AtRun held stage (λ begun machine. IsFull steps (Freely steps) machine stage.desk.schedule)
along-full held stage last thread steps nexts count =
    at-run held stage (IsNextAfter last (Some thread)) (λ begun machine. IsFull steps (Freely steps) machine stage.desk.schedule) nexts
    (λ begun machine next. record { limit = refl; full = count; thread = thread; can = next.0 })

-- a thread that can take a step isn't refused
pub along-refused : {S K E : Type 0} (held : S → Option (List ℕ)) (stage : Stage S K E) (thread : ℕ) (Q : Machine → Machine → Type 0)
    → OfMachine held stage (λ machine. CanStep machine thread) → OfMachine held stage (λ machine. IsBarred machine thread) → AtRun held stage Q
along-refused held stage thread Q can barred =
    at-both held stage (λ begun machine. CanStep machine thread) (λ begun machine. IsBarred machine thread) Q
    (at-run held stage (λ machine. CanStep machine thread) (λ begun machine. CanStep machine thread) can (λ begun machine is. is))
    (at-run held stage (λ machine. IsBarred machine thread) (λ begun machine. IsBarred machine thread) barred (λ begun machine is. is))
    (λ begun machine may is. absurd (not_barred machine thread may is))

-- the thread asks for a line
pub along-reading : {S K E : Type 0} (held : S → Option (List ℕ)) (now new : Stage S K E) (thread steps : ℕ)
    → SameBeginning now new → new.desk.schedule ≡ now.desk.schedule → OfMachine held now (AsksLine thread)
    → AtRun held new (λ begun machine. StopsAtLine (Freely steps) machine new.desk.schedule)
along-reading held now new thread steps same stays asks =
    same-run-of held now new (λ taken begun machine. StopsAtLine (Freely steps) machine taken) same stays
    (at-run held now (AsksLine thread) (λ begun machine. StopsAtLine (Freely steps) machine now.desk.schedule) asks
    (λ begun machine line. record { thread = thread; due = tt; asks = line }))

-- a system that took this many steps
pub record IsGoing {S K E : Type 0} (reads : S → ℕ) (faults : K → ℕ) (errors : E → ℕ) (old now : Stage S K E) (count : ℕ) : Type 0 where
  pub counted : length now.desk.schedule ≡ count
  pub going : now.desk.kept ≡ None
  pub same : SameBeginning old now
  pub reads_steady : reads now.desk.devices.input ≡ reads old.desk.devices.input
  pub steady : faults now.desk.devices.output ≡ faults old.desk.devices.output
  pub errors_steady : errors now.desk.devices.errors ≡ errors old.desk.devices.errors
  pub no_output : count ≡ 0 → now.desk.devices.output ≡ old.desk.devices.output
  pub no_errors : count ≡ 0 → now.desk.devices.errors ≡ old.desk.devices.errors
