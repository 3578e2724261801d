-- How threads take turns.
use Rattle.std.proofs.Common.{◌≡◌, ◌∙◌, ◌≤◌, ◌+◌, ◌⊎◌, ℕ, List, [], ◌∷◌, ◌++◌, length, Option, None, Some, IfSome, IsSome, refl}
use Rattle.std.proofs.Common.{sym, ap, subst, arith, inl, inr, length-append}
use Rattle.tt_core.specs.Faithful.{AsksLine}
use Rattle.tt_core.specs.Stage.{IsNextAfter, OfMachine, SameBeginning, Stage}
use Rattle.tt_machine.proofs.Steps.{not_barred, same_run, same_step}
use Rattle.tt_machine.specs.Machine.{CanStep, IsBarred, IsStuck, Machine, Runs, Steps, start_machine}
use Rattle.tt_machine.specs.Machine as run
use Rattle.tt_session.proofs.FollowLemmas.{at-both, at-run, of-any, same-run-of, some-entry}
use Rattle.tt_session.specs.Choosing.{InTurn, TakesTurns, last_of}
use Rattle.tt_session.specs.Choosing as turn
use Rattle.tt_session.specs.Ending.{IsFull, StopsAtLine}
use Rattle.tt_session.specs.inside.Following.{AtRun}

pub last-more : (after thread : ℕ) (threads : List ℕ) → last_of after (threads ++ thread ∷ []) ≡ thread
last-more after thread [] = refl
last-more after thread (one ∷ threads) = last-more one thread threads

-- a run of one step more has that step last
pub record LastStep (begun : Machine) (schedule : List ℕ) (thread : ℕ) (machine : Machine) : Type 0 where
  pub before : Machine
  pub ran : Runs begun schedule before
  pub step : Steps before thread machine

pub last-step : (begun machine : Machine) (schedule : List ℕ) (thread : ℕ) → Runs begun (schedule ++ thread ∷ []) machine
    → LastStep begun schedule thread machine
last-step begun machine [] thread (run.more {next = next} step run.none) = record { before = begun; ran = run.none; step = step }
last-step begun machine (one ∷ schedule) thread (run.more {next = next} step ran) =
    let last = last-step next machine schedule thread ran in
    record { before = last.before; ran = run.more step last.ran; step = last.step }

-- one turn more
pub turns-more : (begun machine next : Machine) (after thread : ℕ) (schedule : List ℕ)
    → Runs begun schedule machine → TakesTurns after begun schedule → IsNextAfter (last_of after schedule) (Some thread) machine → Steps machine thread next
    → TakesTurns after begun (schedule ++ thread ∷ [])
turns-more begun machine next after thread [] run.none turn.none is step = turn.more is step turn.none
turns-more begun machine next after thread (one ∷ schedule) (run.more {next = following} step ran) (turn.more {new = other} is taken turns) nexts last =
    let same : other ≡ following = same_step begun other following one taken step in
    turn.more is step (turns-more following machine next one thread schedule ran (subst (λ (m : Machine). TakesTurns one m schedule) same turns) nexts last)

-- the threads of a system took turns
abbrev pub TookTurns : {S K E : Type 0} → (held : S → Option (List ℕ)) → Stage S K E → Type 0
TookTurns held stage = AtRun held stage (λ begun machine. TakesTurns 0 begun stage.desk.schedule)

pub stay-turns : {S K E : Type 0} (held : S → Option (List ℕ)) (now new : Stage S K E) → SameBeginning now new
    → new.desk.schedule ≡ now.desk.schedule → TookTurns held now → TookTurns held new
stay-turns held now new same steps took = rw (same.setup, same.began, steps) took

pub more-turns : {S K E : Type 0} (held : S → Option (List ℕ)) (now new : Stage S K E) (last thread : ℕ)
    → SameBeginning now new → new.desk.schedule ≡ now.desk.schedule ++ thread ∷ [] → last ≡ last_of 0 now.desk.schedule
    → OfMachine held now (IsNextAfter last (Some thread)) → TookTurns held now → TookTurns held new
more-turns held now new last thread same steps is nexts took =
    rw (same.setup, same.began, steps) (go (held now.began.input) nexts took)
  where
    go : (told : Option (List ℕ))
        → IfSome told (λ input. (machine : Machine) × Runs (start_machine now.setup input) now.desk.schedule machine × IsNextAfter last (Some thread) machine)
        → IfSome told
        (λ input. (machine : Machine) → Runs (start_machine now.setup input) now.desk.schedule machine
        → TakesTurns 0 (start_machine now.setup input) now.desk.schedule)
        → IfSome told
        (λ input. (machine : Machine) → Runs (start_machine now.setup input) (now.desk.schedule ++ thread ∷ []) machine
        → TakesTurns 0 (start_machine now.setup input) (now.desk.schedule ++ thread ∷ []))
    go None nexts took = tt
    go (Some input) nexts took = λ machine ran.
        let begun = start_machine now.setup input in
        let end = last-step begun machine now.desk.schedule thread ran in
        let same : nexts.0 ≡ end.before = same_run begun nexts.0 end.before now.desk.schedule nexts.1 end.ran in
        let next : IsNextAfter (last_of 0 now.desk.schedule) (Some thread) end.before = rw (← is, ← same) nexts.2 in
        turns-more begun end.before machine 0 thread now.desk.schedule end.ran (took end.before end.ran) next end.step

-- ---- how a run of turns ends ----

-- what is said of the start, of the steps and of the machine after them
abbrev pub TookAnd : {S K E : Type 0} → (held : S → Option (List ℕ)) → Stage S K E → (Machine → Type 0) → Type 0
TookAnd held stage fact = AtRun held stage (λ begun machine. TakesTurns 0 begun stage.desk.schedule × fact machine)

pub and-of : {S K E : Type 0} (held : S → Option (List ℕ)) (stage : Stage S K E) (P Q : Machine → Type 0)
    → TookTurns held stage → OfMachine held stage P → ((machine : Machine) → P machine → Q machine) → TookAnd held stage Q
and-of held stage P Q took is f =
    at-both held stage (λ begun machine. TakesTurns 0 begun stage.desk.schedule) (λ begun machine. Q machine)
    (λ begun machine. TakesTurns 0 begun stage.desk.schedule × Q machine)
    took (at-run held stage P (λ begun machine. Q machine) is (λ begun machine holds. f machine holds)) (λ begun machine turns holds. (turns, holds))

-- at the limit a thread could go on
pub ends-full : {S K E : Type 0} (held : S → Option (List ℕ)) (stage : Stage S K E) (last thread steps : ℕ)
    → TookTurns held stage → OfMachine held stage (IsNextAfter last (Some thread)) → length stage.desk.schedule ≡ steps
    → TookAnd held stage (λ machine. IsFull steps (InTurn steps) machine stage.desk.schedule)
ends-full held stage last thread steps took nexts count =
    and-of held stage (IsNextAfter last (Some thread)) (λ machine. IsFull steps (InTurn steps) machine stage.desk.schedule) took nexts
    (λ machine next. record { limit = refl; full = count; thread = thread; can = next.0 })

-- no thread can go on, and the machine is over or stuck
pub ends-over : {S K E : Type 0} (held : S → Option (List ℕ)) (stage : Stage S K E) (code : ℕ)
    → TookTurns held stage → OfMachine held stage (λ machine. machine.shared.over ≡ Some code)
    → TookAnd held stage (λ machine. Unit {0} × (machine.shared.over ≡ Some code))
ends-over held stage code took over =
    and-of held stage (λ machine. machine.shared.over ≡ Some code) (λ machine. Unit {0} × (machine.shared.over ≡ Some code)) took over (λ machine is. (tt, is))

pub ends-stuck : {S K E : Type 0} (held : S → Option (List ℕ)) (stage : Stage S K E) (last steps : ℕ)
    → TookTurns held stage → OfMachine held stage (IsNextAfter last None) → OfMachine held stage (λ machine. machine.shared.over ≡ None)
    → TookAnd held stage (λ machine. IsSome (Some steps) × IsStuck machine)
ends-stuck held stage last steps took barred going =
    at-both held stage (λ begun machine. TakesTurns 0 begun stage.desk.schedule × ((number : ℕ) → IsBarred machine number))
    (λ begun machine. machine.shared.over ≡ None) (λ begun machine. TakesTurns 0 begun stage.desk.schedule × (IsSome (Some steps) × IsStuck machine))
    (and-of held stage (IsNextAfter last None) (λ machine. (number : ℕ) → IsBarred machine number) took barred (λ machine is. is))
    (at-run held stage (λ machine. machine.shared.over ≡ None) (λ begun machine. machine.shared.over ≡ None) going (λ begun machine is. is))
    (λ begun machine is over. (is.0, (refl, record { going = over; barred = is.1 })))

-- a thread that is next isn't refused
pub never-refused : {S K E : Type 0} (held : S → Option (List ℕ)) (stage : Stage S K E) (last thread : ℕ) (Q : Machine → Machine → Type 0)
    → OfMachine held stage (IsNextAfter last (Some thread)) → OfMachine held stage (λ machine. IsBarred machine thread) → AtRun held stage Q
never-refused held stage last thread Q nexts barred =
    at-both held stage (λ begun machine. CanStep machine thread) (λ begun machine. IsBarred machine thread) Q
    (at-run held stage (IsNextAfter last (Some thread)) (λ begun machine. CanStep machine thread) nexts (λ begun machine next. next.0))
    (at-run held stage (λ machine. IsBarred machine thread) (λ begun machine. IsBarred machine thread) barred (λ begun machine is. is))
    (λ begun machine can is. absurd (not_barred machine thread can is))

-- the thread that is next asks for a line
pub ends-reading : {S K E : Type 0} (held : S → Option (List ℕ)) (now new : Stage S K E) (last thread steps : ℕ)
    → SameBeginning now new → new.desk.schedule ≡ now.desk.schedule → last ≡ last_of 0 now.desk.schedule
    → OfMachine held now (IsNextAfter last (Some thread)) → OfMachine held now (AsksLine thread) → TookTurns held now
    → TookAnd held new (λ machine. StopsAtLine (InTurn steps) machine new.desk.schedule)
ends-reading held now new last thread steps same stays is nexts asks took =
    same-run-of held now new (λ taken begun machine. TakesTurns 0 begun taken × StopsAtLine (InTurn steps) machine taken) same stays
    (at-both held now (λ begun machine. TakesTurns 0 begun now.desk.schedule × IsNextAfter last (Some thread) machine)
    (λ begun machine. AsksLine thread machine)
    (λ begun machine. TakesTurns 0 begun now.desk.schedule × StopsAtLine (InTurn steps) machine now.desk.schedule)
    (and-of held now (IsNextAfter last (Some thread)) (IsNextAfter last (Some thread)) took nexts (λ machine next. next))
    (at-run held now (AsksLine thread) (λ begun machine. AsksLine thread machine) asks (λ begun machine line. line))
    (λ begun machine both line. (both.0, record { thread = thread; due = rw (← is) both.1; asks = line })))

-- a run that was cut off
pub ends-cut : {S K E : Type 0} (held : S → Option (List ℕ)) (stage : Stage S K E) → TookTurns held stage → TookAnd held stage (λ machine. Unit {0})
ends-cut held stage took =
    at-both held stage (λ begun machine. TakesTurns 0 begun stage.desk.schedule) (λ begun machine. TakesTurns 0 begun stage.desk.schedule)
    (λ begun machine. TakesTurns 0 begun stage.desk.schedule × Unit {0}) took took (λ begun machine turns again. (turns, tt))

-- ---- the loop ----

-- a system whose threads took this many turns
pub record IsTurning {S K E : Type 0} (held : S → Option (List ℕ)) (reads : S → ℕ) (faults : K → ℕ) (errors : E → ℕ) (old now : Stage S K E)
    (last count : ℕ) : Type 0 where
  pub counted : length now.desk.schedule ≡ count
  pub last_is : last ≡ last_of 0 now.desk.schedule
  pub took : TookTurns held now
  pub going : now.desk.kept ≡ None
  pub same : SameBeginning old now
  pub reads_steady : reads now.desk.devices.input ≡ reads old.desk.devices.input
  pub steady : faults now.desk.devices.output ≡ faults old.desk.devices.output
  pub errors_steady : errors now.desk.devices.errors ≡ errors old.desk.devices.errors
  pub no_output : count ≡ 0 → now.desk.devices.output ≡ old.desk.devices.output
  pub no_errors : count ≡ 0 → now.desk.devices.errors ≡ old.desk.devices.errors

-- no turn was taken at the start
pub none-took : {S K E : Type 0} (held : S → Option (List ℕ)) (stage : Stage S K E) → stage.desk.schedule ≡ [] → TookTurns held stage
none-took held stage fresh = of-any held stage (λ begun machine. TakesTurns 0 begun stage.desk.schedule) (λ begun machine. rw fresh turn.none)

pub length-more : (taken new : List ℕ) (thread count : ℕ) → length taken ≡ count → new ≡ taken ++ thread ∷ [] → length new ≡ count + 1
length-more taken new thread count counted is = rw is (omega (arith, counted, length-append taken (thread ∷ [])))

-- a step more is allowed, or none
pub within-more : (taken new : List ℕ) (thread count steps : ℕ) → length taken ≡ count → count + 1 ≤ steps
    → (new ≡ taken) ⊎ (new ≡ taken ++ thread ∷ []) → length new ≤ steps
within-more taken new thread count steps counted below (inl same) = rw same (omega (arith, counted, below))
within-more taken new thread count steps counted below (inr more) = omega (arith, below, length-more taken new thread count counted more)

-- what was not put if no step was taken
pub nothing-put-yet : {X : Type 0} (taken new : List ℕ) (thread count : ℕ) (old mid last : X) → length taken ≡ count
    → (new ≡ taken) ⊎ (new ≡ taken ++ thread ∷ []) → (new ≡ taken → last ≡ mid) → (count ≡ 0 → mid ≡ old) → new ≡ [] → last ≡ old
nothing-put-yet taken new thread count old mid last counted (inl same) stays before empty = stays same ∙ before (sym counted ∙ ap length (sym same ∙ empty))
nothing-put-yet taken new thread count old mid last counted (inr more) stays before empty = absurd (some-entry taken new thread more empty)

pub either-turns : {S K E : Type 0} (held : S → Option (List ℕ)) (now new : Stage S K E) (last thread : ℕ)
    → SameBeginning now new → (new.desk.schedule ≡ now.desk.schedule) ⊎ (new.desk.schedule ≡ now.desk.schedule ++ thread ∷ [])
    → last ≡ last_of 0 now.desk.schedule
    → OfMachine held now (IsNextAfter last (Some thread)) → TookTurns held now → TookTurns held new
either-turns held now new last thread same (inl steps) is nexts took = stay-turns held now new same steps took
either-turns held now new last thread same (inr steps) is nexts took = more-turns held now new last thread same steps is nexts took
