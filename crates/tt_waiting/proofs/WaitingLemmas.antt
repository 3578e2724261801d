-- The list of the threads that wait in a system, as it grows thread by thread.
use Rattle.std.proofs.Common.{◌≡◌, ◌∙◌, ◌≤◌, ◌+◌, ◌-◌, ◌==◌, ℕ, zero, suc, Bool, true, false, IsTrue, IsFalse, List, [], ◌∷◌, ◌++◌, length}
use Rattle.std.proofs.Common.{Option, Some, None, IfSome, if◌then◌else◌, add-one, append-nil, ap, arith, option_to_list, refl, slice_get, subst, sym}
use Rattle.std.proofs.lemmas.Bool.Decides.{nat_tests}
use Rattle.tt_calls.specs.declared.request.Request.{Request}
use Rattle.tt_core.specs.Stage.{OfMachine, Stage}
use Rattle.tt_core.specs.Telling.{IsAsking, IsSilent}
use Rattle.tt_machine.proofs.Steps.{same_request, same_run}
use Rattle.tt_machine.proofs.WaitingLists.{none_waits, one_more_goes, one_more_waits, over_waits, waiting_at}
use Rattle.tt_machine.specs.Machine.{CanStep, IsBarred, Machine, Runs, over, silent, start_machine, waits}
use Rattle.tt_machine.specs.Waiting.{AreWaiting, AreWaitingUpTo, HasToWait}
use Rattle.tt_reports.specs.WaitsText.{IsWaitsText}
use Rattle.tt_shared.specs.Blocking.{blockers}
use Rattle.tt_shared.specs.Enabled.{enabled}
use Rattle.tt_shared.specs.State.{State}
use Rattle.tt_threads.specs.Rows.{is_living, is_living_at}
use Rattle.tt_threads.specs.declared.row.Row.{Row}
use Rattle.tt_waiting.specs.Report.{IsWaitsReport}
use Rattle.tt_waiting.specs.inside.One.{IsOneWaiting}
use Rattle.tt_waits.specs.Waiting.{Waiting}

-- ---- the machine after the schedule ----

-- what follows of it from what holds
pub of-one : {S K E : Type 0} (held : S → Option (List ℕ)) (stage : Stage S K E) (P Q : Machine → Type 0)
    → OfMachine held stage P → ((machine : Machine) → P machine → Q machine) → OfMachine held stage Q
of-one held stage P Q is f = go (held stage.began.input) is
  where
    go : (told : Option (List ℕ))
        → IfSome told (λ input. (machine : Machine) × Runs (start_machine stage.setup input) stage.desk.schedule machine × P machine)
        → IfSome told (λ input. (machine : Machine) × Runs (start_machine stage.setup input) stage.desk.schedule machine × Q machine)
    go None is = tt
    go (Some input) is = (is.0, is.1, f is.0 is.2)

-- what follows from two facts of it
pub of-both : {S K E : Type 0} (held : S → Option (List ℕ)) (stage : Stage S K E) (P Q R : Machine → Type 0)
    → OfMachine held stage P → OfMachine held stage Q → ((machine : Machine) → P machine → Q machine → R machine)
    → OfMachine held stage R
of-both held stage P Q R one other f = go (held stage.began.input) one other
  where
    go : (told : Option (List ℕ))
        → IfSome told (λ input. (machine : Machine) × Runs (start_machine stage.setup input) stage.desk.schedule machine × P machine)
        → IfSome told (λ input. (machine : Machine) × Runs (start_machine stage.setup input) stage.desk.schedule machine × Q machine)
        → IfSome told (λ input. (machine : Machine) × Runs (start_machine stage.setup input) stage.desk.schedule machine × R machine)
    go None one other = tt
    go (Some input) one other =
        let same : other.0 ≡ one.0 = same_run (start_machine stage.setup input) other.0 one.0 stage.desk.schedule other.1 one.1 in
        (one.0, one.1, f one.0 one.2 (subst Q same other.2))

-- ---- one machine ----

none-some : {X : Type 0} {found : Option X} {x : X} → found ≡ None → found ≡ Some x → ⊥
none-some is also = cc

not-both : {b : Bool} → b ≡ true → b ≡ false → ⊥
not-both is also = cc

got-within : (rows : List Row) (i : ℕ) → IsTrue (is_living_at (slice_get rows i)) → suc i ≤ length rows
got-within [] i lives = absurd (cc lives)
got-within (one ∷ rows) zero lives = omega arith
got-within (one ∷ rows) (suc i) lives = let within = got-within rows i lives in omega (arith, within)

-- a thread that lives has a row
lives-within : (rows : List Row) (number : ℕ) → IsTrue (is_living rows number) → number ≤ length rows
lives-within rows number = go (number == 0) refl
  where
    go : (b : Bool) → (number == 0) ≡ b → IsTrue (is_living_at (if b then None else slice_get rows (number - 1))) → number ≤ length rows
    go true nought lives = absurd (cc lives)
    go false other lives =
        let within = got-within rows (number - 1) lives in
        grind (arith, nat_tests, within, other)

-- all threads were gone through
all-gone : (machine : Machine) (last : ℕ) (waiting : List Waiting) → length machine.shared.rows ≤ last
    → AreWaitingUpTo machine last waiting → AreWaiting machine waiting
all-gone machine last waiting many are = record {
  by_number = are.by_number;
  exactly = λ one. (λ has. ((are.exactly one).0 has).0, λ has. (are.exactly one).1 (has, low one has));
}
  where
    low : (one : Waiting) → HasToWait machine one.thread one.others → one.thread ≤ last
    low one has = let within = lives-within machine.shared.rows one.thread has.asks.lives in omega (arith, within, many)

-- the list with what a thread adds
one-more : (machine : Machine) (before : ℕ) (old : List Waiting) (last : Option Waiting) → AreWaitingUpTo machine before old
    → IsOneWaiting (before + 1) last machine → AreWaitingUpTo machine (before + 1) (old ++ option_to_list last)
one-more machine before old None are goes =
    subst (AreWaitingUpTo machine (before + 1)) (sym (append-nil old))
    (one_more_goes machine before (before + 1) old (add-one before) are goes)
one-more machine before old (Some one) are has =
    subst (λ (new : Waiting). AreWaitingUpTo machine (before + 1) (old ++ new ∷ []))
    (ap (λ (thread : ℕ). waiting_at thread one.others) (sym has.0))
    (one_more_waits machine before (before + 1) one.others old (add-one before) are has.1)

-- one that doesn't live has not to wait
dead-goes : (machine : Machine) (number : ℕ) → IsFalse (is_living machine.shared.rows number) → IsOneWaiting number None machine
dead-goes machine number dead others has = not-both has.asks.lives dead

-- nor has one that can take a step
can-goes : (machine : Machine) (number : ℕ) → CanStep machine number → IsOneWaiting number None machine
can-goes machine number can others has =
    let same = same_request machine number has.request can.request has.serving can.serving has.asks can.asks in
    not-both can.enabled (subst (λ (request : Request). IsFalse (enabled machine.shared number request)) same has.not_enabled)

-- one that is barred from what it asks waits
has-to : (machine : Machine) (number : ℕ) (request : Request) (others : List ℕ) → machine.shared.over ≡ None
    → IsAsking number request machine → IsBarred machine number → others ≡ blockers machine.shared number request
    → HasToWait machine number others
has-to machine number request others going asking (over is) are = absurd (none-some going is)
has-to machine number request others going asking (silent never) are = absurd (never request asking.serving asking.asks)
has-to machine number request others going asking (waits {request = other} {serving = during} also unable) are =
    let same = same_request machine number request other asking.serving during asking.asks also in
    record {
      request = request;
      serving = asking.serving;
      going = going;
      asks = asking.asks;
      not_enabled = subst (λ (asked : Request). IsFalse (enabled machine.shared number asked)) (sym same) unable;
      are = are;
    }

-- ---- a system ----

module _ {S K E : Type 0} (held : S → Option (List ℕ)) (stage : Stage S K E) where
  -- one thread

  pub dead : (number : ℕ) (shared : State) → IsFalse (is_living shared.rows number)
      → OfMachine held stage (λ machine. machine.shared ≡ shared) → OfMachine held stage (IsOneWaiting number None)
  dead number shared lives same = of-one held stage _ _ same (λ machine is.
      dead-goes machine number (subst (λ (state : State). IsFalse (is_living state.rows number)) (sym is) lives))

  pub asks-nothing : (number : ℕ) → OfMachine held stage (IsSilent number) → OfMachine held stage (IsOneWaiting number None)
  asks-nothing number nothing = of-one held stage _ _ nothing (λ machine never others has. never has.request has.serving has.asks)

  pub able : (number : ℕ) → OfMachine held stage (λ machine. CanStep machine number) → OfMachine held stage (IsOneWaiting number None)
  able number could = of-one held stage _ _ could (λ machine can. can-goes machine number can)

  pub unable : (number : ℕ) (request : Request) (shared : State) (one : Waiting) → one.thread ≡ number
      → one.others ≡ blockers shared number request
      → OfMachine held stage (λ machine. machine.shared.over ≡ None)
      → OfMachine held stage (λ machine. machine.shared ≡ shared)
      → OfMachine held stage (IsAsking number request) → OfMachine held stage (λ machine. IsBarred machine number)
      → OfMachine held stage (IsOneWaiting number (Some one))
  unable number request shared one is are going same asking bars =
      let both = of-both held stage (λ machine. machine.shared.over ≡ None) (λ machine. machine.shared ≡ shared)
      (λ machine. (machine.shared.over ≡ None) × (machine.shared ≡ shared)) going same (λ machine one other. (one, other)) in
      let also = of-both held stage (IsAsking number request) (λ machine. IsBarred machine number)
      (λ machine. IsAsking number request machine × IsBarred machine number) asking bars (λ machine one other. (one, other)) in
      of-both held stage _ _ _ both also (λ machine facts asked. (
        is,
        has-to machine number request one.others facts.0 asked.0 asked.1
            (are ∙ ap (λ (state : State). blockers state number request) (sym facts.1)),
      ))

  -- no thread yet
  pub none : OfMachine held stage (λ machine. machine.shared.over ≡ None) → OfMachine held stage (λ machine. AreWaitingUpTo machine 0 [])
  none going = of-one held stage _ _ going (λ machine is. none_waits machine)

  -- one thread more
  pub more : (before : ℕ) (old new : List Waiting) (last : Option Waiting)
      → OfMachine held stage (λ machine. AreWaitingUpTo machine before old) → new ≡ old ++ option_to_list last
      → OfMachine held stage (IsOneWaiting (before + 1) last)
      → OfMachine held stage (λ machine. AreWaitingUpTo machine (before + 1) new)
  more before old new last are is one = of-both held stage _ _ _ are one (λ machine old_are is_one.
      subst (AreWaitingUpTo machine (before + 1)) (sym is) (one-more machine before old last old_are is_one))

  -- all of them
  pub all : (count : ℕ) (shared : State) (waiting : List Waiting)
      → OfMachine held stage (λ machine. AreWaitingUpTo machine count waiting)
      → OfMachine held stage (λ machine. machine.shared ≡ shared) → count ≡ length shared.rows
      → OfMachine held stage (λ machine. AreWaiting machine waiting)
  all count shared waiting are same is = of-both held stage _ _ _ are same (λ machine up_to shares.
      let many : count ≡ length machine.shared.rows = is ∙ ap (λ (state : State). length state.rows) (sym shares) in
      all-gone machine count waiting (let also = many in omega (arith, also)) up_to)

  -- none waits when the run is over
  pub when-over : (code : Option ℕ) (last : ℕ) → code ≡ Some last → OfMachine held stage (λ machine. machine.shared.over ≡ code)
      → OfMachine held stage (λ machine. AreWaiting machine [])
  when-over code last is ends = of-one held stage _ _ ends (λ machine ended. over_waits machine last (ended ∙ is))

  -- the report on them
  pub reported : (waiting : List Waiting) (text : List ℕ) → IsWaitsText waiting text
      → OfMachine held stage (λ machine. AreWaiting machine waiting) → OfMachine held stage (IsWaitsReport text)
  reported waiting text is are = of-one held stage _ _ are (λ machine all. record { waiting = waiting; are = all; is_text = is })
