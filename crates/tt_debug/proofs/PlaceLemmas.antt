-- A system at a place of a schedule.
use Rattle.std.proofs.Common.{◌≡◌, ◌∙◌, ◌<◌, ◌≤◌, ◌+◌, ◌⊎◌, inl, inr, ℕ, IsTrue, IsFalse, Bool, true, false, List, [], ◌∷◌, ◌++◌, length, take}
use Rattle.std.proofs.Common.{Option, Some, None, IfSome, ap, arith, refl, slice_index, subst, sym}
use Rattle.std.proofs.lemmas.List.{take_more}
use Rattle.tt_core.specs.Stage.{OfMachine, SameBeginning, Stage}
use Rattle.tt_debug.specs.Shown.{ComesTo, IsHeld, RunsTo, barred, ended}
use Rattle.tt_debug.specs.inside.Walking.{Goes, IsAt}
use Rattle.tt_devices.specs.Streams.{Grows}
use Rattle.tt_kept.specs.declared.setup.Setup.{Setup}
use Rattle.tt_machine.proofs.Steps.{one_more, same_run}
use Rattle.tt_machine.specs.Machine.{IsBarred, Machine, Runs, start_machine}
use Rattle.tt_machine.specs.RunActions.{StepsOrderly}

-- ---- the machine after the schedule ----

-- what follows of it from what holds, in its run
pub of-run : {S K E : Type 0} (held : S → Option (List ℕ)) (stage : Stage S K E) (P Q : Machine → Type 0)
    → OfMachine held stage P
    → ((input : List ℕ) (machine : Machine) → Runs (start_machine stage.setup input) stage.desk.schedule machine → P machine → Q machine)
    → OfMachine held stage Q
of-run held stage P Q is f = go (held stage.began.input) is
  where
    go : (told : Option (List ℕ))
        → IfSome told (λ input. (machine : Machine) × Runs (start_machine stage.setup input) stage.desk.schedule machine × P machine)
        → IfSome told (λ input. (machine : Machine) × Runs (start_machine stage.setup input) stage.desk.schedule machine × Q machine)
    go None is = tt
    go (Some input) is = (is.0, is.1, f input is.0 is.1 is.2)

-- what follows from two facts of it
pub of-both : {S K E : Type 0} (held : S → Option (List ℕ)) (stage : Stage S K E) (P Q R : Machine → Type 0)
    → OfMachine held stage P → OfMachine held stage Q → ((machine : Machine) → P machine → Q machine → R machine)
    → OfMachine held stage R
of-both held stage P Q R one other f = go (held stage.began.input) one other
  where
    go : (told : Option (List ℕ))
        → IfSome told (λ input. (machine : Machine) × Runs (start_machine stage.setup input) stage.desk.schedule machine × P machine)
        → IfSome told (λ input. (machine : Machine) × Runs (start_machine stage.setup input) stage.desk.schedule machine × Q machine)
        → IfSome told (λ input. (machine : Machine) × Runs (start_machine stage.setup input) stage.desk.schedule machine × R machine)
    go None one other = tt
    go (Some input) one other =
        let same : other.0 ≡ one.0 = same_run (start_machine stage.setup input) other.0 one.0 stage.desk.schedule other.1 one.1 in
        (one.0, one.1, f one.0 one.2 (subst Q same other.2))

-- ---- a place ----

-- the machine at a place, and what holds of it
pub record There (setup : Setup) (given : List ℕ) (place : ℕ) (P : Machine → Type 0) : Type 0 where
  pub machine : Machine
  pub ran : RunsTo setup given place machine
  pub fact : P machine

-- a system goes along a schedule
pub record IsGoing {S K E : Type 0} (held : S → Option (List ℕ)) (got_out : K → Option (List ℕ)) (got_err : E → Option (List ℕ))
    (given : List ℕ) (place : ℕ) (old now : Stage S K E) : Type 0 where
  pub at : IsAt held got_out got_err given place now
  pub same : SameBeginning old now

module _ {S K E : Type 0} (held : S → Option (List ℕ)) (got_out : K → Option (List ℕ)) (got_err : E → Option (List ℕ)) where
  pub there : (given : List ℕ) (place : ℕ) (stage : Stage S K E) (P : Machine → Type 0)
      → IsAt held got_out got_err given place stage → OfMachine held stage P → There stage.setup given place P
  there given place stage P at is = go (held stage.began.input) at.input is
    where
      go : (told : Option (List ℕ)) → told ≡ Some []
          → IfSome told (λ input. (machine : Machine) × Runs (start_machine stage.setup input) stage.desk.schedule machine × P machine)
          → There stage.setup given place P
      go None known is = absurd (cc known)
      go (Some input) known is =
          let none : input ≡ [] = cc known in
          let ran = subst (λ (bytes : List ℕ). Runs (start_machine stage.setup bytes) stage.desk.schedule is.0) none is.1 in
          record {
            machine = is.0;
            ran = subst (λ (steps : List ℕ). Runs (start_machine stage.setup []) steps is.0) at.taken ran;
            fact = is.2;
          }

  -- an entry is taken
  pub entered : (given : List ℕ) (place thread : ℕ) (old new : Stage S K E)
      → IsAt held got_out got_err given place old
      → place < length given → thread ≡ slice_index given place
      → SameBeginning old new → new.desk.schedule ≡ old.desk.schedule ++ thread ∷ [] → new.desk.kept ≡ None
      → OfMachine held old (StepsOrderly thread)
      → IsAt held got_out got_err given (place + 1) new
  entered given place thread old new at within is same more going orderly =
      let here = there given place old (StepsOrderly thread) at orderly in
      let next : take (place + 1) given ≡ take place given ++ thread ∷ [] = rw is (take_more given place 0 within) in
      let ran = one_more (start_machine old.setup []) here.machine here.fact.next (take place given) thread here.ran here.fact.steps in
      record {
        input = rw same.began at.input;
        output = rw same.began at.output;
        errors = rw same.began at.errors;
        taken = more ∙ (ap (λ (steps : List ℕ). steps ++ thread ∷ []) at.taken ∙ sym next);
        going = going;
        within = omega (arith, within);
        machine = here.fact.next;
        ran = rw (same.setup, next) ran;
      }

  -- it can't be taken
  pub kept-out : (given : List ℕ) (place thread : ℕ) (old new : Stage S K E)
      → IsAt held got_out got_err given place old → thread ≡ slice_index given place → new ≡ old
      → OfMachine held old (λ machine. IsBarred machine thread)
      → IsAt held got_out got_err given place new
      × ((machine : Machine) × RunsTo new.setup given place machine × IsBarred machine (slice_index given place))
  kept-out given place thread old new at is same bars =
      let here = there given place old (λ machine. IsBarred machine thread) at bars in
      rw same (at, (here.machine, here.ran, rw (← is) here.fact))

  pub kept-at : (given : List ℕ) (place : ℕ) (stage : Stage S K E) (went : Bool) → went ≡ false
      → Goes held got_out got_err went given place stage
      → IsAt held got_out got_err given place stage
      × ((machine : Machine) × RunsTo stage.setup given place machine × IsBarred machine (slice_index given place))
  kept-at given place stage true is goes = absurd (cc is)
  kept-at given place stage false is goes = goes

  -- it has come where it was to come
  pub come : (given : List ℕ) (wanted place : ℕ) (setup : Setup) (stage : Stage S K E)
      → IsAt held got_out got_err given place stage → stage.setup ≡ setup
      → (place ≡ wanted) ⊎ ((place < wanted) × (place ≡ length given))
      → ComesTo setup given wanted place
  come given wanted place setup stage at same end = record {
    machine = at.machine;
    within = at.within;
    ran = rw (← same) at.ran;
    stops = by-end end;
  }
    where
      by-end : (place ≡ wanted) ⊎ ((place < wanted) × (place ≡ length given))
          → (place ≡ wanted) ⊎ ((place < wanted) × IsHeld given place at.machine)
      by-end (inl is) = inl is
      by-end (inr (less, is)) = inr (less, ended is)

  -- it was kept from it
  pub come-less : (given : List ℕ) (wanted place : ℕ) (setup : Setup) (stage : Stage S K E)
      → IsAt held got_out got_err given place stage → stage.setup ≡ setup
      → place < wanted → place < length given
      → ((machine : Machine) × RunsTo stage.setup given place machine × IsBarred machine (slice_index given place))
      → ComesTo setup given wanted place
  come-less given wanted place setup stage at same less within bars = record {
    machine = bars.0;
    within = at.within;
    ran = rw (← same) bars.1;
    stops = inr (less, barred within bars.2);
  }

  -- ---- what sinks got ----

  grown : (old new : Option (List ℕ)) (bytes piece : List ℕ) → old ≡ Some [] → new ≡ Some bytes → Grows old new piece → bytes ≡ piece
  grown None new bytes piece none some grew = absurd (cc none)
  grown (Some xs) None bytes piece none some grew = absurd (cc some)
  grown (Some xs) (Some ys) bytes piece none some grew =
      let empty : xs ≡ [] = cc none in
      let whole : ys ≡ bytes = cc some in
      sym whole ∙ (grew ∙ ap (λ (front : List ℕ). front ++ piece) empty)

  -- they got what the machine wrote
  pub got-all : (given : List ℕ) (place : ℕ) (stage : Stage S K E) (out err : List ℕ)
      → IsAt held got_out got_err given place stage
      → got_out stage.desk.devices.output ≡ Some out → got_err stage.desk.devices.errors ≡ Some err
      → OfMachine held stage (λ machine. Grows (got_out stage.began.output) (got_out stage.desk.devices.output) machine.out)
      → OfMachine held stage (λ machine. Grows (got_err stage.began.errors) (got_err stage.desk.devices.errors) machine.err)
      → OfMachine held stage (λ machine. (out ≡ machine.out) × (err ≡ machine.err))
  got-all given place stage out err at some_out some_err wrote told =
      of-both held stage _ _ _ wrote told (λ machine one other. (
        grown (got_out stage.began.output) (got_out stage.desk.devices.output) out machine.out at.output some_out one,
        grown (got_err stage.began.errors) (got_err stage.desk.devices.errors) err machine.err at.errors some_err other,
      ))
