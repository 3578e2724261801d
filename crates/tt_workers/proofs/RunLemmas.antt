-- How a run begins, and what it leaves.
use Rattle.std.proofs.Common.{◌≡◌, ◌∙◌, ℕ, zero, suc, List, [], ◌∷◌, replicate, Option, Some, None, IfSome, arith, ap, refl, slice_get, sym, subst}
use Rattle.tt_calls.specs.declared.start.Start.TheVariants as start
use Rattle.laws_runs.proofs.Lawful.{lawful_law}
use Rattle.tt_core.proofs.ActionLemmas as actions
use Rattle.tt_core.proofs.ActionLemmas.{told-map}
use Rattle.tt_core.proofs.StepLemmas.{some-none}
use Rattle.tt_core.specs.Faithful.{IsFaithful, is_cut}
use Rattle.tt_core.specs.inside.Standing.{IsAt}
use Rattle.tt_run.specs.Desk.{Ground, input_left}
use Rattle.tt_run.specs.declared.fault.StepFault.{StepFault}
use Rattle.tt_devices.proofs.StreamLemmas.{Grows-same}
use Rattle.tt_devices.specs.declared.sink.Sink.{Ghosts as OfSink}
use Rattle.tt_devices.specs.declared.source.Source.{Ghosts as OfSource}
use Rattle.tt_machine.specs.Machine.{Machine, none, start_machine}
use Rattle.tt_shared.specs.State.{State, start_state}
use Rattle.tt_workers.proofs.WhereLemmas.{fresh-placed}
use Rattle.tt_workers.specs.Ends.{IsEnd, end_fault}
use Rattle.tt_workers.specs.Ran.{Beginning}
use Rattle.tt_workers.specs.inside.Places.{AreWhere, IsFreshPlace, Note, noted_in}
use Rattle.tt_workers.specs.Ran.{EndsInMachine, IsRan, end_or_memory}
use Rattle.tt_workers.specs.inside.World.{IsTied}
use Rattle.tt_workers.specs.declared.next.RunEnd.{RunEnd}
use Rattle.tt_workers.specs.declared.next.RunEnd.TheVariants as ends
use Rattle.tt_workers.specs.declared.place.Place.{Place}
use Rattle.tt_workers.specs.declared.ran.Ran.{Ran}

get-replicate : {X : Type 0} (count : ℕ) (x y : X) (index : ℕ) → slice_get (replicate count x) index ≡ Some y → y ≡ x
get-replicate zero x y index there = absurd (some-none (sym there))
get-replicate (suc count) x y zero there = cc there
get-replicate (suc count) x y (suc index) there = get-replicate count x y index there

noted-replicate : {S K E : Type 0} (count : ℕ) (begun : Beginning S K E) (index : ℕ)
    → noted_in (slice_get (replicate count (record { begun = begun; out = None })) index) ≡ None
noted-replicate zero begun index = refl
noted-replicate (suc count) begun zero = refl
noted-replicate (suc count) begun (suc index) = noted-replicate count begun index

module _ {S K E : Type 0} (source : OfSource S) (output : OfSink K) (errors : OfSink E) where
  -- a world that has just begun fits notes by which nobody is out
  pub begun-tied : (begun : Beginning S K E) (desk : Ground S K E) (places : List Place) (at : Place) (count : ℕ)
      → desk ≡ record {
        shared = start_state (start.Script begun.setup.script);
        schedule = [];
        devices = record { input = begun.devices.input; ahead = []; output = begun.devices.output; errors = begun.devices.errors };
        kept = None;
      }
      → places ≡ at ∷ []
      → IsFreshPlace begun.setup 1 (record { start = start.Script begun.setup.script; replies = [] }) at
      → IsTied source output errors (record { begun = begun; desk = desk; places = places; end = None })
      (replicate count (record { begun = begun; out = None }))
  begun-tied begun desk places at count is are fresh = record {
    same_run = λ index note there. ap (λ (n : Note S K E). n.begun) (get-replicate count (record { begun = begun; out = None }) note index there);
    counted = record {
      kept = rw is refl;
      within = rw is (omega arith);
      no_output = λ none. rw is refl;
      no_errors = λ none. rw is refl;
      reads = rw is refl;
      writes = (rw is refl, rw is refl);
    };
    standing = actions.begun source.held output.got errors.got begun.setup begun.devices.input begun.devices.output begun.devices.errors
        (AreWhere (replicate count (record { begun = begun; out = None })) places) desk is
        (λ bytes. record {
          placed = rw are (
            fresh-placed (replicate count (record { begun = begun; out = None })) begun.setup 1
                (record { start = start.Script begun.setup.script; replies = [] }) at fresh,
            tt,
          );
          out = λ index task there. absurd (some-none (sym there ∙ noted-replicate count begun index));
        });
  }

  -- ---- what is left ----

  -- what a kept end says
  end-true : (steps : ℕ) (schedule : List ℕ) (shared : State) (left : Option (List ℕ)) (end : RunEnd) (machine : Machine)
      → IsAt (end_fault end) shared left (IsEnd steps schedule end) machine → IsEnd steps schedule end machine
  end-true steps schedule shared left (ends.Over code) machine at = at.1
  end-true steps schedule shared left ends.Stuck machine at = at.1
  end-true steps schedule shared left ends.Limit machine at = at.1
  end-true steps schedule shared left ends.Read machine at = at.1
  end-true steps schedule shared left ends.Write machine at = tt
  end-true steps schedule shared left ends.Memory machine at = tt

  ends-of : (steps : ℕ) (schedule : List ℕ) (kept : Option StepFault) (shared : State) (left : Option (List ℕ)) (end : RunEnd) (machine : Machine)
      → kept ≡ end_fault end → IsAt kept shared left (IsEnd steps schedule end) machine → IsEnd steps schedule end machine
  ends-of steps schedule kept shared left end machine is at =
      end-true steps schedule shared left end machine (subst (λ (k : Option StepFault). IsAt k shared left (IsEnd steps schedule end) machine) is at)

  finished-some : (begun : Beginning S K E) (desk : Ground S K E) (places : List Place) (end : RunEnd) (notes : List (Note S K E)) (ran : Ran S K E)
      → ran.end ≡ end → ran.schedule.threads ≡ desk.schedule
      → (ran.input ≡ desk.devices.input) × (ran.output ≡ desk.devices.output) × (ran.errors ≡ desk.devices.errors)
      → IsTied source output errors (record { begun = begun; desk = desk; places = places; end = Some end }) notes
      → IsRan source output errors begun ran
  finished-some begun desk places end notes ran is schedule devices tied = record {
    within = rw schedule tied.counted.within;
    no_output = λ none. devices.1 ∙ tied.counted.no_output (sym schedule ∙ none);
    no_errors = λ none. devices.2 ∙ tied.counted.no_errors (sym schedule ∙ none);
    reads = rw (is, devices.0) tied.counted.reads;
    writes = rw (is, devices.1, devices.2) tied.counted.writes;
    in_machine = told-map (source.held begun.devices.input) _ _ tied.standing (λ bytes standing.
        let machine = standing.0 in
        record {
          machine = machine;
          runs = rw schedule standing.1.ran;
          faithful = rw (schedule, is, devices.1, devices.2)
              (subst (λ (kept : Option StepFault). IsFaithful (is_cut kept) (start_machine begun.setup bytes) desk.schedule
              (output.got begun.devices.output) (output.got desk.devices.output) (errors.got begun.devices.errors)
              (errors.got desk.devices.errors) machine) tied.counted.kept standing.1.faithful);
          ends = rw (schedule, is)
              (ends-of begun.steps desk.schedule desk.kept desk.shared (input_left source.held desk.devices) end machine tied.counted.kept standing.1.at);
          left = rw devices.0 standing.1.input;
        });
    lawful = lawful_law begun.setup ran.schedule.threads;
  }

  finished-none : (begun : Beginning S K E) (desk : Ground S K E) (places : List Place) (notes : List (Note S K E)) (ran : Ran S K E)
      → ran.end ≡ ends.Memory → ran.schedule.threads ≡ desk.schedule
      → (ran.input ≡ desk.devices.input) × (ran.output ≡ desk.devices.output) × (ran.errors ≡ desk.devices.errors)
      → IsTied source output errors (record { begun = begun; desk = desk; places = places; end = None }) notes
      → IsRan source output errors begun ran
  finished-none begun desk places notes ran is schedule devices tied = record {
    within = rw schedule tied.counted.within;
    no_output = λ none. devices.1 ∙ tied.counted.no_output (sym schedule ∙ none);
    no_errors = λ none. devices.2 ∙ tied.counted.no_errors (sym schedule ∙ none);
    reads = rw (is, devices.0) tied.counted.reads;
    writes = rw (is, devices.1, devices.2) tied.counted.writes;
    in_machine = told-map (source.held begun.devices.input) _ _ tied.standing (λ bytes standing.
        let machine = standing.0 in
        record {
          machine = machine;
          runs = rw schedule standing.1.ran;
          faithful = rw (schedule, is, devices.1, devices.2)
              (subst (λ (kept : Option StepFault). IsFaithful (is_cut kept) (start_machine begun.setup bytes) desk.schedule
              (output.got begun.devices.output) (output.got desk.devices.output) (errors.got begun.devices.errors)
              (errors.got desk.devices.errors) machine) tied.counted.kept standing.1.faithful);
          ends = rw is tt;
          left = rw devices.0 standing.1.input;
        });
    lawful = lawful_law begun.setup ran.schedule.threads;
  }

  pub finished : (begun : Beginning S K E) (desk : Ground S K E) (places : List Place) (end : Option RunEnd) (notes : List (Note S K E)) (ran : Ran S K E)
      → ran.end ≡ end_or_memory end → ran.schedule.threads ≡ desk.schedule
      → (ran.input ≡ desk.devices.input) × (ran.output ≡ desk.devices.output) × (ran.errors ≡ desk.devices.errors)
      → IsTied source output errors (record { begun = begun; desk = desk; places = places; end = end }) notes
      → IsRan source output errors begun ran
  finished begun desk places None notes ran is schedule devices tied = finished-none begun desk places notes ran is schedule devices tied
  finished begun desk places (Some end) notes ran is schedule devices tied = finished-some begun desk places end notes ran is schedule devices tied

  -- a run for which there was no memory
  pub no-memory : (begun : Beginning S K E) (ran : Ran S K E)
      → ran.end ≡ ends.Memory → ran.schedule.threads ≡ []
      → (ran.input ≡ begun.devices.input) × (ran.output ≡ begun.devices.output) × (ran.errors ≡ begun.devices.errors)
      → IsRan source output errors begun ran
  no-memory begun ran is schedule devices = record {
    within = rw schedule (omega arith);
    no_output = λ none. devices.1;
    no_errors = λ none. devices.2;
    reads = rw (is, devices.0) refl;
    writes = rw (is, devices.1, devices.2) (refl, refl);
    in_machine = by-told (source.held begun.devices.input) refl;
    lawful = lawful_law begun.setup ran.schedule.threads;
  }
    where
      by-told : (told : Option (List ℕ)) → source.held begun.devices.input ≡ told → IfSome told (λ bytes. EndsInMachine source output errors begun bytes ran)
      by-told None same = tt
      by-told (Some bytes) same = record {
        machine = start_machine begun.setup bytes;
        runs = rw schedule none;
        faithful = rw (schedule, is, devices.1, devices.2)
            (record { out = Grows-same (output.got begun.devices.output); err = Grows-same (errors.got begun.devices.errors) });
        ends = rw is tt;
        left = rw devices.0 (record { ahead = []; rest = bytes; tells = same; cut = refl });
      }
