-- A world and its notes, as one turn changes them.
use Rattle.std.proofs.Common.{◌≡◌, ◌≢◌, ◌∙◌, ◌+◌, ◌-◌, ◌==◌, ◌<◌, ◌≤◌, ◌⊎◌, ℕ, zero, suc, Bool, true, false, IsTrue, IsFalse}
use Rattle.std.proofs.Common.{IsSome, List, [], ◌∷◌, ◌++◌, length, Option, Some, None, Result, Err, arith, ap, is_some, not, inl}
use Rattle.std.proofs.Common.{inr, refl, rules, slice_get, slice_set, sym, subst}
use Rattle.std.proofs.lemmas.List.{length-append}
use Rattle.tt_calls.specs.Numbers.{at_number}
use Rattle.tt_calls.specs.declared.reply.Reply.{Reply}
use Rattle.tt_calls.specs.declared.request.Request.{Request}
use Rattle.tt_core.proofs.ActionLemmas as actions
use Rattle.tt_core.proofs.ActionLemmas.{Failed, Stood, met, restood}
use Rattle.tt_core.proofs.StepLemmas.{able, AsksIn, barred-asking, could-be, some-none}
use Rattle.tt_core.proofs.PlaceLemmas.{each-at, each-none}
use Rattle.tt_core.specs.inside.Crew.{AsksNothing}
use Rattle.tt_core.specs.inside.Standing.{IsIts}
use Rattle.tt_run.specs.Acting.{Happens, IsAnswer}
use Rattle.tt_run.specs.Desk.{Ground, can_act, input_left}
use Rattle.tt_run.specs.declared.desk.Acted.{Acted}
use Rattle.tt_run.specs.declared.fault.StepFault.{StepFault}
use Rattle.tt_run.specs.declared.fault.StepFault.TheVariants as fault
use Rattle.tt_devices.specs.Faults.{Rises}
use Rattle.tt_devices.specs.Streams.{Grows}
use Rattle.tt_devices.specs.declared.sink.Sink.{Ghosts as OfSink}
use Rattle.tt_devices.specs.declared.source.Source.{Ghosts as OfSource}
use Rattle.tt_kept.specs.Beginning.{IsNext}
use Rattle.tt_interp.specs.Interps.{Interpreter, request_of, serving_of}
use Rattle.tt_lines.proofs.SourceLemmas.{loses-none}
use Rattle.tt_lines.specs.Lines.{reads_line}
use Rattle.tt_machine.specs.Machine.{IsBarred, IsStuck, Machine, Thread, silent}
use Rattle.tt_threads.specs.Rows.{is_living}
use Rattle.tt_shared.specs.Acts.{act}
use Rattle.tt_shared.specs.declared.applied.Line.{Line}
use Rattle.tt_workers.proofs.Lists.{place-before, get-set-other, got-set, not-empty, one-and-less, same-or-not}
use Rattle.tt_workers.proofs.WhereLemmas.{asks-parked, where-answered, where-back, where-fresh, where-vacant}
use Rattle.tt_workers.specs.Ends.{IsAtLine, IsEnd, end_fault}
use Rattle.tt_workers.specs.Ran.{Beginning}
use Rattle.tt_workers.specs.inside.Places.{AreWhere, IsGivenBy, IsAtPlace, Note, asked_at, can_go_at, is_fresh_at, noted_in}
use Rattle.tt_workers.specs.inside.Rosters.{HandsOut, HandsOutFresh, is_elsewhere_at, parked_at}
use Rattle.tt_workers.specs.inside.Rounds.{IsVacant, Replies}
use Rattle.tt_workers.specs.inside.Turns.{MayReturn, Returns}
use Rattle.tt_workers.specs.inside.World.{IsCounted, IsTied}
use Rattle.tt_workers.specs.declared.next.Done.{Done}
use Rattle.tt_workers.specs.declared.next.Resumption.TheVariants.{Halted}
use Rattle.tt_workers.specs.declared.next.RunEnd.{RunEnd}
use Rattle.tt_workers.specs.declared.next.RunEnd.TheVariants as ends
use Rattle.tt_workers.specs.declared.next.Task.{Task}
use Rattle.tt_workers.specs.declared.place.Place.{Place}
use Rattle.tt_workers.specs.declared.place.Place.TheVariants as place

same-pass : (other pass : ℕ) → IsFalse (not (other == pass)) → other ≡ pass
same-pass other pass nowhere = by-test (other == pass) refl nowhere
  where
    by-test : (b : Bool) → (other == pass) ≡ b → IsFalse (not b) → other ≡ pass
    by-test true is unequal = search (rules, arith)
    by-test false is unequal = absurd (not-both unequal)
      where
        not-both : true ≡ false → ⊥
        not-both is = cc

pub not-both : {b : Bool} → IsTrue b → IsFalse b → ⊥
not-both is also = cc

-- no end is kept
pub no-end : (end : Option RunEnd) → IsFalse (is_some end) → end ≡ None
no-end None none = refl
no-end (Some end) none = absurd (cc none)

-- the interpreter that a request is asked by
pub record IsParked (places : List Place) (number : ℕ) (request : Request) : Type 0 where
  pub interp : Interpreter
  pub found : at_number places number ≡ Some (place.Parked interp)
  pub asked : request ≡ request_of interp.standing

pub parked : (places : List Place) (number : ℕ) (request : Request) → Some request ≡ asked_at (at_number places number) → IsParked places number request
parked places number request is = by-place (at_number places number) refl is
  where
    by-place : (found : Option Place) → at_number places number ≡ found → Some request ≡ asked_at found → IsParked places number request
    by-place None at is = absurd (some-none is)
    by-place (Some (place.Fresh interp)) at is = absurd (some-none is)
    by-place (Some (place.Out pass)) at is = absurd (some-none is)
    by-place (Some place.Gone) at is = absurd (some-none is)
    by-place (Some (place.Parked interp)) at is = record { interp = interp; found = at; asked = cc is }

-- a thread that asks something is parked
pub asks-some : (places : List Place) (number : ℕ) → IsSome (asked_at (at_number places number)) → (request : Request) × IsParked places number request
asks-some places number some = by-asked (asked_at (at_number places number)) refl some
  where
    by-asked : (asked : Option Request) → asked ≡ asked_at (at_number places number) → IsSome asked → (request : Request) × IsParked places number request
    by-asked None is some = absurd (cc some)
    by-asked (Some request) is some = (request, parked places number request is)

-- what it asks can be answered
pub can-act : {S K E : Type 0} (desk : Ground S K E) (places : List Place) (number : ℕ) (request : Request)
    → (is : IsParked places number request) → IsTrue (can_go_at desk number (at_number places number)) → IsTrue (can_act desk number request)
can-act desk places number request is able =
    rw is.asked (subst (λ (found : Option Place). IsTrue (can_go_at desk number found)) is.found able)

-- who can go on and asks nothing is fresh
pub fresh-at : {S K E : Type 0} (desk : Ground S K E) (number : ℕ) (found : Option Place) (nothing : Option Request)
    → nothing ≡ None → nothing ≡ asked_at found → IsTrue (can_go_at desk number found) → IsTrue (is_fresh_at found)
fresh-at desk number None nothing is same able = absurd (cc able)
fresh-at desk number (Some (place.Fresh interp)) nothing is same able = refl
fresh-at desk number (Some (place.Parked interp)) nothing is same able = absurd (some-none (sym same ∙ is))
fresh-at desk number (Some (place.Out pass)) nothing is same able = absurd (cc able)
fresh-at desk number (Some place.Gone) nothing is same able = absurd (cc able)

module _ {S K E : Type 0} where
  -- the notes are of the run still
  same-run : (begun : Beginning S K E) (notes : List (Note S K E)) (i : ℕ) (note : Note S K E) → note.begun ≡ begun
      → ((index : ℕ) (one : Note S K E) → slice_get notes index ≡ Some one → one.begun ≡ begun)
      → (index : ℕ) (one : Note S K E) → slice_get (slice_set notes i note) index ≡ Some one → one.begun ≡ begun
  same-run begun notes i note is all index one there = by-case (same-or-not index i)
    where
      by-case : (index ≡ i) ⊎ (index ≢ i) → one.begun ≡ begun
      by-case (inl same) =
          let here = subst (λ (k : ℕ). slice_get (slice_set notes i note) k ≡ Some one) same there in
          ap (λ (n : Note S K E). n.begun) (got-set notes i note one here) ∙ is
      by-case (inr other) = all index one (sym (get-set-other notes i index note other) ∙ there)

  -- ---- nobody can go on ----

  by-place : (held : S → Option (List ℕ)) (desk : Ground S K E) (notes : List (Note S K E)) (places : List Place) (pass number : ℕ)
      (machine : Machine) (found : Option Place)
      → IsIts desk.shared (input_left held desk.devices) machine → AreWhere notes places machine
      → desk.kept ≡ None → noted_in (slice_get notes (pass - 1)) ≡ None
      → 1 ≤ number → slice_get places (number - 1) ≡ found
      → IsFalse (can_go_at desk number found) → IsFalse (is_elsewhere_at pass found)
      → IsBarred machine number
  by-place held desk notes places pass number machine None its are kept nobody above there unready nowhere =
      silent (λ request serving asks. unmade (sym (place-before machine.threads number above) ∙ asks.made))
    where
      unmade : {thread : Thread} → slice_get machine.threads (number - 1) ≡ Some thread → ⊥
      unmade is = some-none (sym is ∙ each-none (IsAtPlace notes machine.setup) 1 (number - 1) machine.threads places are.placed there)
  by-place held desk notes places pass number machine (Some (place.Fresh interp)) its are kept nobody above there unready nowhere = absurd (cc unready)
  by-place held desk notes places pass number machine (Some (place.Parked interp)) its are kept nobody above there unready nowhere =
      barred-asking held desk number (request_of interp.standing) (serving_of interp.standing) machine its kept
      (λ lives. asks-parked notes number places interp (place-before places number above ∙ there) machine are lives) unready
  by-place held desk notes places pass number machine (Some (place.Out other)) its are kept nobody above there unready nowhere =
      let one = each-at (IsAtPlace notes machine.setup) 1 (number - 1) machine.threads places (place.Out other) are.placed there in
      let same : other ≡ pass = same-pass other pass nowhere in
      absurd (subst (λ (out : Option Task). IsGivenBy out machine.setup (1 + (number - 1)) one.thread)
      (ap (λ (k : ℕ). noted_in (slice_get notes (k - 1))) same ∙ nobody) one.placed)
  by-place held desk notes places pass number machine (Some place.Gone) its are kept nobody above there unready nowhere =
      let one = each-at (IsAtPlace notes machine.setup) 1 (number - 1) machine.threads places place.Gone are.placed there in
      let quiet = subst (λ (n : ℕ). AsksNothing machine.setup n one.thread) (one-and-less number above) one.placed in
      silent (λ request serving asks.
      let same : one.thread ≡ asks.thread = let is = sym one.there ∙ (sym (place-before machine.threads number above) ∙ asks.made) in cc is in
      quiet request serving (subst (λ (thread : Thread). IsNext machine.setup number thread.start thread.replies request serving) (sym same) asks.next))

  pub stuck : (held : S → Option (List ℕ)) (desk : Ground S K E) (notes : List (Note S K E)) (places : List Place) (pass : ℕ) (machine : Machine)
      → IsIts desk.shared (input_left held desk.devices) machine → AreWhere notes places machine
      → desk.kept ≡ None → desk.shared.over ≡ None → noted_in (slice_get notes (pass - 1)) ≡ None
      → ((number : ℕ) → IsFalse (can_go_at desk number (at_number places number)))
      → ((number : ℕ) → IsFalse (is_elsewhere_at pass (at_number places number)))
      → IsStuck machine
  stuck held desk notes places pass machine its are kept going nobody unready nowhere = record {
    going = rw (← its.is_shared) going;
    barred = each;
  }
    where
      each : (number : ℕ) → IsBarred machine number
      each zero = silent (λ request serving asks. some-none (sym asks.made))
      each (suc k) = by-place held desk notes places pass (suc k) machine (slice_get places (suc k - 1)) its are kept nobody (omega arith) refl
          (subst (λ (found : Option Place). IsFalse (can_go_at desk (suc k) found)) (place-before places (suc k) (omega arith)) (unready (suc k)))
          (subst (λ (found : Option Place). IsFalse (is_elsewhere_at pass found)) (place-before places (suc k) (omega arith)) (nowhere (suc k)))

-- ---- counts ----

err-is : {T : Type 0} {result : Result T StepFault} {one other : StepFault} → result ≡ Err one → result ≡ Err other → one ≡ other
err-is is also = cc

module _ {S K E : Type 0} (source : OfSource S) (output : OfSink K) (errors : OfSink E) where
  abbrev Counted : Beginning S K E → Ground S K E → Option RunEnd → Type 0
  Counted begun desk end = IsCounted source output errors begun desk end

  -- an end without a fault
  counted-plain : (begun : Beginning S K E) (desk : Ground S K E) (end : RunEnd) → end_fault end ≡ None
      → Counted begun desk None → Counted begun desk (Some end)
  counted-plain begun desk (ends.Over code) plain is = record {
    kept = is.kept;
    within = is.within;
    no_output = is.no_output;
    no_errors = is.no_errors;
    reads = is.reads;
    writes = is.writes;
  }
  counted-plain begun desk ends.Stuck plain is = record {
    kept = is.kept;
    within = is.within;
    no_output = is.no_output;
    no_errors = is.no_errors;
    reads = is.reads;
    writes = is.writes;
  }
  counted-plain begun desk ends.Limit plain is = record {
    kept = is.kept;
    within = is.within;
    no_output = is.no_output;
    no_errors = is.no_errors;
    reads = is.reads;
    writes = is.writes;
  }
  counted-plain begun desk ends.Read plain is = absurd (some-none plain)
  counted-plain begun desk ends.Write plain is = absurd (some-none plain)
  counted-plain begun desk ends.Memory plain is = absurd (some-none plain)

  -- memory was refused elsewhere
  counted-memory : (begun : Beginning S K E) (old new : Ground S K E) → new ≡ record old { kept = Some fault.NoMemory }
      → Counted begun old None → Counted begun new (Some ends.Memory)
  counted-memory begun old new same is =
      subst (λ (desk : Ground S K E). Counted begun desk (Some ends.Memory)) (sym same)
      (record { kept = refl; within = is.within; no_output = is.no_output; no_errors = is.no_errors; reads = is.reads; writes = is.writes })

  -- the devices' counts of faults stayed
  pub record Steady (old new : Ground S K E) : Type 0 where
    pub of_input : source.fault_count new.devices.input ≡ source.fault_count old.devices.input
    pub of_output : output.fault_count new.devices.output ≡ output.fault_count old.devices.output
    pub of_errors : errors.fault_count new.devices.errors ≡ errors.fault_count old.devices.errors

  -- a step was taken
  counted-step : (begun : Beginning S K E) (old new : Ground S K E) (number : ℕ)
      → length old.schedule < begun.steps → new.schedule ≡ old.schedule ++ number ∷ [] → new.kept ≡ None → Steady old new
      → Counted begun old None → Counted begun new None
  counted-step begun old new number room entry goes steady is =
      let longer : length new.schedule ≡ length old.schedule + 1 = ap length entry ∙ length-append old.schedule (number ∷ []) in
      record {
        kept = goes;
        within = omega (arith, longer, room);
        no_output = λ none. absurd (not-empty old.schedule number (sym entry ∙ none));
        no_errors = λ none. absurd (not-empty old.schedule number (sym entry ∙ none));
        reads = steady.of_input ∙ is.reads;
        writes = (steady.of_output ∙ is.writes.0, steady.of_errors ∙ is.writes.1);
      }

  -- a fault or want of memory was met
  pub record FailsBy {T : Type 0} (old new : Ground S K E) (number : ℕ) (request : Request) (result : Result T StepFault) : Type 0 where
    pub failed : Failed source.held output.got errors.got old new number request result
    pub read_fault : result ≡ Err fault.ReadFault → old.kept ≡ None → Rises (source.fault_count old.devices.input) (source.fault_count new.devices.input)
    pub a_line : result ≡ Err fault.ReadFault → old.kept ≡ None → reads_line request ≡ true
    pub write_fault : result ≡ Err fault.WriteFault → old.kept ≡ None →
        Rises (output.fault_count old.devices.output) (output.fault_count new.devices.output)
        ⊎ Rises (errors.fault_count old.devices.errors) (errors.fault_count new.devices.errors)
    pub steady_input : (result ≢ Err fault.ReadFault) → source.fault_count new.devices.input ≡ source.fault_count old.devices.input
    pub steady_output : (result ≢ Err fault.WriteFault) → output.fault_count new.devices.output ≡ output.fault_count old.devices.output
    pub steady_errors : (result ≢ Err fault.WriteFault) → errors.fault_count new.devices.errors ≡ errors.fault_count old.devices.errors

  another : {T : Type 0} (result : Result T StepFault) (one other : StepFault) → result ≡ Err one → one ≢ other → result ≢ Err other
  another result one other is apart = λ also. apart (err-is is also)

  counted-fault : {T : Type 0} (begun : Beginning S K E) (old new : Ground S K E) (number : ℕ) (request : Request)
      (result : Result T StepFault) (is : StepFault) (end : RunEnd)
      → length old.schedule < begun.steps
      → result ≡ Err is → is ≢ fault.NotEnabled → end_fault end ≡ Some is
      → FailsBy old new number request result
      → Counted begun old None → Counted begun new (Some end)
  counted-fault begun old new number request result is (ends.Over code) room was other ended f counted = absurd (some-none (sym ended))
  counted-fault begun old new number request result is ends.Stuck room was other ended f counted = absurd (some-none (sym ended))
  counted-fault begun old new number request result is ends.Limit room was other ended f counted = absurd (some-none (sym ended))
  counted-fault {T = T} begun old new number request result is ends.Read room was other ended f counted =
      let same : fault.ReadFault ≡ is = cc ended in
      let at : result ≡ Err fault.ReadFault = was ∙ ap Err (sym same) in
      let nothing = f.failed.read_nothing at in
      let apart = another result fault.ReadFault fault.WriteFault at (λ one. cc) in
      record {
        kept = met source.held output.got errors.got new result fault.ReadFault f.failed.kept at (λ one. cc);
        within = rw nothing.schedule counted.within;
        no_output = λ none. nothing.output ∙ counted.no_output (sym nothing.schedule ∙ none);
        no_errors = λ none. nothing.errors ∙ counted.no_errors (sym nothing.schedule ∙ none);
        reads = subst (λ (n : ℕ). Rises n (source.fault_count new.devices.input)) counted.reads (f.read_fault at f.failed.nothing_met);
        writes = (f.steady_output apart ∙ counted.writes.0, f.steady_errors apart ∙ counted.writes.1);
      }
  counted-fault {T = T} begun old new number request result is ends.Write room was other ended f counted =
      let same : fault.WriteFault ≡ is = cc ended in
      let at : result ≡ Err fault.WriteFault = was ∙ ap Err (sym same) in
      let cut = f.failed.cut at f.failed.nothing_met in
      let longer : length new.schedule ≡ length old.schedule + 1 = ap length cut.1.entry ∙ length-append old.schedule (number ∷ []) in
      record {
        kept = met source.held output.got errors.got new result fault.WriteFault f.failed.kept at (λ one. cc);
        within = omega (arith, longer, room);
        no_output = λ none. absurd (not-empty old.schedule number (sym cut.1.entry ∙ none));
        no_errors = λ none. absurd (not-empty old.schedule number (sym cut.1.entry ∙ none));
        reads = f.steady_input (another result fault.WriteFault fault.ReadFault at (λ one. cc)) ∙ counted.reads;
        writes = rose (f.write_fault at f.failed.nothing_met);
      }
    where
      rose : Rises (output.fault_count old.devices.output) (output.fault_count new.devices.output)
          ⊎ Rises (errors.fault_count old.devices.errors) (errors.fault_count new.devices.errors)
          → Rises (output.fault_count begun.devices.output) (output.fault_count new.devices.output)
          ⊎ Rises (errors.fault_count begun.devices.errors) (errors.fault_count new.devices.errors)
      rose (inl more) = inl (subst (λ (n : ℕ). Rises n (output.fault_count new.devices.output)) counted.writes.0 more)
      rose (inr more) = inr (subst (λ (n : ℕ). Rises n (errors.fault_count new.devices.errors)) counted.writes.1 more)
  counted-fault {T = T} begun old new number request result is ends.Memory room was other ended f counted =
      let same : fault.NoMemory ≡ is = cc ended in
      let at : result ≡ Err fault.NoMemory = was ∙ ap Err (sym same) in
      let entry = f.failed.no_entry at in
      let piece = f.failed.no_piece at in
      let apart = another result fault.NoMemory fault.WriteFault at (λ one. cc) in
      record {
        kept = met source.held output.got errors.got new result fault.NoMemory f.failed.kept at (λ one. cc);
        within = rw entry counted.within;
        no_output = λ none. piece.0 ∙ counted.no_output (sym entry ∙ none);
        no_errors = λ none. piece.1 ∙ counted.no_errors (sym entry ∙ none);
        reads = f.steady_input (another result fault.NoMemory fault.ReadFault at (λ one. cc)) ∙ counted.reads;
        writes = (f.steady_output apart ∙ counted.writes.0, f.steady_errors apart ∙ counted.writes.1);
      }

  -- ---- a world and its notes ----

  -- no end is kept
  pub to-none : (begun : Beginning S K E) (desk : Ground S K E) (places : List Place) (end : Option RunEnd) (notes : List (Note S K E)) → end ≡ None
      → IsTied source output errors (record { begun = begun; desk = desk; places = places; end = end }) notes
      → IsTied source output errors (record { begun = begun; desk = desk; places = places; end = None }) notes
  to-none begun desk places end notes is tied =
      subst (λ (one : Option RunEnd). IsTied source output errors (record { begun = begun; desk = desk; places = places; end = one }) notes) is tied

  pub of-none : (begun : Beginning S K E) (desk : Ground S K E) (places : List Place) (end : Option RunEnd) (notes : List (Note S K E)) → end ≡ None
      → IsTied source output errors (record { begun = begun; desk = desk; places = places; end = None }) notes
      → IsTied source output errors (record { begun = begun; desk = desk; places = places; end = end }) notes
  of-none begun desk places end notes is tied =
      subst (λ (one : Option RunEnd). IsTied source output errors (record { begun = begun; desk = desk; places = places; end = one }) notes) (sym is) tied

  -- once an end is kept, only notes and places may change
  pub tied-ended : (begun : Beginning S K E) (desk : Ground S K E) (places later : List Place) (end : RunEnd) (notes : List (Note S K E))
      (i : ℕ) (out : Option Task)
      → IsTied source output errors (record { begun = begun; desk = desk; places = places; end = Some end }) notes
      → IsTied source output errors (record { begun = begun; desk = desk; places = later; end = Some end })
      (slice_set notes i (record { begun = begun; out = out }))
  tied-ended begun desk places later end notes i out tied = record {
    same_run = same-run begun notes i (record { begun = begun; out = out }) refl tied.same_run;
    counted = tied.counted;
    standing = tied.standing;
  }

  -- an end that is no fault is kept
  pub tied-stop : (begun : Beginning S K E) (desk : Ground S K E) (places : List Place) (end : RunEnd) (notes : List (Note S K E)) (i : ℕ) (out : Option Task)
      → end_fault end ≡ None
      → ((machine : Machine) → IsIts desk.shared (input_left source.held desk.devices) machine → AreWhere notes places machine
      → IsEnd begun.steps desk.schedule end machine)
      → IsTied source output errors (record { begun = begun; desk = desk; places = places; end = None }) notes
      → IsTied source output errors (record { begun = begun; desk = desk; places = places; end = Some end })
      (slice_set notes i (record { begun = begun; out = out }))
  tied-stop begun desk places end notes i out plain true_there tied = record {
    same_run = same-run begun notes i (record { begun = begun; out = out }) refl tied.same_run;
    counted = counted-plain begun desk end plain tied.counted;
    standing = restood source.held output.got errors.got begun.setup begun.devices desk (AreWhere notes places) (IsEnd begun.steps desk.schedule end)
        (λ machine same its are. true_there machine its are) tied.standing;
  }

  -- nobody goes out
  pub tied-vacant : (begun : Beginning S K E) (desk : Ground S K E) (places : List Place) (notes : List (Note S K E)) (pass : ℕ)
      → IsVacant notes pass
      → IsTied source output errors (record { begun = begun; desk = desk; places = places; end = None }) notes
      → IsTied source output errors (record { begun = begun; desk = desk; places = places; end = None })
      (slice_set notes (pass - 1) (record { begun = begun; out = None }))
  tied-vacant begun desk places notes pass vacant tied = record {
    same_run = same-run begun notes (pass - 1) (record { begun = begun; out = None }) refl tied.same_run;
    counted = tied.counted;
    standing = restood source.held output.got errors.got begun.setup begun.devices desk (AreWhere notes places)
        (AreWhere (slice_set notes (pass - 1) (record { begun = begun; out = None })) places)
        (λ machine same its are. where-vacant notes (pass - 1) vacant.note (record { begun = begun; out = None }) places machine
        vacant.noted vacant.empty refl are)
        tied.standing;
  }

  -- a fresh thread goes out
  pub tied-fresh : (begun : Beginning S K E) (desk : Ground S K E) (places later : List Place) (notes : List (Note S K E)) (pass number : ℕ) (task : Task)
      → 1 ≤ pass → IsVacant notes pass → HandsOutFresh number pass places later task
      → IsTied source output errors (record { begun = begun; desk = desk; places = places; end = None }) notes
      → IsTied source output errors (record { begun = begun; desk = desk; places = later; end = None })
      (slice_set notes (pass - 1) (record { begun = begun; out = Some task }))
  tied-fresh begun desk places later notes pass number task from vacant out tied = record {
    same_run = same-run begun notes (pass - 1) (record { begun = begun; out = Some task }) refl tied.same_run;
    counted = tied.counted;
    standing = restood source.held output.got errors.got begun.setup begun.devices desk (AreWhere notes places)
        (AreWhere (slice_set notes (pass - 1) (record { begun = begun; out = Some task })) later)
        (λ machine same its are. where-fresh notes pass number vacant.note (record { begun = begun; out = Some task }) places later task
        machine from vacant.noted vacant.empty refl out are)
        tied.standing;
  }

  -- a parked thread did its action
  pub tied-acted : (begun : Beginning S K E) (old new : Ground S K E) (places later : List Place) (notes : List (Note S K E))
      (pass number : ℕ) (request : Request) (interp : Interpreter) (did : Acted) (task : Option Task)
      → 1 ≤ pass → IsVacant notes pass → length old.schedule < begun.steps
      → at_number places number ≡ Some (place.Parked interp) → request ≡ request_of interp.standing
      → IsTrue (can_act old number request)
      → ((line : Line) × Happens source.held output.got errors.got Grows old number request line new × IsAnswer did (act old.shared number request line).gives)
      → new.kept ≡ None → Steady old new
      → Replies begun.setup new.shared.rows number pass did.reply places later task
      → IsTied source output errors (record { begun = begun; desk = old; places = places; end = None }) notes
      → IsTied source output errors (record { begun = begun; desk = new; places = later; end = None })
      (slice_set notes (pass - 1) (record { begun = begun; out = task }))
  tied-acted begun old new places later notes pass number request interp did task from vacant room found asked can happens goes steady replies tied = record {
    same_run = same-run begun notes (pass - 1) (record { begun = begun; out = task }) refl tied.same_run;
    counted = counted-step begun old new number room happens.1.entry goes steady tied.counted;
    standing =
        let reply = (act old.shared number request happens.0).gives.reply in
        let out = subst (λ (r : Reply). HandsOut number pass r places replies.mid task) happens.2.reply replies.out in
        let asks = subst (λ (one : Request). AsksIn (AreWhere notes places) number one (serving_of interp.standing)) (sym asked)
        (asks-parked notes number places interp found) in
        actions.acted source.held output.got errors.got begun.setup begun.devices old new number request (serving_of interp.standing) happens.0
        (AreWhere notes places) (AreWhere (slice_set notes (pass - 1) (record { begun = begun; out = task })) later) can asks happens.1 goes
        (where-answered begun.setup notes pass number vacant.note (record { begun = begun; out = task }) new.shared.rows reply places replies.mid later task
        from vacant.noted vacant.empty refl out replies.made) tied.standing;
  }

  -- it did, and then there was no memory
  pub tied-out-of-memory : (begun : Beginning S K E) (old new last : Ground S K E) (places later : List Place) (notes : List (Note S K E))
      (i number : ℕ) (request : Request) (interp : Interpreter) (did : Acted)
      → length old.schedule < begun.steps
      → at_number places number ≡ Some (place.Parked interp) → request ≡ request_of interp.standing
      → IsTrue (can_act old number request)
      → ((line : Line) × Happens source.held output.got errors.got Grows old number request line new × IsAnswer did (act old.shared number request line).gives)
      → new.kept ≡ None → Steady old new
      → last ≡ record new { kept = Some fault.NoMemory }
      → IsTied source output errors (record { begun = begun; desk = old; places = places; end = None }) notes
      → IsTied source output errors (record { begun = begun; desk = last; places = later; end = Some ends.Memory })
      (slice_set notes i (record { begun = begun; out = None }))
  tied-out-of-memory begun old new last places later notes i number request interp did room found asked can happens goes steady is_last tied = record {
    same_run = same-run begun notes i (record { begun = begun; out = None }) refl tied.same_run;
    counted = counted-memory begun new last is_last (counted-step begun old new number room happens.1.entry goes steady tied.counted);
    standing =
        let asks = subst (λ (one : Request). AsksIn (AreWhere notes places) number one (serving_of interp.standing)) (sym asked)
        (asks-parked notes number places interp found) in
        actions.acted-without-memory source.held output.got errors.got begun.setup begun.devices old new last number request
        (serving_of interp.standing) happens.0
        (AreWhere notes places) (IsEnd begun.steps last.schedule ends.Memory) can asks happens.1 is_last tied.standing;
  }

  -- the end by a fault or want of memory is true: of a failed read, that thread asks for a line
  fault-standing : {T : Type 0} (begun : Beginning S K E) (old new : Ground S K E) (places : List Place) (notes : List (Note S K E))
      (number : ℕ) (request : Request) (interp : Interpreter) (result : Result T StepFault) (is : StepFault) (end : RunEnd)
      → at_number places number ≡ Some (place.Parked interp) → request ≡ request_of interp.standing
      → result ≡ Err is → is ≢ fault.NotEnabled → end_fault end ≡ Some is
      → FailsBy old new number request result
      → Stood source.held output.got errors.got begun.setup begun.devices old (AreWhere notes places)
      → Stood source.held output.got errors.got begun.setup begun.devices new (IsEnd begun.steps new.schedule end)
  fault-standing begun old new places notes number request interp result is end found asked was other ended f stood = by-end end ended
    where
      asks : AsksIn (AreWhere notes places) number request (serving_of interp.standing)
      asks = subst (λ (one : Request). AsksIn (AreWhere notes places) number one (serving_of interp.standing)) (sym asked)
          (asks-parked notes number places interp found)

      failed : Stood source.held output.got errors.got begun.setup begun.devices new (AreWhere notes places)
      failed = actions.failed source.held output.got errors.got begun.setup begun.devices old new number request
          (serving_of interp.standing) (AreWhere notes places) result is asks was f.failed stood

      at-line : result ≡ Err fault.ReadFault → (machine : Machine) → IsIts old.shared (input_left source.held old.devices) machine
          → AreWhere notes places machine → IsAtLine machine
      at-line at machine its are =
          let can = able old number request (could-be old number request result fault.ReadFault f.failed.nothing_met f.failed.refused at (λ one. cc)) in
          let lives : IsTrue (is_living machine.shared.rows number) = rw (← its.is_shared) can.lives in
          record {
            number = number;
            asks = record {
              can = record {
                request = request;
                serving = serving_of interp.standing;
                going = rw (← its.is_shared) can.going;
                asks = asks machine are lives;
                enabled = rw (← its.is_shared) can.enabled;
              };
              line = f.a_line at f.failed.nothing_met;
            };
          }

      by-end : (one : RunEnd) → end_fault one ≡ Some is
          → Stood source.held output.got errors.got begun.setup begun.devices new (IsEnd begun.steps new.schedule one)
      by-end (ends.Over code) comes = absurd (some-none (sym comes))
      by-end ends.Stuck comes = absurd (some-none (sym comes))
      by-end ends.Limit comes = absurd (some-none (sym comes))
      by-end ends.Read comes =
          let same : fault.ReadFault ≡ is = cc comes in
          let at : result ≡ Err fault.ReadFault = was ∙ ap Err (sym same) in
          actions.failed-read source.held output.got errors.got begun.setup begun.devices old new (IsEnd begun.steps new.schedule ends.Read)
          f.failed.nothing_met (met source.held output.got errors.got new result fault.ReadFault f.failed.kept at (λ one. cc))
          (f.failed.read_nothing at) f.failed.taken
          (restood source.held output.got errors.got begun.setup begun.devices old (AreWhere notes places) (IsEnd begun.steps new.schedule ends.Read)
          (λ machine same_setup its are. at-line at machine its are) stood)
      by-end ends.Write comes =
          restood source.held output.got errors.got begun.setup begun.devices new (AreWhere notes places) (IsEnd begun.steps new.schedule ends.Write)
          (λ machine same_setup its are. tt) failed
      by-end ends.Memory comes =
          restood source.held output.got errors.got begun.setup begun.devices new (AreWhere notes places) (IsEnd begun.steps new.schedule ends.Memory)
          (λ machine same_setup its are. tt) failed

  -- it met a fault or want of memory
  pub tied-fault : {T : Type 0} (begun : Beginning S K E) (old new : Ground S K E) (places later : List Place) (notes : List (Note S K E))
      (i number : ℕ) (request : Request) (interp : Interpreter) (result : Result T StepFault) (is : StepFault) (end : RunEnd)
      → length old.schedule < begun.steps
      → at_number places number ≡ Some (place.Parked interp) → request ≡ request_of interp.standing
      → result ≡ Err is → is ≢ fault.NotEnabled → end_fault end ≡ Some is
      → FailsBy old new number request result
      → IsTied source output errors (record { begun = begun; desk = old; places = places; end = None }) notes
      → IsTied source output errors (record { begun = begun; desk = new; places = later; end = Some end })
      (slice_set notes i (record { begun = begun; out = None }))
  tied-fault begun old new places later notes i number request interp result is end room found asked was other ended f tied = record {
    same_run = same-run begun notes i (record { begun = begun; out = None }) refl tied.same_run;
    counted = counted-fault begun old new number request result is end room was other ended f tied.counted;
    standing = fault-standing begun old new places notes number request interp result is end found asked was other ended f tied.standing;
  }

  -- a thread comes back
  pub tied-back : (begun : Beginning S K E) (desk : Ground S K E) (places : List Place) (notes : List (Note S K E)) (pass : ℕ) (done : Done)
      → Returns notes pass (Some done) → done.resumption ≡ Halted
      → IsTied source output errors (record { begun = begun; desk = desk; places = places; end = None }) notes
      → IsTied source output errors (record { begun = begun; desk = desk; places = parked_at places done.thread done.interp; end = None })
      (slice_set notes (pass - 1) (record { begun = begun; out = None }))
  tied-back begun desk places notes pass done returns halted tied = by-out returns.note.out refl returns.may
    where
      by-out : (out : Option Task) → returns.note.out ≡ out → MayReturn out (Some done)
          → IsTied source output errors
          (record { begun = begun; desk = desk; places = parked_at places done.thread done.interp; end = None })
          (slice_set notes (pass - 1) (record { begun = begun; out = None }))
      by-out None is may = absurd may
      by-out (Some task) is may = record {
        same_run = same-run begun notes (pass - 1) (record { begun = begun; out = None }) refl tied.same_run;
        counted = tied.counted;
        standing = restood source.held output.got errors.got begun.setup begun.devices desk (AreWhere notes places)
            (AreWhere (slice_set notes (pass - 1) (record { begun = begun; out = None })) (parked_at places done.thread done.interp))
            (λ machine same its are. where-back notes (pass - 1) returns.note (record { begun = begun; out = None }) places task done
            machine returns.noted is refl may halted are)
            tied.standing;
      }

  -- it comes back without memory
  pub tied-back-empty : (begun : Beginning S K E) (old new : Ground S K E) (places later : List Place) (notes : List (Note S K E)) (i : ℕ)
      → new ≡ record old { kept = Some fault.NoMemory }
      → IsTied source output errors (record { begun = begun; desk = old; places = places; end = None }) notes
      → IsTied source output errors (record { begun = begun; desk = new; places = later; end = Some ends.Memory })
      (slice_set notes i (record { begun = begun; out = None }))
  tied-back-empty begun old new places later notes i is tied = record {
    same_run = same-run begun notes i (record { begun = begun; out = None }) refl tied.same_run;
    counted = counted-memory begun old new is tied.counted;
    standing = actions.without-memory source.held output.got errors.got begun.setup begun.devices old new (AreWhere notes places)
        (IsEnd begun.steps new.schedule ends.Memory)
        tied.counted.kept (rw is refl) (rw is refl) (rw is refl) (rw is refl) (rw is (loses-none (source.held old.devices.input))) tied.standing;
  }
