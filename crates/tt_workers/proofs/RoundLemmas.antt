-- What each round of a turn does.
use Rattle.std.proofs.Common.{◌≡◌, ◌≢◌, ◌∙◌, ◌+◌, ◌-◌, ◌==◌, ◌<◌, ◌≤◌, ◌⊎◌, ℕ, suc, Bool, true, false, IsTrue, IsFalse, List, []}
use Rattle.std.proofs.Common.{◌∷◌, ◌++◌, length, Option, Some, None, Result, Err, arith, ap, inl, inr, is_some, not, refl, rules}
use Rattle.std.proofs.Common.{slice_get, slice_set, sym}
use Rattle.std.proofs.lemmas.List.{length-append}
use Rattle.tt_calls.specs.Numbers.{at_number}
use Rattle.tt_calls.specs.declared.reply.Reply.{Reply}
use Rattle.tt_calls.specs.declared.request.Request.{Request}
use Rattle.tt_core.proofs.ActionLemmas.{met}
use Rattle.tt_core.proofs.StepLemmas.{able, can-go, some-none}
use Rattle.tt_run.specs.Acting.{Happens, IsAnswer}
use Rattle.tt_run.specs.Desk.{Ground}
use Rattle.tt_run.specs.declared.desk.Acted.{Acted}
use Rattle.tt_run.specs.declared.fault.StepFault.{StepFault}
use Rattle.tt_run.specs.declared.fault.StepFault.TheVariants as fault
use Rattle.tt_devices.specs.Streams.{Grows}
use Rattle.tt_devices.specs.declared.sink.Sink.{Ghosts as OfSink}
use Rattle.tt_devices.specs.declared.source.Source.{Ghosts as OfSource}
use Rattle.tt_interp.specs.Interps.{serving_of}
use Rattle.tt_machine.specs.Machine.{ThreadAsks}
use Rattle.tt_threads.specs.Rows.{is_living}
use Rattle.tt_shared.specs.Acts.{act}
use Rattle.tt_shared.specs.declared.applied.Line.{Line}
use Rattle.tt_workers.proofs.Lists.{place-before, from-one, get-append, get-set-same}
use Rattle.tt_workers.proofs.TieLemmas.{FailsBy, IsParked, Steady, can-act, of-none, stuck, tied-acted, tied-back}
use Rattle.tt_workers.proofs.TieLemmas.{tied-back-empty, tied-ended, tied-fault, tied-fresh, tied-out-of-memory, tied-stop}
use Rattle.tt_workers.proofs.TieLemmas.{to-none}
use Rattle.tt_workers.proofs.WhereLemmas.{asks-parked}
use Rattle.tt_workers.proofs.TurnLemmas.{not-ended, part-same, stays-same, tied-quiet, whole-part}
use Rattle.tt_workers.specs.Ends.{fault_so_far, end_fault}
use Rattle.tt_workers.specs.Ran.{Beginning}
use Rattle.tt_workers.specs.inside.Places.{Note, can_go, noted_in}
use Rattle.tt_workers.specs.inside.Rosters.{HandsOutFresh, is_elsewhere_at, parked_at}
use Rattle.tt_workers.specs.inside.Rounds.{IsVacant, KeepsVacant, Replies, Rounds, TakesBack}
use Rattle.tt_core.specs.Parts.{IsFirstPart}
use Rattle.tt_workers.specs.inside.World.{IsTied, Realm}
use Rattle.tt_workers.specs.declared.next.Done.{Done}
use Rattle.tt_workers.specs.declared.next.Resumption.TheVariants.{Halted}
use Rattle.tt_workers.specs.declared.next.Next.TheVariants as next
use Rattle.tt_workers.specs.declared.next.RunEnd.{RunEnd}
use Rattle.tt_workers.specs.declared.next.RunEnd.TheVariants as ends
use Rattle.tt_workers.specs.declared.next.Task.{Task}
use Rattle.tt_workers.specs.declared.place.Place.{Place}
use Rattle.tt_workers.specs.declared.place.Place.TheVariants as place

-- ---- lists ----

longer-by : (old new : List ℕ) (number : ℕ) → new ≡ old ++ number ∷ [] → length new ≡ suc (length old)
longer-by old new number is = let count : length new ≡ length old + 1 = ap length is ∙ length-append old (number ∷ []) in omega (arith, count)

part-by : (old new : List ℕ) (number : ℕ) → new ≡ old ++ number ∷ [] → IsFirstPart old new
part-by old new number is = record { rest = number ∷ []; cut = is }

none-left : (end : RunEnd) → Some end ≢ None
none-left end is = some-none is

elsewhere : (places : List Place) (pass number : ℕ) (found : Option Place) → at_number places number ≡ found → IsTrue (is_elsewhere_at pass found)
    → (other : ℕ) × (other ≢ pass) × (at_number places number ≡ Some (place.Out other))
elsewhere places pass number None at is = absurd (cc is)
elsewhere places pass number (Some (place.Fresh interp)) at is = absurd (cc is)
elsewhere places pass number (Some (place.Parked interp)) at is = absurd (cc is)
elsewhere places pass number (Some place.Gone) at is = absurd (cc is)
elsewhere places pass number (Some (place.Out other)) at is = (other, apart, at)
  where
    apart : other ≢ pass
    apart same = not-both (other == pass) (search (rules, arith)) is
      where
        not-both : (b : Bool) → IsTrue b → IsTrue (not b) → ⊥
        not-both true one other = cc
        not-both false one other = cc

out-at : (places later : List Place) (number pass : ℕ) (was : Place) → at_number places number ≡ Some was
    → later ≡ slice_set places (number - 1) (place.Out pass) → at_number later number ≡ Some (place.Out pass)
out-at places later number pass was found put =
    let above = from-one places number was found in
    let there = sym (place-before places number above) ∙ found in
    place-before later number above ∙ rw put (get-set-same places (number - 1) (place.Out pass) was there)

nobody : {S K E : Type 0} (notes : List (Note S K E)) (pass : ℕ) → IsVacant notes pass → noted_in (slice_get notes (pass - 1)) ≡ None
nobody notes pass vacant = ap noted_in vacant.noted ∙ vacant.empty

module _ {S K E : Type 0} where
  -- an end is kept already
  pub rounds-ended : (pass : ℕ) (world : Realm S K E) → IsTrue (is_some world.end) → world.desk.kept ≡ fault_so_far world.end
      → length world.desk.schedule ≤ world.begun.steps
      → Rounds pass world world (Some next.Over)
  rounds-ended pass world some kept within = record {
    begun = refl;
    kept = kept;
    longer = whole-part world.desk.schedule;
    within = within;
    ended = λ is. stays-same world;
    goes = (tt, some-end world.end some);
  }
    where
      some-end : (end : Option RunEnd) → IsTrue (is_some end) → end ≢ None
      some-end None some = absurd (cc some)
      some-end (Some end) some = none-left end

  -- an end is kept from now on
  pub rounds-end : (pass : ℕ) (begun : Beginning S K E) (old new : Ground S K E) (places later : List Place) (was : Option RunEnd) (end : RunEnd)
      → was ≡ None → new.kept ≡ end_fault end → IsFirstPart old.schedule new.schedule → length new.schedule ≤ begun.steps
      → Rounds pass (record { begun = begun; desk = old; places = places; end = was })
      (record { begun = begun; desk = new; places = later; end = Some end }) (Some next.Over)
  rounds-end pass begun old new places later was end none kept longer within = record {
    begun = refl;
    kept = kept;
    longer = longer;
    within = within;
    ended = λ is. not-ended was _ none is;
    goes = (tt, none-left end);
  }

  -- the worker rests
  pub rounds-rest : (pass number : ℕ) (world : Realm S K E) → world.end ≡ None → world.desk.kept ≡ None → length world.desk.schedule ≤ world.begun.steps
      → ((number : ℕ) → IsFalse (can_go world.desk world.places number))
      → IsTrue (is_elsewhere_at pass (at_number world.places number))
      → Rounds pass world world (Some next.Rest)
  rounds-rest pass number world none kept within unready there =
      let found = elsewhere world.places pass number (at_number world.places number) refl there in
      record {
        begun = refl;
        kept = kept ∙ ap fault_so_far (sym none);
        longer = whole-part world.desk.schedule;
        within = within;
        ended = λ is. stays-same world;
        goes = (
          tt,
          record {
            going = none;
            unready = unready;
            other = found.0;
            elsewhere = found.1;
            thread = number;
            out = found.2;
          },
        );
      }

  -- a fresh thread goes out
  pub rounds-fresh : (pass number : ℕ) (begun : Beginning S K E) (desk : Ground S K E) (places later : List Place) (end : Option RunEnd) (task : Task)
      → end ≡ None → desk.kept ≡ None → length desk.schedule ≤ begun.steps
      → HandsOutFresh number pass places later task
      → Rounds pass (record { begun = begun; desk = desk; places = places; end = end })
      (record { begun = begun; desk = desk; places = later; end = end }) (Some (next.Run task))
  rounds-fresh pass number begun desk places later end task none kept within out = record {
    begun = refl;
    kept = kept ∙ ap fault_so_far (sym none);
    longer = whole-part desk.schedule;
    within = within;
    ended = λ is. not-ended end _ none is;
    goes = (out.fits, (none, rw out.thread (out-at places later number pass (place.Fresh task.interp) out.found out.put)));
  }

  -- a parked thread did its action, and goes out
  pub rounds-acted : (pass number : ℕ) (begun : Beginning S K E) (old new : Ground S K E) (places later : List Place) (end : Option RunEnd)
      (reply : Reply) (task : Task)
      → end ≡ None → new.kept ≡ None → length old.schedule < begun.steps → new.schedule ≡ old.schedule ++ number ∷ []
      → Replies begun.setup new.shared.rows number pass reply places later (Some task)
      → Rounds pass (record { begun = begun; desk = old; places = places; end = end })
      (record { begun = begun; desk = new; places = later; end = end }) (Some (next.Run task))
  rounds-acted pass number begun old new places later end reply task none kept room entry replies =
      let count = longer-by old.schedule new.schedule number entry in
      let out = replies.out in
      let above = from-one places number (place.Parked out.interp) out.found in
      let at = sym (place-before replies.mid number above) ∙ out-at places replies.mid number pass (place.Parked out.interp) out.found out.put in
      let stays = get-append replies.mid replies.made.more (number - 1) (place.Out pass) at in
      record {
        begun = refl;
        kept = kept ∙ ap fault_so_far (sym none);
        longer = part-by old.schedule new.schedule number entry;
        within = omega (arith, count, room);
        ended = λ is. not-ended end _ none is;
        goes = (
          out.given.1,
          (none, rw (out.given.0, replies.made.pushed) (place-before (replies.mid ++ replies.made.more) number above ∙ stays)),
        );
      }

  -- it did, and has ended
  pub rounds-gone : (pass number : ℕ) (begun : Beginning S K E) (old new : Ground S K E) (places later : List Place) (end : Option RunEnd)
      → end ≡ None → new.kept ≡ None → length old.schedule < begun.steps → new.schedule ≡ old.schedule ++ number ∷ []
      → Rounds pass (record { begun = begun; desk = old; places = places; end = end }) (record { begun = begun; desk = new; places = later; end = end }) None
  rounds-gone pass number begun old new places later end none kept room entry =
      let count = longer-by old.schedule new.schedule number entry in
      record {
        begun = refl;
        kept = kept ∙ ap fault_so_far (sym none);
        longer = part-by old.schedule new.schedule number entry;
        within = omega (arith, count, room);
        ended = λ is. not-ended end _ none is;
        goes = (none, count);
      }

  -- it did, and then there was no memory
  pub rounds-out-of-memory : (pass number : ℕ) (begun : Beginning S K E) (old new last : Ground S K E) (places later : List Place) (was : Option RunEnd)
      → was ≡ None → length old.schedule < begun.steps → new.schedule ≡ old.schedule ++ number ∷ [] → last ≡ record new { kept = Some fault.NoMemory }
      → Rounds pass (record { begun = begun; desk = old; places = places; end = was })
      (record { begun = begun; desk = last; places = later; end = Some ends.Memory }) (Some next.Over)
  rounds-out-of-memory pass number begun old new last places later was none room entry is_last =
      let added : last.schedule ≡ old.schedule ++ number ∷ [] = rw is_last entry in
      let count = longer-by old.schedule last.schedule number added in
      rounds-end pass begun old last places later was ends.Memory none (rw is_last refl) (part-by old.schedule last.schedule number added)
      (omega (arith, count, room))

module _ {S K E : Type 0} (source : OfSource S) (output : OfSink K) (errors : OfSink E) where
  pub keeps-ended : (pass : ℕ) (world : Realm S K E) → KeepsVacant source output errors world world pass None
  keeps-ended pass world notes tied vacant = tied-quiet source output errors world.begun world.desk world.places world.end notes pass vacant tied

  -- the run is over
  pub keeps-over : (pass : ℕ) (begun : Beginning S K E) (desk : Ground S K E) (places : List Place) (was : Option RunEnd) (code : ℕ)
      → was ≡ None → desk.shared.over ≡ Some code
      → KeepsVacant source output errors (record { begun = begun; desk = desk; places = places; end = was })
      (record { begun = begun; desk = desk; places = places; end = Some (ends.Over code) }) pass None
  keeps-over pass begun desk places was code none over notes tied vacant =
      tied-stop source output errors begun desk places (ends.Over code) notes (pass - 1) None refl
      (λ machine its are. rw (← its.is_shared) over)
      (to-none source output errors begun desk places was notes none tied)

  -- nobody can go on
  pub keeps-stuck : (pass : ℕ) (begun : Beginning S K E) (desk : Ground S K E) (places : List Place) (was : Option RunEnd)
      → was ≡ None → desk.kept ≡ None → desk.shared.over ≡ None
      → ((number : ℕ) → IsFalse (can_go desk places number))
      → ((number : ℕ) → IsFalse (is_elsewhere_at pass (at_number places number)))
      → KeepsVacant source output errors (record { begun = begun; desk = desk; places = places; end = was })
      (record { begun = begun; desk = desk; places = places; end = Some ends.Stuck }) pass None
  keeps-stuck pass begun desk places was none kept over unready nowhere notes tied vacant =
      tied-stop source output errors begun desk places ends.Stuck notes (pass - 1) None refl
      (λ machine its are. stuck source.held desk notes places pass machine its are kept over (nobody notes pass vacant) unready nowhere)
      (to-none source output errors begun desk places was notes none tied)

  pub keeps-fresh : (pass number : ℕ) (begun : Beginning S K E) (desk : Ground S K E) (places later : List Place) (end : Option RunEnd) (task : Task)
      → 1 ≤ pass → end ≡ None → HandsOutFresh number pass places later task
      → KeepsVacant source output errors (record { begun = begun; desk = desk; places = places; end = end })
      (record { begun = begun; desk = desk; places = later; end = end }) pass (Some task)
  keeps-fresh pass number begun desk places later end task from none out notes tied vacant =
      of-none source output errors begun desk later end _ none
      (tied-fresh source output errors begun desk places later notes pass number task from vacant out
      (to-none source output errors begun desk places end notes none tied))

  -- the most steps were taken
  pub keeps-limit : (pass number : ℕ) (begun : Beginning S K E) (desk : Ground S K E) (places : List Place) (was : Option RunEnd) (request : Request)
      → was ≡ None → length desk.schedule ≡ begun.steps
      → IsParked places number request → IsTrue (can_go desk places number)
      → KeepsVacant source output errors (record { begun = begun; desk = desk; places = places; end = was })
      (record { begun = begun; desk = desk; places = places; end = Some ends.Limit }) pass None
  keeps-limit pass number begun desk places was request none full is able_to notes tied vacant =
      tied-stop source output errors begun desk places ends.Limit notes (pass - 1) None refl
      (λ machine its are.
      let can = able desk number request (can-act desk places number request is able_to) in
      let lives : IsTrue (is_living machine.shared.rows number) = rw (← its.is_shared) can.lives in
      let asks : ThreadAsks machine number request (serving_of is.interp.standing) =
      rw is.asked (asks-parked notes number places is.interp is.found machine are lives) in
      record {
        full = full;
        number = number;
        can = can-go source.held desk number request (serving_of is.interp.standing) machine its can asks;
      })
      (to-none source output errors begun desk places was notes none tied)

  -- a parked thread did its action
  pub keeps-acted : (pass number : ℕ) (begun : Beginning S K E) (old new : Ground S K E) (places later : List Place) (end : Option RunEnd)
      (request : Request) (did : Acted) (task : Option Task)
      → 1 ≤ pass → end ≡ None → length old.schedule < begun.steps
      → IsParked places number request → IsTrue (can_go old places number)
      → ((line : Line) × Happens source.held output.got errors.got Grows old number request line new × IsAnswer did (act old.shared number request line).gives)
      → new.kept ≡ None → Steady source output errors old new
      → Replies begun.setup new.shared.rows number pass did.reply places later task
      → KeepsVacant source output errors (record { begun = begun; desk = old; places = places; end = end })
      (record { begun = begun; desk = new; places = later; end = end }) pass task
  keeps-acted pass number begun old new places later end request did task from none room is able_to happens goes steady replies notes tied vacant =
      of-none source output errors begun new later end _ none
      (tied-acted source output errors begun old new places later notes pass number request is.interp did task from vacant room is.found is.asked
      (can-act old places number request is able_to) happens goes steady replies
      (to-none source output errors begun old places end notes none tied))

  -- it did, and then there was no memory
  pub keeps-out-of-memory : (pass number : ℕ) (begun : Beginning S K E) (old new last : Ground S K E) (places later : List Place)
      (was : Option RunEnd) (request : Request) (did : Acted)
      → was ≡ None → length old.schedule < begun.steps
      → IsParked places number request → IsTrue (can_go old places number)
      → ((line : Line) × Happens source.held output.got errors.got Grows old number request line new × IsAnswer did (act old.shared number request line).gives)
      → new.kept ≡ None → Steady source output errors old new → last ≡ record new { kept = Some fault.NoMemory }
      → KeepsVacant source output errors (record { begun = begun; desk = old; places = places; end = was })
      (record { begun = begun; desk = last; places = later; end = Some ends.Memory }) pass None
  keeps-out-of-memory pass number begun old new last places later was request did none room is able_to happens goes steady is_last notes tied vacant =
      tied-out-of-memory source output errors begun old new last places later notes (pass - 1) number request is.interp did room is.found is.asked
      (can-act old places number request is able_to) happens goes steady is_last
      (to-none source output errors begun old places was notes none tied)

  -- it met a fault or want of memory
  pub keeps-fault : {T : Type 0} (pass number : ℕ) (begun : Beginning S K E) (old new : Ground S K E) (places later : List Place)
      (was : Option RunEnd) (request : Request) (result : Result T StepFault) (is : StepFault) (end : RunEnd)
      → was ≡ None → length old.schedule < begun.steps
      → IsParked places number request
      → result ≡ Err is → is ≢ fault.NotEnabled → end_fault end ≡ Some is
      → FailsBy source output errors old new number request result
      → KeepsVacant source output errors (record { begun = begun; desk = old; places = places; end = was })
      (record { begun = begun; desk = new; places = later; end = Some end }) pass None
  keeps-fault pass number begun old new places later was request result is end none room at failed other ended f notes tied vacant =
      tied-fault source output errors begun old new places later notes (pass - 1) number request at.interp result is end room at.found
      at.asked failed other ended f
      (to-none source output errors begun old places was notes none tied)

  -- how the schedule is after a fault
  fault-schedule : {T : Type 0} (old new : Ground S K E) (number : ℕ) (request : Request) (result : Result T StepFault) (is : StepFault)
      → result ≡ Err is → is ≢ fault.NotEnabled → FailsBy source output errors old new number request result
      → (new.schedule ≡ old.schedule) ⊎ (new.schedule ≡ old.schedule ++ number ∷ [])
  fault-schedule old new number request result fault.NotEnabled was other f = absurd (other refl)
  fault-schedule old new number request result fault.ReadFault was other f = inl (f.failed.read_nothing was).schedule
  fault-schedule old new number request result fault.WriteFault was other f = inr (f.failed.cut was f.failed.nothing_met).1.entry
  fault-schedule old new number request result fault.NoMemory was other f = inl (f.failed.no_entry was)

  pub rounds-fault : {T : Type 0} (pass number : ℕ) (begun : Beginning S K E) (old new : Ground S K E) (places later : List Place)
      (was : Option RunEnd) (request : Request) (result : Result T StepFault) (is : StepFault) (end : RunEnd)
      → was ≡ None → length old.schedule < begun.steps
      → result ≡ Err is → is ≢ fault.NotEnabled → end_fault end ≡ Some is
      → FailsBy source output errors old new number request result
      → Rounds pass (record { begun = begun; desk = old; places = places; end = was })
      (record { begun = begun; desk = new; places = later; end = Some end }) (Some next.Over)
  rounds-fault pass number begun old new places later was request result is end none room failed other ended f =
      by-schedule (fault-schedule old new number request result is failed other f)
    where
      kept : new.kept ≡ end_fault end
      kept = met source.held output.got errors.got new result is f.failed.kept failed other ∙ sym ended

      by-schedule : (new.schedule ≡ old.schedule) ⊎ (new.schedule ≡ old.schedule ++ number ∷ [])
          → Rounds pass (record { begun = begun; desk = old; places = places; end = was })
          (record { begun = begun; desk = new; places = later; end = Some end }) (Some next.Over)
      by-schedule (inl same) =
          let count : length new.schedule ≡ length old.schedule = ap length same in
          rounds-end pass begun old new places later was end none kept (part-same old.schedule new.schedule same) (omega (arith, count, room))
      by-schedule (inr entry) =
          let count = longer-by old.schedule new.schedule number entry in
          rounds-end pass begun old new places later was end none kept (part-by old.schedule new.schedule number entry) (omega (arith, count, room))

  -- ---- a thread comes back ----

  pub back-ended : (done : Done) (world : Realm S K E) → IsTrue (is_some world.end) → world.desk.kept ≡ fault_so_far world.end
      → TakesBack source output errors done world world
  back-ended done world some kept = record {
    keeps = λ notes pass tied returns. ended world.end some notes pass tied;
    begun = refl;
    kept = kept;
    schedule = refl;
    ended = λ is. stays-same world;
  }
    where
      ended : (end : Option RunEnd) → IsTrue (is_some end) → (notes : List (Note S K E)) (pass : ℕ)
          → IsTied source output errors (record { begun = world.begun; desk = world.desk; places = world.places; end = end }) notes
          → IsTied source output errors (record { begun = world.begun; desk = world.desk; places = world.places; end = end })
          (slice_set notes (pass - 1) (record { begun = world.begun; out = None }))
      ended None some notes pass tied = absurd (cc some)
      ended (Some end) some notes pass tied = tied-ended source output errors world.begun world.desk world.places world.places end notes (pass - 1) None tied

  pub back-empty : (done : Done) (begun : Beginning S K E) (old new : Ground S K E) (places later : List Place) (was : Option RunEnd)
      → was ≡ None → new ≡ record old { kept = Some fault.NoMemory }
      → TakesBack source output errors done (record { begun = begun; desk = old; places = places; end = was })
      (record { begun = begun; desk = new; places = later; end = Some ends.Memory })
  back-empty done begun old new places later was none is = record {
    keeps = λ notes pass tied returns. tied-back-empty source output errors begun old new places later notes (pass - 1) is
        (to-none source output errors begun old places was notes none tied);
    begun = refl;
    kept = rw is refl;
    schedule = rw is refl;
    ended = λ some. not-ended was _ none some;
  }

  pub back-parked : (done : Done) (begun : Beginning S K E) (desk : Ground S K E) (places later : List Place) (end : Option RunEnd)
      → end ≡ None → desk.kept ≡ fault_so_far end → done.resumption ≡ Halted → later ≡ parked_at places done.thread done.interp
      → TakesBack source output errors done (record { begun = begun; desk = desk; places = places; end = end })
      (record { begun = begun; desk = desk; places = later; end = end })
  back-parked done begun desk places later end none kept halted is = record {
    keeps = λ notes pass tied returns.
        of-none source output errors begun desk later end _ none
        (rw is (tied-back source output errors begun desk places notes pass done returns halted
        (to-none source output errors begun desk places end notes none tied)));
    begun = refl;
    kept = kept;
    schedule = refl;
    ended = λ some. not-ended end _ none some;
  }
