-- Threads in their places, as places and notes change.
use Rattle.std.proofs.Common.{◌≡◌, ◌≢◌, ◌∙◌, ◌+◌, ◌-◌, ◌≤◌, ◌⊎◌, ℕ, arith, IsTrue, List, [], ◌∷◌, ◌++◌, Option, Some}
use Rattle.std.proofs.Common.{None, ap, append_assoc, inl, inr, refl, slice_get, slice_set, sym, subst}
use Rattle.tt_calls.specs.Numbers.{at_number}
use Rattle.tt_calls.specs.declared.reply.Reply.{Reply}
use Rattle.tt_calls.specs.declared.request.Request.{Request}
use Rattle.tt_core.proofs.ActionLemmas.{Becomes}
use Rattle.tt_core.proofs.StepLemmas.{AsksIn}
use Rattle.tt_core.proofs.CrewLemmas.{goes-placed, stands-asking}
use Rattle.tt_core.proofs.PlaceLemmas.{each-at, each-map, each-map-at, each-set, joined-each, made-map, told-is}
use Rattle.tt_core.specs.inside.Crew.{AllMade, AreEach, StandsIn}
use Rattle.tt_kept.specs.Beginning.{IsNext}
use Rattle.tt_interp.specs.Interps as interps
use Rattle.tt_interp.specs.Interps.{Interpreter, request_of, serving_of}
use Rattle.tt_kept.specs.declared.setup.Setup.{Setup}
use Rattle.tt_machine.specs.Machine.{Machine, Thread, with_reply, thread_with_reply}
use Rattle.tt_threads.specs.declared.row.Row.{Row}
use Rattle.tt_workers.proofs.Lists.{place-before, from-one, get-append, get-set-other, get-set-same, less-and-one, one-and-less, same-or-not, set-get}
use Rattle.tt_workers.specs.inside.Places.{AreWhere, IsFreshPlace, IsGiven, IsGivenBy, IsNew, IsAtPlace, Note, noted_in}
use Rattle.tt_workers.specs.inside.Rosters.{HandsOut, HandsOutFresh, IsHandedOut, parked_at, place_after}
use Rattle.tt_workers.specs.inside.Turns.{IsBack}
use Rattle.tt_workers.specs.declared.next.Done.{Done}
use Rattle.tt_workers.specs.declared.next.Resumption.TheVariants.{Halted}
use Rattle.tt_workers.specs.declared.next.Task.{Task}
use Rattle.tt_workers.specs.declared.place.Place.{Place}
use Rattle.tt_workers.specs.declared.place.Place.TheVariants as place

-- ---- what is so whatever the notes are ----

-- a reply more
next-told : (setup : Setup) (number : ℕ) (thread : Thread) (interp : Interpreter) (reply : Reply) → StandsIn interp setup number thread
    → (replies : List Reply) (request : Request) (serving : List ℕ)
    → interps.InterpAsks interp (reply ∷ replies) request serving
    → IsNext setup number thread.start ((thread.replies ++ reply ∷ []) ++ replies) request serving
next-told setup number thread interp reply is replies request serving asked =
    subst (λ (all : List Reply). IsNext setup number thread.start all request serving)
    (sym (append_assoc thread.replies (reply ∷ []) replies))
    (is.later (reply ∷ replies) request serving asked)

-- a parked thread was handed out with its reply
given-told : (setup : Setup) (number : ℕ) (thread : Thread) (interp : Interpreter) (reply : Reply) (task : Task)
    → StandsIn interp setup number thread
    → task ≡ record { thread = number; interp = interp; reply = Some reply }
    → IsTrue (interps.fits task.interp.standing task.reply)
    → IsGiven task setup number (thread_with_reply reply thread)
given-told setup number thread interp reply task is same fits =
    subst (λ (one : Task). IsTrue (interps.fits one.interp.standing one.reply) → IsGiven one setup number (thread_with_reply reply thread)) (sym same)
    (λ fit. record { named = refl; fits = fit; later = next-told setup number thread interp reply is }) fits

-- a fresh thread was handed out without one
given-fresh : (setup : Setup) (number : ℕ) (thread : Thread) (task : Task)
    → IsNew task.interp setup number thread
    → task.thread ≡ number → task.reply ≡ None → IsTrue (interps.fits task.interp.standing task.reply)
    → IsGiven task setup number thread
given-fresh setup number thread task is named no_reply fits = record {
  named = named;
  fits = fits;
  later = λ replies request serving asked.
      let plain = subst (λ (given : Option Reply). interps.InterpAsks task.interp (interps.with_given given replies) request serving) no_reply asked in
      subst (λ (before : List Reply). IsNext setup number thread.start (before ++ replies) request serving) (sym is.no_reply)
      (is.stands replies request serving plain);
}

-- it came back
stands-back : (setup : Setup) (number : ℕ) (thread : Thread) (task : Task) (done : Done)
    → IsGiven task setup number thread → IsBack task done → done.resumption ≡ Halted → StandsIn done.interp setup number thread
stands-back setup number thread task done is back halted = record {
  halted = back.halted halted;
  later = λ replies request serving asks. is.later replies request serving (back.goes halted replies request serving asks);
}

-- ---- places ----

kept-out : (places : List Place) (k : ℕ) (was at : Place) (index i : ℕ) → slice_get places k ≡ Some was → was ≢ place.Out (index + 1)
    → slice_get places i ≡ Some (place.Out (index + 1)) → slice_get (slice_set places k at) i ≡ Some (place.Out (index + 1))
kept-out places k was at index i there other_place out = by-case (same-or-not i k)
  where
    some-same : Some was ≡ Some (place.Out (index + 1)) → was ≡ place.Out (index + 1)
    some-same is = cc

    by-case : (i ≡ k) ⊎ (i ≢ k) → slice_get (slice_set places k at) i ≡ Some (place.Out (index + 1))
    by-case (inl same) = absurd (other_place (some-same (sym there ∙ subst (λ (n : ℕ). slice_get places n ≡ Some (place.Out (index + 1))) same out)))
    by-case (inr other) = get-set-other places k i at other ∙ out

-- whoever was handed out is the thread that was answered
handed-number : (number : ℕ) (interp : Interpreter) (reply : Reply) (task : Option Task) (one : Task)
    → IsHandedOut number interp reply task → task ≡ Some one → one.thread ≡ number
handed-number number interp reply None one given is = absurd (none-some is)
  where
    none-some : None ≡ Some one → ⊥
    none-some is = cc
handed-number number interp reply (Some task) one given is = same is given.0
  where
    same : Some task ≡ Some one → task ≡ record { thread = number; interp = interp; reply = Some reply } → one.thread ≡ number
    same here made = let one_is : one ≡ task = cc here in ap (λ (t : Task). t.thread) (one_is ∙ made)

out-after : (pass : ℕ) (task : Option Task) (one : Task) → task ≡ Some one → place_after pass task ≡ place.Out pass
out-after pass task one is = rw is refl

other-out : (i index : ℕ) → index ≢ i → place.Out (i + 1) ≢ place.Out (index + 1)
other-out i index other is = other (omega (arith, numbers is))
  where
    numbers : place.Out (i + 1) ≡ place.Out (index + 1) → i + 1 ≡ index + 1
    numbers is = cc

parked-is : (places : List Place) (number : ℕ) (interp : Interpreter) (was : Place) → at_number places number ≡ Some was
    → parked_at places number interp ≡ slice_set places (number - 1) (place.Parked interp)
parked-is places number interp was there = rw there refl

module _ {S K E : Type 0} where
  -- ---- a note changes ----

  noted-other : (notes : List (Note S K E)) (i j : ℕ) (note : Note S K E) → j ≢ i
      → noted_in (slice_get (slice_set notes i note) j) ≡ noted_in (slice_get notes j)
  noted-other notes i j note other = ap noted_in (get-set-other notes i j note other)

  noted-same : (notes : List (Note S K E)) (i : ℕ) (old note : Note S K E) → slice_get notes i ≡ Some old
      → noted_in (slice_get (slice_set notes i note) i) ≡ note.out
  noted-same notes i old note there = ap noted_in (get-set-same notes i note old there)

  -- a thread that is not out by a note stays in its place as the note changes
  placed-anew : (notes : List (Note S K E)) (i : ℕ) (old note : Note S K E) → slice_get notes i ≡ Some old → old.out ≡ None
      → (setup : Setup) (number : ℕ) (thread : Thread) (at : Place)
      → IsAtPlace notes setup number thread at → IsAtPlace (slice_set notes i note) setup number thread at
  placed-anew notes i old note there empty setup number thread (place.Fresh interp) is = is
  placed-anew notes i old note there empty setup number thread (place.Parked interp) is = is
  placed-anew notes i old note there empty setup number thread place.Gone is = is
  placed-anew notes i old note there empty setup number thread (place.Out pass) is = by-case (same-or-not (pass - 1) i)
    where
      nobody : pass - 1 ≡ i → noted_in (slice_get notes (pass - 1)) ≡ None
      nobody same = ap (λ (k : ℕ). noted_in (slice_get notes k)) same ∙ (ap noted_in there ∙ empty)

      by-case : (pass - 1 ≡ i) ⊎ (pass - 1 ≢ i) → IsGivenBy (noted_in (slice_get (slice_set notes i note) (pass - 1))) setup number thread
      by-case (inl same) = absurd (subst (λ (out : Option Task). IsGivenBy out setup number thread) (nobody same) is)
      by-case (inr other) = subst (λ (out : Option Task). IsGivenBy out setup number thread) (sym (noted-other notes i (pass - 1) note other)) is

  -- who is out by the notes is so by the places, as the note at one index and the places change
  outs-after : (notes : List (Note S K E)) (i : ℕ) (old note : Note S K E) (places later : List Place)
      → slice_get notes i ≡ Some old
      → ((index : ℕ) (task : Task) → noted_in (slice_get notes index) ≡ Some task → slice_get places (task.thread - 1) ≡ Some (place.Out (index + 1)))
      → ((index at : ℕ) → index ≢ i → slice_get places at ≡ Some (place.Out (index + 1)) → slice_get later at ≡ Some (place.Out (index + 1)))
      → ((task : Task) → note.out ≡ Some task → slice_get later (task.thread - 1) ≡ Some (place.Out (i + 1)))
      → (index : ℕ) (task : Task) → noted_in (slice_get (slice_set notes i note) index) ≡ Some task
      → slice_get later (task.thread - 1) ≡ Some (place.Out (index + 1))
  outs-after notes i old note places later there outs keeps own index task is = by-case (same-or-not index i)
    where
      by-case : (index ≡ i) ⊎ (index ≢ i) → slice_get later (task.thread - 1) ≡ Some (place.Out (index + 1))
      by-case (inl same) =
          let at = subst (λ (k : ℕ). noted_in (slice_get (slice_set notes i note) k) ≡ Some task) same is in
          subst (λ (k : ℕ). slice_get later (task.thread - 1) ≡ Some (place.Out (k + 1))) (sym same)
          (own task (sym (noted-same notes i old note there) ∙ at))
      by-case (inr other) =
          keeps index (task.thread - 1) other (outs index task (sym (noted-other notes i index note other) ∙ is))

  -- nobody is out by the note, before and after
  pub where-vacant : (notes : List (Note S K E)) (i : ℕ) (old note : Note S K E) (places : List Place) (machine : Machine)
      → slice_get notes i ≡ Some old → old.out ≡ None → note.out ≡ None
      → AreWhere notes places machine → AreWhere (slice_set notes i note) places machine
  where-vacant notes i old note places machine there empty none are = record {
    placed = each-map (IsAtPlace notes machine.setup) (IsAtPlace (slice_set notes i note) machine.setup)
        (placed-anew notes i old note there empty machine.setup) 1 machine.threads places are.placed;
    out = outs-after notes i old note places places there are.out
        (λ index at other is. is)
        (λ task is. absurd (none-some none is));
  }
    where
      none-some : {X : Type 0} {found : Option X} {x : X} → found ≡ None → found ≡ Some x → ⊥
      none-some is also = cc

  -- ---- a fresh thread is handed out ----

  own-out : (note : Note S K E) (task one : Task) → note.out ≡ Some task → note.out ≡ Some one → task ≡ one
  own-out note task one is also = cc

  pub where-fresh : (notes : List (Note S K E)) (pass number : ℕ) (old note : Note S K E) (places later : List Place) (task : Task) (machine : Machine)
      → 1 ≤ pass → slice_get notes (pass - 1) ≡ Some old → old.out ≡ None → note.out ≡ Some task
      → HandsOutFresh number pass places later task
      → AreWhere notes places machine → AreWhere (slice_set notes (pass - 1) note) later machine
  where-fresh notes pass number old note places later task machine from there empty out is are = record {
    placed = placed;
    out = outs-after notes (pass - 1) old note places later there are.out
        (λ index i other was. rw is.put (kept-out places (number - 1) (place.Fresh task.interp) (place.Out pass) index i found (λ same. cc) was))
        (λ one also. let same = own-out note task one out also in
        rw (← same, is.thread, is.put, less-and-one pass from) (get-set-same places (number - 1) (place.Out pass) (place.Fresh task.interp) found));
  }
    where
      above : 1 ≤ number
      above = from-one places number (place.Fresh task.interp) is.found

      found : slice_get places (number - 1) ≡ Some (place.Fresh task.interp)
      found = sym (place-before places number above) ∙ is.found

      placed : AreEach (IsAtPlace (slice_set notes (pass - 1) note) machine.setup) 1 machine.threads later
      placed =
          let each = each-map (IsAtPlace notes machine.setup) (IsAtPlace (slice_set notes (pass - 1) note) machine.setup)
          (placed-anew notes (pass - 1) old note there empty machine.setup) 1 machine.threads places are.placed in
          let one = each-at (IsAtPlace (slice_set notes (pass - 1) note) machine.setup) 1 (number - 1) machine.threads places
          (place.Fresh task.interp) each found in
          let named = one-and-less number above in
          let new = subst (λ (n : ℕ). IsNew task.interp machine.setup n one.thread) named one.placed in
          let given = given-fresh machine.setup number one.thread task new is.thread is.no_reply is.fits in
          let by_note = subst (λ (some : Option Task). IsGivenBy some machine.setup number one.thread)
          (sym (noted-same notes (pass - 1) old note there ∙ out)) given in
          let at = subst (λ (n : ℕ). IsAtPlace (slice_set notes (pass - 1) note) machine.setup n one.thread (place.Out pass)) (sym named) by_note in
          let set = each-set (IsAtPlace (slice_set notes (pass - 1) note) machine.setup) 1 (number - 1) machine.threads places one.thread
          (place.Out pass) each at in
          rw is.put (subst
          (λ (threads : List Thread). AreEach (IsAtPlace (slice_set notes (pass - 1) note) machine.setup) 1 threads
          (slice_set places (number - 1) (place.Out pass)))
          (set-get machine.threads (number - 1) one.thread one.there) set)

  -- ---- a parked thread gets its reply ----

  -- what an answered thread's place is then
  answered-place : (notes : List (Note S K E)) (setup : Setup) (pass number : ℕ) (thread : Thread) (interp : Interpreter) (reply : Reply) (task : Option Task)
      → noted_in (slice_get notes (pass - 1)) ≡ task
      → StandsIn interp setup number thread → IsHandedOut number interp reply task
      → IsAtPlace notes setup number (thread_with_reply reply thread) (place_after pass task)
  answered-place notes setup pass number thread interp reply None noted stands given =
      goes-placed setup number thread interp reply None stands given
  answered-place notes setup pass number thread interp reply (Some task) noted stands given =
      subst (λ (out : Option Task). IsGivenBy out setup number (thread_with_reply reply thread)) (sym noted)
      (given-told setup number thread interp reply task stands given.0 given.1)

  pub fresh-placed : (notes : List (Note S K E)) (setup : Setup) (number : ℕ) (thread : Thread) (at : Place)
      → IsFreshPlace setup number thread at → IsAtPlace notes setup number thread at
  fresh-placed notes setup number thread (place.Fresh interp) is = is
  fresh-placed notes setup number thread (place.Parked interp) is = absurd is
  fresh-placed notes setup number thread (place.Out pass) is = absurd is
  fresh-placed notes setup number thread place.Gone is = absurd is

  pub where-answered : (setup : Setup) (notes : List (Note S K E)) (pass number : ℕ) (old note : Note S K E) (rows : List Row)
      (reply : Reply) (places mid later : List Place) (task : Option Task)
      → 1 ≤ pass → slice_get notes (pass - 1) ≡ Some old → old.out ≡ None → note.out ≡ task
      → HandsOut number pass reply places mid task → AllMade (IsFreshPlace setup) rows mid later
      → Becomes setup (AreWhere notes places) (AreWhere (slice_set notes (pass - 1) note) later) number reply rows
  where-answered setup notes pass number old note rows reply places mid later task from there empty out is made =
      λ machine next was_setup same are joined_is. record {
        placed =
            subst (λ (one : Setup). AreEach (IsAtPlace (slice_set notes (pass - 1) note) one) 1 next.threads later) (sym same)
            (subst (λ (threads : List Thread). AreEach (IsAtPlace (slice_set notes (pass - 1) note) setup) 1 threads later) (sym joined_is)
            (joined-each (IsAtPlace (slice_set notes (pass - 1) note) setup) rows (with_reply machine.threads number reply) mid later
            (replied-each machine was_setup are)
            (made-map (IsFreshPlace setup) (IsAtPlace (slice_set notes (pass - 1) note) setup)
            (fresh-placed (slice_set notes (pass - 1) note) setup) rows mid later made)));
        out = outs-after notes (pass - 1) old note places later there are.out
            (λ index i other was. grown i (place.Out (index + 1))
            (rw is.put (kept-out places (number - 1) (place.Parked is.interp) (place_after pass task) index i found (λ same. cc) was)))
            (λ one also.
            let taken : task ≡ Some one = sym out ∙ also in
            let named = handed-number number is.interp reply task one is.given taken in
            grown (one.thread - 1) (place.Out ((pass - 1) + 1)) (rw (named, is.put, less-and-one pass from, ← out-after pass task one taken)
            (get-set-same places (number - 1) (place_after pass task) (place.Parked is.interp) found)));
      }
    where
      above : 1 ≤ number
      above = from-one places number (place.Parked is.interp) is.found

      found : slice_get places (number - 1) ≡ Some (place.Parked is.interp)
      found = sym (place-before places number above) ∙ is.found

      grown : (i : ℕ) (at : Place) → slice_get mid i ≡ Some at → slice_get later i ≡ Some at
      grown i at in_mid = rw made.pushed (get-append mid made.more i at in_mid)

      replied-each : (machine : Machine) → machine.setup ≡ setup → AreWhere notes places machine
          → AreEach (IsAtPlace (slice_set notes (pass - 1) note) setup) 1 (with_reply machine.threads number reply) mid
      replied-each machine was_setup are =
          let here = subst (λ (one : Setup). AreEach (IsAtPlace notes one) 1 machine.threads places) was_setup are.placed in
          let each = each-map (IsAtPlace notes setup) (IsAtPlace (slice_set notes (pass - 1) note) setup)
          (placed-anew notes (pass - 1) old note there empty setup) 1 machine.threads places here in
          let one = each-at (IsAtPlace (slice_set notes (pass - 1) note) setup) 1 (number - 1) machine.threads places (place.Parked is.interp) each found in
          let named = one-and-less number above in
          let stands = subst (λ (n : ℕ). StandsIn is.interp setup n one.thread) named one.placed in
          let at = answered-place (slice_set notes (pass - 1) note) setup pass number one.thread is.interp reply task
          (noted-same notes (pass - 1) old note there ∙ out) stands is.given in
          let at_n = subst
          (λ (n : ℕ). IsAtPlace (slice_set notes (pass - 1) note) setup n (thread_with_reply reply one.thread) (place_after pass task)) (sym named) at in
          let set = each-set (IsAtPlace (slice_set notes (pass - 1) note) setup) 1 (number - 1) machine.threads places
          (thread_with_reply reply one.thread) (place_after pass task) each at_n in
          rw (told-is machine.threads number reply one.thread (place-before machine.threads number above ∙ one.there), is.put) set

  -- what a parked thread asks
  pub asks-parked : (notes : List (Note S K E)) (number : ℕ) (places : List Place) (interp : Interpreter)
      → at_number places number ≡ Some (place.Parked interp)
      → AsksIn (AreWhere notes places) number (request_of interp.standing) (serving_of interp.standing)
  asks-parked notes number places interp is = λ machine are lives.
      let above = from-one places number (place.Parked interp) is in
      let found = sym (place-before places number above) ∙ is in
      let one = each-at (IsAtPlace notes machine.setup) 1 (number - 1) machine.threads places (place.Parked interp) are.placed found in
      let stands = subst (λ (n : ℕ). StandsIn interp machine.setup n one.thread) (one-and-less number above) one.placed in
      record {
        thread = one.thread;
        made = place-before machine.threads number above ∙ one.there;
        lives = lives;
        next = stands-asking machine.setup number one.thread interp stands;
      }

  -- ---- a thread comes back ----

  -- the thread that a note names, and its place
  record IsOutBy (notes : List (Note S K E)) (places : List Place) (machine : Machine) (i : ℕ) (task : Task) : Type 0 where
    above : 1 ≤ task.thread
    at : slice_get places (task.thread - 1) ≡ Some (place.Out (i + 1))
    thread : Thread
    there : slice_get machine.threads (task.thread - 1) ≡ Some thread
    given : IsGiven task machine.setup task.thread thread

  out-by : (notes : List (Note S K E)) (places : List Place) (machine : Machine) (i : ℕ) (task : Task)
      → noted_in (slice_get notes i) ≡ Some task → AreWhere notes places machine → IsOutBy notes places machine i task
  out-by notes places machine i task noted are =
      let at = are.out i task noted in
      let one = each-at (IsAtPlace notes machine.setup) 1 (task.thread - 1) machine.threads places (place.Out (i + 1)) are.placed at in
      let index : (i + 1) - 1 ≡ i = omega arith in
      let by_note = subst (λ (k : ℕ). IsGivenBy (noted_in (slice_get notes k)) machine.setup (1 + (task.thread - 1)) one.thread) index one.placed in
      let given = subst (λ (out : Option Task). IsGivenBy out machine.setup (1 + (task.thread - 1)) one.thread) noted by_note in
      let named : task.thread ≡ 1 + (task.thread - 1) = given.named in
      record {
        above = omega (arith, named);
        at = at;
        thread = one.thread;
        there = one.there;
        given = subst (λ (n : ℕ). IsGiven task machine.setup n one.thread) (sym named) given;
      }

  pub where-back : (notes : List (Note S K E)) (i : ℕ) (old note : Note S K E) (places : List Place) (task : Task) (done : Done) (machine : Machine)
      → slice_get notes i ≡ Some old → old.out ≡ Some task → note.out ≡ None
      → IsBack task done → done.resumption ≡ Halted
      → AreWhere notes places machine
      → AreWhere (slice_set notes i note) (parked_at places done.thread done.interp) machine
  where-back notes i old note places task done machine there out none back halted are =
      subst (λ (some : List Place). AreWhere (slice_set notes i note) some machine)
      (sym (parked-is places done.thread done.interp (place.Out (i + 1)) (place-before places done.thread above ∙ at)))
      (record {
        placed = each-map-at (IsAtPlace notes machine.setup) (IsAtPlace (slice_set notes i note) machine.setup) 1 machine.threads
            (slice_set places (done.thread - 1) (place.Parked done.interp)) follows parked;
        out = outs-after notes i old note places (slice_set places (done.thread - 1) (place.Parked done.interp)) there are.out
            (λ index k other was. kept-out places (done.thread - 1) (place.Out (i + 1)) (place.Parked done.interp) index k at (other-out i index other) was)
            (λ one also. absurd (none-some none also));
      })
    where
      none-some : {X : Type 0} {found : Option X} {x : X} → found ≡ None → found ≡ Some x → ⊥
      none-some is also = cc

      noted : noted_in (slice_get notes i) ≡ Some task
      noted = ap noted_in there ∙ out

      is_out : IsOutBy notes places machine i task
      is_out = out-by notes places machine i task noted are

      above : 1 ≤ done.thread
      above = rw back.thread is_out.above

      at : slice_get places (done.thread - 1) ≡ Some (place.Out (i + 1))
      at = rw back.thread is_out.at

      parked : AreEach (IsAtPlace notes machine.setup) 1 machine.threads (slice_set places (done.thread - 1) (place.Parked done.interp))
      parked =
          let stands = stands-back machine.setup task.thread is_out.thread task done is_out.given back halted in
          let named : task.thread ≡ 1 + (done.thread - 1) = omega (arith, back.thread, above) in
          let at_n = subst (λ (n : ℕ). StandsIn done.interp machine.setup n is_out.thread) named stands in
          let same : slice_get machine.threads (done.thread - 1) ≡ Some is_out.thread = rw back.thread is_out.there in
          let set = each-set (IsAtPlace notes machine.setup) 1 (done.thread - 1) machine.threads places is_out.thread
          (place.Parked done.interp) are.placed at_n in
          subst (λ (threads : List Thread). AreEach (IsAtPlace notes machine.setup) 1 threads (slice_set places (done.thread - 1) (place.Parked done.interp)))
          (set-get machine.threads (done.thread - 1) is_out.thread same) set

      -- any other thread that is out is so by another note
      elsewhere : (j pass : ℕ) (thread : Thread)
          → slice_get (slice_set places (done.thread - 1) (place.Parked done.interp)) j ≡ Some (place.Out pass)
          → IsGivenBy (noted_in (slice_get notes (pass - 1))) machine.setup (1 + j) thread → pass - 1 ≢ i
      elsewhere j pass thread here is same =
          let by_note = subst (λ (k : ℕ). IsGivenBy (noted_in (slice_get notes k)) machine.setup (1 + j) thread) same is in
          let given = subst (λ (one : Option Task). IsGivenBy one machine.setup (1 + j) thread) noted by_note in
          let index : j ≡ done.thread - 1 = omega (arith, given.named, back.thread) in
          let set = get-set-same places (done.thread - 1) (place.Parked done.interp) (place.Out (i + 1)) at in
          let was = subst (λ (k : ℕ). slice_get (slice_set places (done.thread - 1) (place.Parked done.interp)) k ≡ Some (place.Out pass)) index here in
          not-parked (sym set ∙ was)
        where
          not-parked : Some (place.Parked done.interp) ≡ Some (place.Out pass) → ⊥
          not-parked is = cc

      follows : (j : ℕ) (thread : Thread) (at : Place)
          → slice_get (slice_set places (done.thread - 1) (place.Parked done.interp)) j ≡ Some at
          → IsAtPlace notes machine.setup (1 + j) thread at → IsAtPlace (slice_set notes i note) machine.setup (1 + j) thread at
      follows j thread (place.Fresh interp) here is = is
      follows j thread (place.Parked interp) here is = is
      follows j thread place.Gone here is = is
      follows j thread (place.Out pass) here is =
          subst (λ (out : Option Task). IsGivenBy out machine.setup (1 + j) thread)
          (sym (noted-other notes i (pass - 1) note (elsewhere j pass thread here is))) is
