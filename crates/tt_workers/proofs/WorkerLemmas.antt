-- What a worker knows of its pass's note, and all workers of the notes at the end.
use Rattle.std.proofs.Common.{◌≡◌, ◌∙◌, ◌-◌, ◌≤◌, ℕ, zero, suc, List, Option, Some, None, arith, ap, refl, replicate, slice_get, slice_set, sym, subst}
use Rattle.tt_devices.specs.declared.sink.Sink.{Ghosts as OfSink}
use Rattle.tt_devices.specs.declared.source.Source.{Ghosts as OfSource}
use Rattle.tt_workers.specs.Ran.{Beginning}
use Rattle.tt_workers.specs.inside.Places.{Note}
use Rattle.tt_workers.specs.Ran.{IsRan}
use Rattle.tt_workers.specs.inside.Turns.{KeepsTied, MayReturn, Returns, note_after, out_of}
use Rattle.tt_workers.specs.inside.Workers.{IsNoted, IsNotedNext, IsRound, MayEnter}
use Rattle.tt_workers.specs.inside.World.{IsTied, Realm}
use Rattle.tt_workers.specs.declared.carrier.Round.TheVariants as round
use Rattle.tt_workers.specs.declared.next.Done.{Done}
use Rattle.tt_workers.specs.declared.next.Next.{Next}
use Rattle.tt_workers.specs.declared.next.Next.TheVariants as next
use Rattle.tt_workers.specs.declared.next.Task.{Task}
use Rattle.tt_workers.specs.declared.ran.Ran.{Ran}

module _ {S K E : Type 0} where
  -- what a worker brings, by the note of its pass
  pub returns-of : (found : Option (Note S K E)) (notes : List (Note S K E)) (pass : ℕ) (back : Option Done)
      → slice_get notes (pass - 1) ≡ found → MayEnter found back → Returns notes pass back
  returns-of None notes pass back there may = absurd may
  returns-of (Some note) notes pass back there may = record { note = note; noted = there; may = may }

  -- between turns the note is of the run that it was of at first, when nobody was out by it
  pub record Carries (first now : Option (Note S K E)) (back : Option Done) : Type 0 where
    pub note : Note S K E
    pub was : first ≡ Some note
    pub empty : note.out ≡ None
    pub out : Option Task
    pub is : now ≡ Some (record { begun = note.begun; out = out })
    pub may : MayReturn out back

  pub carries-begin : (first : Option (Note S K E)) → IsNoted (λ note. note.out ≡ None) first → Carries first first None
  carries-begin None is = absurd is
  carries-begin (Some note) is = record {
    note = note;
    was = refl;
    empty = is;
    out = None;
    is = ap (λ (out : Option Task). Some (record { begun = note.begun; out = out })) is;
    may = tt;
  }

  pub carries-enter : (first now : Option (Note S K E)) (back : Option Done) → Carries first now back → MayEnter now back
  carries-enter first now back is = subst (λ (found : Option (Note S K E)). MayEnter found back) (sym is.is) is.may

  pub carries-round : (first now later : Option (Note S K E)) (before back : Option Done)
      → Carries first now before → IsRound now later (round.Goes back) → Carries first later back
  carries-round first now later before back is went =
      let at = subst (λ (found : Option (Note S K E)). IsRound found later (round.Goes back)) is.is went in
      record { note = is.note; was = is.was; empty = is.empty; out = at.0; is = at.1; may = at.2 }

  -- if the run is over, it is as it was
  pub carries-over : (first now later : Option (Note S K E)) (before : Option Done)
      → Carries first now before → IsRound now later round.Over → later ≡ first
  carries-over first now later before is went =
      let at = subst (λ (found : Option (Note S K E)). IsRound found later round.Over) is.is went in
      at ∙ (ap (λ (out : Option Task). Some (record { begun = is.note.begun; out = out })) (sym is.empty) ∙ sym is.was)

  -- a round's note is that of its turn
  pub round-next : (found later : Option (Note S K E)) (then : Next) (back : Option Done)
      → IsNotedNext found later then → MayReturn (out_of then) back → IsRound found later (round.Goes back)
  round-next None later then back noted may = tt
  round-next (Some note) later then back noted may = (out_of then, noted, may)

  pub round-over : (found later : Option (Note S K E)) → IsNotedNext found later next.Over → IsRound found later round.Over
  round-over None later noted = tt
  round-over (Some note) later noted = noted

module _ {S K E : Type 0} (source : OfSource S) (output : OfSink K) (errors : OfSink E) where
  -- the note of a pass after a turn is of the same run
  pub next-noted : (found later : Option (Note S K E)) (notes : List (Note S K E)) (i : ℕ) (old new : Realm S K E) (then : Next)
      → slice_get notes i ≡ found → IsTied source output errors old notes → new.begun ≡ old.begun
      → later ≡ Some (note_after new (out_of then)) → IsNotedNext found later then
  next-noted None later notes i old new then there tied same is = tt
  next-noted (Some note) later notes i old new then there tied same is =
      let begun : new.begun ≡ note.begun = same ∙ sym (tied.same_run i note there) in
      is ∙ ap (λ (one : Beginning S K E). Some (record { begun = one; out = out_of then })) begun

  -- a turn keeps the notes of all passes fitting, with this pass's new one
  pub turn-fits : (notes : List (Note S K E)) (pass number : ℕ) (old entered new : Realm S K E) (back : Option Done) (then : Next)
      (found : Option (Note S K E)) (note : Note S K E)
      → number ≡ pass → entered ≡ old → note ≡ note_after new (out_of then)
      → KeepsTied source output errors old new number back then
      → slice_get notes (pass - 1) ≡ found → MayEnter found back
      → IsTied source output errors entered notes
      → IsTied source output errors new (slice_set notes (pass - 1) note)
  turn-fits notes pass number old entered new back then found note numbered same is keeps there may tied =
      let at = subst (λ (n : ℕ). slice_get notes (n - 1) ≡ found) (sym numbered) there in
      let before = subst (λ (world : Realm S K E). IsTied source output errors world notes) same tied in
      let after = keeps notes before (returns-of found notes number back at may) in
      let named = subst (λ (n : ℕ). IsTied source output errors new (slice_set notes (n - 1) (note_after new (out_of then)))) numbered after in
      subst (λ (one : Note S K E). IsTied source output errors new (slice_set notes (pass - 1) one)) (sym is) named

  -- the notes of all passes being one, the world is of that run
  pub same-begun : (count : ℕ) (note : Note S K E) (world : Realm S K E) → 1 ≤ count
      → IsTied source output errors world (replicate count note) → note.begun ≡ world.begun
  same-begun zero note world some tied = absurd (omega (arith, some))
  same-begun (suc count) note world some tied = tied.same_run 0 note refl

  -- what is left of it is that of its run
  pub ran-boxed : (count : ℕ) (note : Note S K E) (begun : Beginning S K E) (world : Realm S K E) (notes : List (Note S K E)) (ran : Ran S K E) → 1 ≤ count
      → note.begun ≡ begun → notes ≡ replicate count note → IsTied source output errors world notes
      → ((told : List (Note S K E)) → IsTied source output errors world told → IsRan source output errors world.begun ran)
      → IsRan source output errors begun ran
  ran-boxed count note begun world notes ran some of_run are tied leaves =
      let same = same-begun count note world some (subst (λ (list : List (Note S K E)). IsTied source output errors world list) are tied) in
      subst (λ (one : Beginning S K E). IsRan source output errors one ran) (sym same ∙ of_run) (leaves notes tied)

  -- what is left of a world that came back as it was
  pub ran-back : (world back : Realm S K E) (notes : List (Note S K E)) (ran : Ran S K E) → back ≡ world → IsTied source output errors world notes
      → ((told : List (Note S K E)) → IsTied source output errors back told → IsRan source output errors back.begun ran)
      → IsRan source output errors world.begun ran
  ran-back world back notes ran same tied leaves =
      subst (λ (one : Realm S K E). IsRan source output errors one.begun ran) same
      (leaves notes (subst (λ (one : Realm S K E). IsTied source output errors one notes) (sym same) tied))
