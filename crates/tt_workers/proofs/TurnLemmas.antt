-- A turn, put together of its rounds.
use Rattle.std.proofs.Common.{◌≡◌, ◌∙◌, ◌-◌, ℕ, true, false, IsSome, IsTrue, List, [], ◌++◌, Option, Some, None, ap, append-nil}
use Rattle.std.proofs.Common.{append_assoc, refl, slice_set, sym, subst}
use Rattle.tt_core.proofs.StepLemmas.{some-none}
use Rattle.tt_run.specs.Desk.{Ground}
use Rattle.tt_devices.specs.declared.sink.Sink.{Ghosts as OfSink}
use Rattle.tt_devices.specs.declared.source.Source.{Ghosts as OfSource}
use Rattle.tt_interp.specs.Interps as interps
use Rattle.tt_workers.proofs.Lists.{get-set-same, set-set}
use Rattle.tt_workers.proofs.TieLemmas.{tied-ended, tied-vacant}
use Rattle.tt_workers.specs.Ran.{Beginning}
use Rattle.tt_workers.specs.inside.Places.{Note}
use Rattle.tt_workers.specs.inside.Rounds.{IsVacant, KeepsVacant, Rounds, TakesBack, Turning}
use Rattle.tt_core.specs.Parts.{IsFirstPart}
use Rattle.tt_workers.specs.inside.Turns.{KeepsTied, MayReturn, Returns, StaysEnded, note_after, out_of}
use Rattle.tt_workers.specs.inside.World.{IsTied, Realm}
use Rattle.tt_workers.specs.declared.next.Done.{Done}
use Rattle.tt_workers.specs.declared.next.Resumption.TheVariants.{Halted}
use Rattle.tt_workers.specs.declared.next.Next.{Next}
use Rattle.tt_workers.specs.declared.next.RunEnd.{RunEnd}
use Rattle.tt_workers.specs.declared.next.Task.{Task}
use Rattle.tt_workers.specs.declared.place.Place.{Place}

-- ---- parts of lists ----

pub whole-part : (list : List ℕ) → IsFirstPart list list
whole-part list = record { rest = []; cut = sym (append-nil list) }

pub part-same : (part whole : List ℕ) → whole ≡ part → IsFirstPart part whole
part-same part whole is = record { rest = []; cut = is ∙ sym (append-nil part) }

pub part-more : (part mid whole : List ℕ) → IsFirstPart part mid → IsFirstPart mid whole → IsFirstPart part whole
part-more part mid whole one other = record {
  rest = one.rest ++ other.rest;
  cut = other.cut ∙ (ap (λ (list : List ℕ). list ++ other.rest) one.cut ∙ append_assoc part one.rest other.rest);
}

-- no end is kept
pub not-ended : (end : Option RunEnd) (P : Type 0) → end ≡ None → IsSome end → P
not-ended None P is some = absurd (no some)
  where
    no : false ≡ true → ⊥
    no is = cc
not-ended (Some end) P is some = absurd (some-none is)

module _ {S K E : Type 0} where
  -- ---- an end that was kept ----

  pub stays-same : (world : Realm S K E) → StaysEnded world world
  stays-same world = record { end = refl; schedule = refl; devices = refl }

  pub stays-more : (old mid new : Realm S K E)
      → (IsSome old.end → StaysEnded old mid) → (IsSome mid.end → StaysEnded mid new) → IsSome old.end → StaysEnded old new
  stays-more old mid new one other is =
      let first = one is in
      let then = other (subst (λ (end : Option RunEnd). IsSome end) (sym first.end) is) in
      record { end = then.end ∙ first.end; schedule = then.schedule ∙ first.schedule; devices = then.devices ∙ first.devices }

  -- ---- notes of a pass ----

  pub vacant-none : (notes : List (Note S K E)) (pass : ℕ) → Returns notes pass None → IsVacant notes pass
  vacant-none notes pass returns = record { note = returns.note; noted = returns.noted; empty = nobody returns.note.out returns.may }
    where
      nobody : (out : Option Task) → MayReturn out None → out ≡ None
      nobody None may = refl
      nobody (Some task) may = absurd may

  pub vacant-set : (notes : List (Note S K E)) (pass : ℕ) (brought : Option Done) (begun : Beginning S K E) → Returns notes pass brought
      → IsVacant (slice_set notes (pass - 1) (record { begun = begun; out = None })) pass
  vacant-set notes pass brought begun returns = record {
    note = record { begun = begun; out = None };
    noted = get-set-same notes (pass - 1) (record { begun = begun; out = None }) returns.note returns.noted;
    empty = refl;
  }

module _ {S K E : Type 0} (source : OfSource S) (output : OfSink K) (errors : OfSink E) where
  -- nothing is done
  pub tied-quiet : (begun : Beginning S K E) (desk : Ground S K E) (places : List Place) (end : Option RunEnd) (notes : List (Note S K E)) (pass : ℕ)
      → IsVacant notes pass
      → IsTied source output errors (record { begun = begun; desk = desk; places = places; end = end }) notes
      → IsTied source output errors (record { begun = begun; desk = desk; places = places; end = end })
      (slice_set notes (pass - 1) (record { begun = begun; out = None }))
  tied-quiet begun desk places None notes pass vacant tied = tied-vacant source output errors begun desk places notes pass vacant tied
  tied-quiet begun desk places (Some end) notes pass vacant tied = tied-ended source output errors begun desk places places end notes (pass - 1) None tied

  -- nothing was brought
  pub turning-none : (pass : ℕ) (old : Realm S K E) (notes : List (Note S K E)) → IsTied source output errors old notes
      → Turning source output errors pass None old old
  turning-none pass old notes tied = record {
    keeps = λ some is returns. tied-quiet old.begun old.desk old.places old.end some pass (vacant-none some pass returns) is;
    begun = refl;
    kept = tied.counted.kept;
    within = tied.counted.within;
    longer = whole-part old.desk.schedule;
    ended = λ is. stays-same old;
  }

  -- a thread came back
  pub turning-back : (pass : ℕ) (done : Done) (old new : Realm S K E) (notes : List (Note S K E)) → IsTied source output errors old notes
      → TakesBack source output errors done old new → Turning source output errors pass (Some done) old new
  turning-back pass done old new notes tied back = record {
    keeps = λ some is returns. back.keeps some pass is returns;
    begun = back.begun;
    kept = back.kept;
    within = rw (back.schedule, back.begun) tied.counted.within;
    longer = part-same old.desk.schedule new.desk.schedule back.schedule;
    ended = back.ended;
  }

  turned : (pass : ℕ) (done : Option Done) (old mid new : Realm S K E) (out : Option Task) → Turning source output errors pass done old mid
      → KeepsVacant source output errors mid new pass out
      → (notes : List (Note S K E)) → IsTied source output errors old notes → Returns notes pass done
      → IsTied source output errors new (slice_set notes (pass - 1) (note_after new out))
  turned pass done old mid new out so_far keeps notes tied returns =
      subst (λ (some : List (Note S K E)). IsTied source output errors new some)
      (set-set notes (pass - 1) (note_after mid None) (note_after new out))
      (keeps (slice_set notes (pass - 1) (note_after mid None)) (so_far.keeps notes tied returns)
      (vacant-set notes pass done mid.begun returns))

  -- a round more
  pub turning-round : (pass : ℕ) (done : Option Done) (old mid new : Realm S K E) → Turning source output errors pass done old mid
      → KeepsVacant source output errors mid new pass None → Rounds pass mid new None → Turning source output errors pass done old new
  turning-round pass done old mid new so_far keeps round = record {
    keeps = turned pass done old mid new None so_far keeps;
    begun = round.begun ∙ so_far.begun;
    kept = round.kept;
    within = round.within;
    longer = part-more old.desk.schedule mid.desk.schedule new.desk.schedule so_far.longer round.longer;
    ended = stays-more old mid new so_far.ended round.ended;
  }

  -- the last round
  pub turned-last : (pass : ℕ) (done : Option Done) (old mid new : Realm S K E) (next : Next) → Turning source output errors pass done old mid
      → KeepsVacant source output errors mid new pass (out_of next) → KeepsTied source output errors old new pass done next
  turned-last pass done old mid new next so_far keeps = turned pass done old mid new (out_of next) so_far keeps

-- what comes back halts
pub may-halted : (out : Option Task) (back : Done) → MayReturn out (Some back) → back.resumption ≡ Halted → IsTrue (interps.is_halted back.interp.standing)
may-halted None back may halted = absurd may
may-halted (Some task) back may halted = may.halted halted
