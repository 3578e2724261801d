-- What a worker knows of its pass's note between its turns and its rounds.
use Rattle.std.specs.Prelude.{◌≡◌, ⊤, Option, Some, None}
use Rattle.tt_workers.specs.inside.Places.{Note}
use Rattle.tt_workers.specs.inside.Turns.{MayReturn, out_of}
use Rattle.tt_workers.specs.declared.next.Done.{Done}
use Rattle.tt_workers.specs.declared.carrier.Round.{Round}
use Rattle.tt_workers.specs.declared.carrier.Round.TheVariants.{Goes, Over}
use Rattle.tt_workers.specs.declared.next.Next.{Next}
use Rattle.tt_workers.specs.declared.next.Task.{Task}

-- there is a note, of which this holds
abbrev pub IsNoted : {N : Type 0} → (N → Type 0) → Option N → Type 0
IsNoted fact None = ⊥
IsNoted fact (Some note) = fact note

module _ {S K E : Type 0} where
  -- there is a note, by which this comes back
  abbrev pub MayEnter : Option (Note S K E) → Option Done → Type 0
  MayEnter None back = ⊥
  MayEnter (Some note) back = MayReturn note.out back

  -- the note of the same run, by which this is out
  abbrev pub IsNotedNext : (old new : Option (Note S K E)) → Next → Type 0
  IsNotedNext None new next = ⊤
  IsNotedNext (Some note) new next = new ≡ Some (record { begun = note.begun; out = out_of next })

  -- after a round it is of the same run: what is brought comes back by it, or nobody is out
  abbrev pub IsRound : (old new : Option (Note S K E)) → Round → Type 0
  IsRound None new round = ⊤
  IsRound (Some note) new (Goes back) =
      (out : Option Task) × (new ≡ Some (record { begun = note.begun; out = out })) × MayReturn out back
  IsRound (Some note) new Over = new ≡ Some (record { begun = note.begun; out = None })
