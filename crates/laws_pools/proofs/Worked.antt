-- In an example jobs are asked for as workers do.
use Rattle.std.proofs.Common.{◌≡◌, false, ℕ, List, [], ◌∷◌, codes, refl, subst}
use Rattle.std.proofs.lemmas.List.Elements.{All-cons, All-nil}
use Rattle.std.specs.Fmt.{digits}
use Rattle.std.specs.List.{All}
use Rattle.laws_pools.specs.PoolExamples.{death, pool_with, posts}
use Rattle.laws_pools.specs.PoolWorkers.{AsksAsWorker, IsFreeWorker}
use Rattle.laws_shared.specs.Actions.{after, moments}
use Rattle.laws_shared.specs.Example.{main}
use Rattle.tt_calls.specs.declared.pool_call.PoolCall.TheVariants.{JobTake}
use Rattle.tt_shared.specs.State.{State}
use Rattle.laws_sends.proofs.Cuts.{Every}
use Rattle.tt_calls.specs.declared.request.Request.TheVariants as ask

all_of : {X : Type 0} (P : X → Type 0) (xs : List X) → Every P xs → All P xs
all_of P [] every = All-nil P
all_of P (x ∷ xs) every = All-cons P x xs every.0 (all_of P xs every.1)

by_worker : (state : State) (t : ℕ) (asked text : List ℕ) → ask.Pool (JobTake asked) ≡ ask.Pool (JobTake text) → IsFreeWorker state t asked
    → IsFreeWorker state t text
by_worker state t asked text is free =
    let alike : asked ≡ text = cc is in
    subst (IsFreeWorker state t) alike free

-- the state in which the worker asks
abbrev asking : State
asking = after (after main (pool_with 1)) (posts false)

pub asks_so : All AsksAsWorker (moments main death)
unfolding digits
asks_so = all_of AsksAsWorker (moments main death) (
  λ text is. absurd (cc is),
  (
    λ text is. absurd (cc is),
    (
      λ text is. by_worker asking 2 (codes "tpool1") text is (record { worker = refl; free = refl }),
      (λ text is. absurd (cc is), (λ text is. absurd (cc is), tt)),
    ),
  ),
)
