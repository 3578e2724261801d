-- What the line `deadlock` of a report names takes no step.
use Rattle.std.proofs.Common.{◌≡◌, ◌<◌, ◌⊎◌, inl, inr, ℕ, zero, suc, List, [], ◌∷◌, length, map, flat_map, refl, subst, ap, arith}
use Rattle.std.proofs.lemmas.List.Elements.{Contains-append_cases}
use Rattle.std.specs.List.{Contains}
use Rattle.laws_caught.proofs.Caught.{caught_stay}
use Rattle.laws_caught.specs.CaughtLaws.{AreCaught, DeadlockLaw}
use Rattle.laws_sends.proofs.Weights.{first_of, later_of}
use Rattle.tt_machine.specs.Machine.{Machine}
use Rattle.tt_machine.specs.Waiting.{AreWaiting, WaitsFor}
use Rattle.tt_waits.proofs.WaitLawProofs.{circle_law}
use Rattle.tt_waits.specs.Waiting.{Waiting, edges_from, edges_of}
use Rattle.tt_waits.specs.Walks.{AreTheCaught, edge}
use Rattle.tt_waits.specs.declared.circles.Edge.{Edge}

-- ---- an edge is a thread's wait ----

record FromOne (waiting : List Waiting) (it : Edge) : Type 0 where
  pub one : Waiting
  pub there : Contains waiting one
  pub is_edge : Contains (edges_from one) it

one_more : (first : Waiting) (waiting : List Waiting) (it : Edge) → FromOne waiting it → FromOne (first ∷ waiting) it
one_more first waiting it from = record {
  one = from.one;
  there = later_of first waiting from.one from.there;
  is_edge = from.is_edge;
}

either_one : (first : Waiting) (waiting : List Waiting) (it : Edge) → (Contains (edges_of waiting) it → FromOne waiting it)
    → Contains (edges_from first) it ⊎ Contains (edges_of waiting) it → FromOne (first ∷ waiting) it
either_one first waiting it later (inl here) = record { one = first; there = first_of first waiting; is_edge = here }
either_one first waiting it later (inr there) = one_more first waiting it (later there)

from_one : (waiting : List Waiting) (it : Edge) → Contains (edges_of waiting) it → FromOne waiting it
from_one [] it there = absurd (let no : ⊥ = omega (arith, there.1) in no)
from_one (first ∷ waiting) it there =
    either_one first waiting it (from_one waiting it) (Contains-append_cases (edges_from first) (edges_of waiting) it there)

record IsEdge (others : List ℕ) (from : ℕ) (it : Edge) : Type 0 where
  pub other : ℕ
  pub there : Contains others other
  pub is : edge from other ≡ it

is_edge : (others : List ℕ) (from : ℕ) (it : Edge) → Contains (map (edge from) others) it → IsEdge others from it
is_edge [] from it there = absurd (let no : ⊥ = omega (arith, there.1) in no)
is_edge (other ∷ others) from it (zero, within, is) = record { other = other; there = first_of other others; is = is }
is_edge (other ∷ others) from it (suc k, within, is) =
    let later : IsEdge others from it = is_edge others from it (k, omega (arith, within), is) in
    record { other = later.other; there = later_of other others later.other later.there; is = later.is }

waits_so : (machine : Machine) (waiting : List Waiting) → AreWaiting machine waiting → (t u : ℕ) → Contains (edges_of waiting) (edge t u) → WaitsFor machine t u
waits_so machine waiting are t u there =
    let from : FromOne waiting (edge t u) = from_one waiting (edge t u) there in
    let it : IsEdge from.one.others from.one.thread (edge t u) = is_edge from.one.others from.one.thread (edge t u) from.is_edge in
    subst (λ (number : ℕ). WaitsFor machine number u) (ap (λ (one : Edge). one.from) it.is)
    (record {
      others = from.one.others;
      has_to = (are.exactly from.one).0 from.there;
      is_one = subst (λ (other : ℕ). Contains from.one.others other) (ap (λ (one : Edge). one.to) it.is) it.there;
    })

-- ---- the caught threads wait for one another ----

are_caught : (machine : Machine) (waiting : List Waiting) (caught : List ℕ) → AreWaiting machine waiting → AreTheCaught (edges_of waiting) caught → AreCaught machine caught
are_caught machine waiting caught are exact t among =
    let waits = circle_law (edges_of waiting) t ((exact.exactly t).0 among) in
    record {
      other = waits.other;
      waits = waits_so machine waiting are t waits.other waits.waits;
      among = (exact.exactly waits.other).1 waits.caught;
    }

pub deadlock_stays : DeadlockLaw
deadlock_stays setup input text machine new schedule later waiting ran goes fit are report =
    caught_stay setup input machine new schedule later report.caught ran goes fit
    (are_caught machine waiting report.caught are report.are_caught)
