-- Counts of steps, with one entry more.
use Rattle.std.proofs.Common.{◌≡◌, ℕ, zero, suc, ◌+◌, ◌<◌, ◌≤◌, ◌==◌, Bool, true, false, cond, [], ◌∷◌, ◌++◌, Option, Some, length, refl, sym, ap}
use Rattle.std.proofs.Common.{subst, arith}
use Rattle.std.proofs.lemmas.Bool.{eq-eqb, eqb-true}
use Rattle.std.proofs.lemmas.Option.{none-some}
use Rattle.tt_before.proofs.Places.{some_same}
use Rattle.tt_before.specs.Orders.{Link, LinkAt}
use Rattle.tt_before.specs.inside.Clocks.{Links, is_of, rank, steps_of}

pub steps_more : (t : ℕ) (all : Links) (one : Option Link) → steps_of t (all ++ one ∷ []) ≡ steps_of t all + is_of t one
steps_more t [] one = omega arith
steps_more t (first ∷ all) one = let later = steps_more t all one in omega (arith, later)

pub rank_old : (t : ℕ) (all : Links) (one : Option Link) (i : ℕ) → i < length all → rank t (all ++ one ∷ []) i ≡ rank t all i
rank_old t [] one i small = absurd (omega (arith, small))
rank_old t (first ∷ all) one zero small = refl
rank_old t (first ∷ all) one (suc i) small = ap (λ n. is_of t first + n) (rank_old t all one i (omega (arith, small)))

pub rank_end : (t : ℕ) (all : Links) (one : Option Link) → rank t (all ++ one ∷ []) (length all) ≡ steps_of t all + is_of t one
rank_end t [] one = omega arith
rank_end t (first ∷ all) one = let later = rank_end t all one in omega (arith, later)

pub rank_most : (t : ℕ) (all : Links) (i : ℕ) → rank t all i ≤ steps_of t all
rank_most t [] i = omega arith
rank_most t (first ∷ all) zero = omega arith
rank_most t (first ∷ all) (suc i) = let later = rank_most t all i in omega (arith, later)

pub own_one : (t : ℕ) (link : Link) → link.thread ≡ t → is_of t (Some link) ≡ 1
own_one t link eq = ap (λ b. cond b 1 0) (eq-eqb link.thread t eq)

pub other_none : (t : ℕ) (link : Link) → (link.thread ≡ t → ⊥) → is_of t (Some link) ≡ 0
other_none t link differ = by (link.thread == t) refl
  where
    by : (b : Bool) → (link.thread == t) ≡ b → is_of t (Some link) ≡ 0
    by true is = absurd (differ (eqb-true link.thread t is))
    by false is = ap (λ b. cond b 1 0) is

-- the step of a thread is counted
pub rank_least : (all : Links) (i : ℕ) (link : Link) → LinkAt all i link → 0 < rank link.thread all i
rank_least [] i link there = absurd (none-some (Some link) there)
rank_least (first ∷ all) zero link there =
    let one = own_one link.thread link refl in
    subst (λ f. 0 < is_of link.thread f) (sym (some_same there)) (omega (arith, one))
rank_least (first ∷ all) (suc i) link there = let later = rank_least all i link there in omega (arith, later)
