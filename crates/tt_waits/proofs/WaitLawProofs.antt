-- What holds of caught threads.
use Rattle.std.proofs.Common.{◌≡◌, ℕ, zero, suc, ◌<◌, ◌≤◌, List, [], ◌∷◌, length, get_or, nat_cmp, ◌↔◌}
use Rattle.std.proofs.Common.{refl, ap₂, subst, arith}
use Rattle.std.specs.List.{Contains}
use Rattle.std.specs.List.Sorted.{IsStrictlySortedBy}
use Rattle.std.proofs.lemmas.Map.Keys.{below_from_sorted, sorted_from_strictly_increasing, sorted_tail}
use Rattle.std.proofs.lemmas.Map.Made.{Contains-tail}
use Rattle.tt_waits.specs.Walks.{Walks, one_edge, one_more, AreTheCaught, IsCaught}
use Rattle.tt_waits.specs.WaitLaws.{WaitsForCaught, CircleLaw, NoCircleLaw, OneListLaw}
use Rattle.tt_waits.specs.declared.circles.Edge.{Edge}

-- ---- a caught thread waits for one ----

then_walks : (edges : List Edge) {a b c : ℕ} → Walks edges a b → Walks edges b c → Walks edges a c
then_walks edges (one_edge given) later = one_more given later
then_walks edges (one_more given walk) later = one_more given (then_walks edges walk later)

first_waits : (edges : List Edge) {a b : ℕ} → Walks edges a b → Walks edges b a → WaitsForCaught edges a
first_waits edges (one_edge {to = b} given) back = record { other = b; waits = given; caught = then_walks edges back (one_edge given) }
first_waits edges (one_more {stop = s} given walk) back =
    record { other = s; waits = given; caught = then_walks edges walk (then_walks edges back (one_edge given)) }

pub circle_law : CircleLaw
circle_law edges thread walk = first_waits edges walk walk

-- ---- no thread is caught ----

pub no_circle_law : NoCircleLaw
no_circle_law edges threads are = (none, empty threads are)
  where
    none : threads ≡ [] → (thread : ℕ) → IsCaught edges thread → ⊥
    none is thread walk =
        let there = subst (λ ts. Contains ts thread) is ((are.exactly thread).1 walk) in
        omega (arith, there.1)

    empty : (ts : List ℕ) → AreTheCaught edges ts → ((thread : ℕ) → IsCaught edges thread → ⊥) → ts ≡ []
    empty [] those never = refl
    empty (t ∷ ts) those never = absurd (never t ((those.exactly t).0 (0, omega arith, refl)))

-- ---- one list ----

least : (x : ℕ) (xs : List ℕ) (q : ℕ) → IsStrictlySortedBy nat_cmp (x ∷ xs) → Contains (x ∷ xs) q → x ≤ q
least x xs q up there = by there.0 there.1 there.2
  where
    by : (k : ℕ) → k < length (x ∷ xs) → get_or (x ∷ xs) k q ≡ q → x ≤ q
    by zero within is = omega (arith, is)
    by (suc k) within is =
        let below = below_from_sorted (x ∷ xs) 0 (suc k) q up (omega arith) within in
        omega (arith, below, is)

above : (x : ℕ) (xs : List ℕ) (q : ℕ) → IsStrictlySortedBy nat_cmp (x ∷ xs) → Contains xs q → x < q
above x xs q up there =
    let below = below_from_sorted (x ∷ xs) 0 (suc there.0) q up (omega arith) (omega (arith, there.1)) in
    omega (arith, below, there.2)

later : (x : ℕ) (xs : List ℕ) (q : ℕ) → Contains xs q → Contains (x ∷ xs) q
later x xs q there = (suc there.0, omega (arith, there.1), there.2)

same_lists : (xs ys : List ℕ) → IsStrictlySortedBy nat_cmp xs → IsStrictlySortedBy nat_cmp ys → ((q : ℕ) → Contains xs q ↔ Contains ys q) → xs ≡ ys
same_lists [] [] up_x up_y same = refl
same_lists [] (y ∷ ys) up_x up_y same = let there = (same y).1 (0, omega arith, refl) in absurd (omega (arith, there.1))
same_lists (x ∷ xs) [] up_x up_y same = let there = (same x).0 (0, omega arith, refl) in absurd (omega (arith, there.1))
same_lists (x ∷ xs) (y ∷ ys) up_x up_y same =
    ap₂ (λ z zs. z ∷ zs) head (same_lists xs ys (sorted_tail nat_cmp x xs up_x) (sorted_tail nat_cmp y ys up_y) (λ q. (there q, back q)))
  where
    head : x ≡ y
    head =
        let low = least y ys x up_y ((same x).0 (0, omega arith, refl)) in
        let high = least x xs y up_x ((same y).1 (0, omega arith, refl)) in
        omega (arith, low, high)

    there : (q : ℕ) → Contains xs q → Contains ys q
    there q has =
        let up = above x xs q up_x has in
        Contains-tail y ys q (λ is. omega (arith, up, is, head)) ((same q).0 (later x xs q has))

    back : (q : ℕ) → Contains ys q → Contains xs q
    back q has =
        let up = above y ys q up_y has in
        Contains-tail x xs q (λ is. omega (arith, up, is, head)) ((same q).1 (later y ys q has))

pub one_list_law : OneListLaw
one_list_law edges one other are those =
    same_lists one other (sorted_from_strictly_increasing one are.by_number) (sorted_from_strictly_increasing other those.by_number)
    (λ q. (λ has. (those.exactly q).1 ((are.exactly q).0 has), λ has. (are.exactly q).1 ((those.exactly q).0 has)))
