-- Which threads live among some.
use Rattle.std.proofs.Common.{◌≡◌, ◌≤◌, ◌<◌, ◌∙◌, ◌-◌, ◌==◌, ◌&&◌, ◌||◌, ◌+◌, ℕ, suc, zero, Bool, true, false, IsTrue, IsFalse, cond, List, [], ◌∷◌, length, get_or}
use Rattle.std.proofs.Common.{nat_cmp, ◌↔◌, None, if◌then◌else◌, refl, sym, ap, ap₂, subst, arith, slice_get}
use Rattle.std.specs.List.{Contains, filter, range_with_len}
use Rattle.std.specs.List.Sorted.{IsStrictlyIncreasing, IsStrictlySortedBy}
use Rattle.std.proofs.lemmas.Bool.Decides.{nat_tests}
use Rattle.std.proofs.lemmas.List.FromFn.{get_or-range_with_len, length-range_with_len}
use Rattle.std.proofs.lemmas.List.Kept.{IsStrictlyIncreasing-filter, IsStrictlySortedBy-filter}
use Rattle.std.proofs.lemmas.Map.Keys.{below_from_sorted, sorted_from_strictly_increasing, sorted_tail}
use Rattle.std.proofs.lemmas.Map.Made.{Contains-tail}
use Rattle.tt_locks.specs.Lock.{is_among}
use Rattle.tt_shared.specs.Blocking.{blockers, is_living_among, living_among, waited_for}
use Rattle.tt_shared.specs.BlockingLaws.{AreBlockers, BlockersLaw}
use Rattle.tt_shared.specs.Enabled.{enabled}
use Rattle.tt_shared.specs.State.{State}
use Rattle.tt_threads.specs.Rows.{is_living, is_living_at}
use Rattle.tt_threads.specs.declared.row.Row.{Row}

-- ---- elements of lists ----

module _ {X : Type 0} where
  pub at_head : (x : X) (xs : List X) → Contains (x ∷ xs) x
  at_head x xs = (0, omega arith, refl)

  pub behind : (x : X) (xs : List X) (q : X) → Contains xs q → Contains (x ∷ xs) q
  behind x xs q there = (suc there.0, omega (arith, there.1), there.2)

  -- of the elements of a list the first, or one of the others
  pub by_first : (P : Type 0) (x : X) (xs : List X) (q : X) → (x ≡ q → P) → (Contains xs q → P) → Contains (x ∷ xs) q → P
  by_first P x xs q first other (zero, within, is) = first is
  by_first P x xs q first other (suc k, within, is) = other (k, omega (arith, within), is)

  pub in_none : (P : Type 0) (q : X) → Contains [] q → P
  in_none P q there = absurd (omega (arith, there.1))

  pub filtered_in : (p : X → Bool) (xs : List X) (q : X) → Contains xs q → p q ≡ true → Contains (filter p xs) q
  filtered_in p [] q there is = in_none _ q there
  filtered_in p (x ∷ xs) q there is =
      by_first (Contains (filter p (x ∷ xs)) q) x xs q
      (λ same. subst (λ one. Contains (cond one (x ∷ filter p xs) (filter p xs)) q) (sym (ap p same ∙ is)) (subst (Contains (x ∷ filter p xs)) same (at_head x (filter p xs))))
      (λ later. go (p x) (filtered_in p xs q later is)) there
    where
      go : (b : Bool) → Contains (filter p xs) q → Contains (cond b (x ∷ filter p xs) (filter p xs)) q
      go true has = behind x (filter p xs) q has
      go false has = has

  pub out_of_filter : (p : X → Bool) (xs : List X) (q : X) → Contains (filter p xs) q → Contains xs q × (p q ≡ true)
  out_of_filter p [] q there = in_none _ q there
  out_of_filter p (x ∷ xs) q there = go (p x) refl there (out_of_filter p xs q)
    where
      go : (b : Bool) → p x ≡ b → Contains (cond b (x ∷ filter p xs) (filter p xs)) q → (Contains (filter p xs) q → Contains xs q × (p q ≡ true)) →
          Contains (x ∷ xs) q × (p q ≡ true)
      go true is has below =
          by_first (Contains (x ∷ xs) q × (p q ≡ true)) x (filter p xs) q
          (λ same. (subst (Contains (x ∷ xs)) same (at_head x xs), subst (λ one. p one ≡ true) same is))
          (λ later. let rest = below later in (behind x xs q rest.0, rest.1)) has
      go false is has below = let rest = below has in (behind x xs q rest.0, rest.1)

-- ---- a test for it ----

same_number : (a b : ℕ) → (a == b) ≡ true → a ≡ b
same_number a b is = grind (arith, nat_tests, is)

own_number : (a : ℕ) → (a == a) ≡ true
own_number a = grind (arith, nat_tests)

pub is_in : (threads : List ℕ) (u : ℕ) → is_among threads u ≡ true → Contains threads u
is_in [] u is = absurd (cc is)
is_in (t ∷ threads) u is = go (t == u) refl is (is_in threads u)
  where
    go : (same : Bool) → (t == u) ≡ same → (same || is_among threads u) ≡ true → (is_among threads u ≡ true → Contains threads u) → Contains (t ∷ threads) u
    go true same is later = subst (Contains (t ∷ threads)) (same_number t u same) (at_head t threads)
    go false other is later = behind t threads u (later is)

pub in_is : (threads : List ℕ) (u : ℕ) → Contains threads u → is_among threads u ≡ true
in_is [] u there = in_none _ u there
in_is (t ∷ threads) u there = by_first (is_among (t ∷ threads) u ≡ true) t threads u first (λ later. or_later (t == u) (in_is threads u later)) there
  where
    first : t ≡ u → is_among (t ∷ threads) u ≡ true
    first same = ap (λ b. b || is_among threads u) (subst (λ one. (t == one) ≡ true) same (own_number t))

    or_later : (b : Bool) → is_among threads u ≡ true → (b || is_among threads u) ≡ true
    or_later true is = refl
    or_later false is = is

-- ---- lists by number ----

least : (x : ℕ) (xs : List ℕ) (q : ℕ) → IsStrictlySortedBy nat_cmp (x ∷ xs) → Contains (x ∷ xs) q → x ≤ q
least x xs q up there = by there.0 there.1 there.2
  where
    by : (k : ℕ) → k < length (x ∷ xs) → get_or (x ∷ xs) k q ≡ q → x ≤ q
    by zero within is = omega (arith, is)
    by (suc k) within is =
        let below = below_from_sorted (x ∷ xs) 0 (suc k) q up (omega arith) within in
        omega (arith, below, is)

above : (x : ℕ) (xs : List ℕ) (q : ℕ) → IsStrictlySortedBy nat_cmp (x ∷ xs) → Contains xs q → x < q
above x xs q up there =
    let below = below_from_sorted (x ∷ xs) 0 (suc there.0) q up (omega arith) (omega (arith, there.1)) in
    omega (arith, below, there.2)

-- two lists by number with the same numbers are one
pub one_list : (xs ys : List ℕ) → IsStrictlySortedBy nat_cmp xs → IsStrictlySortedBy nat_cmp ys → ((q : ℕ) → Contains xs q ↔ Contains ys q) → xs ≡ ys
one_list [] [] up_x up_y same = refl
one_list [] (y ∷ ys) up_x up_y same = in_none _ y ((same y).1 (at_head y ys))
one_list (x ∷ xs) [] up_x up_y same = in_none _ x ((same x).0 (at_head x xs))
one_list (x ∷ xs) (y ∷ ys) up_x up_y same =
    ap₂ (λ z zs. z ∷ zs) head (one_list xs ys (sorted_tail nat_cmp x xs up_x) (sorted_tail nat_cmp y ys up_y) (λ q. (there q, back q)))
  where
    head : x ≡ y
    head =
        let low = least y ys x up_y ((same x).0 (at_head x xs)) in
        let high = least x xs y up_x ((same y).1 (at_head y ys)) in
        omega (arith, low, high)

    there : (q : ℕ) → Contains xs q → Contains ys q
    there q has =
        let up = above x xs q up_x has in
        Contains-tail y ys q (λ is. omega (arith, up, is, head)) ((same q).0 (behind x xs q has))

    back : (q : ℕ) → Contains ys q → Contains xs q
    back q has =
        let up = above y ys q up_y has in
        Contains-tail x xs q (λ is. omega (arith, up, is, head)) ((same q).1 (behind y ys q has))

-- ---- numbers of threads ----

range_rises : (a n : ℕ) → IsStrictlyIncreasing (range_with_len a n)
range_rises a n k within =
    let long = length-range_with_len a n in
    let here = get_or-range_with_len a n k 0 (omega (arith, within, long)) in
    let next = get_or-range_with_len a n (k + 1) 0 (omega (arith, within, long)) in
    omega (arith, here, next)

in_range : (a n q : ℕ) → a ≤ q → q < a + n → Contains (range_with_len a n) q
in_range a n q low high =
    let long = length-range_with_len a n in
    (q - a, omega (arith, low, high, long), get_or-range_with_len a n (q - a) q (omega (arith, low, high)) ∙ omega (arith, low))

-- who lives has a number from 1 to that of the last
got_within : (rows : List Row) (i : ℕ) → is_living_at (slice_get rows i) ≡ true → i < length rows
got_within [] i is = absurd (cc is)
got_within (row ∷ rows) zero is = omega arith
got_within (row ∷ rows) (suc i) is = let within = got_within rows i is in omega (arith, within)

lives_within : (rows : List Row) (u : ℕ) → is_living rows u ≡ true → Contains (range_with_len 1 (length rows)) u
lives_within rows u is = go (u == 0) refl is
  where
    go : (b : Bool) → (u == 0) ≡ b → is_living_at (if b then None else slice_get rows (u - 1)) ≡ true → Contains (range_with_len 1 (length rows)) u
    go true zero_is is = absurd (cc is)
    go false other is =
        let some : 1 ≤ u = grind (arith, nat_tests, other) in
        let within = got_within rows (u - 1) is in
        in_range 1 (length rows) u some (omega (arith, within, some))

pub living_are : (state : State) (threads named : List ℕ) → IsStrictlyIncreasing threads → ((u : ℕ) → Contains threads u ↔ Contains named u) →
    filter (λ u. is_living state.rows u) threads ≡ living_among state named
living_are state threads named up same =
    one_list (filter (λ u. is_living state.rows u) threads) (living_among state named)
    (IsStrictlySortedBy-filter nat_cmp (λ u. is_living state.rows u) threads (sorted_from_strictly_increasing threads up))
    (IsStrictlySortedBy-filter nat_cmp (is_living_among state named) (range_with_len 1 (length state.rows))
    (sorted_from_strictly_increasing (range_with_len 1 (length state.rows)) (range_rises 1 (length state.rows)))) (λ q. (there q, back q))
  where
    both : (a b : Bool) → a ≡ true → b ≡ true → (a && b) ≡ true
    both a b first second = cc (first, second)

    there : (q : ℕ) → Contains (filter (λ u. is_living state.rows u) threads) q → Contains (living_among state named) q
    there q has =
        let out = out_of_filter (λ u. is_living state.rows u) threads q has in
        filtered_in (is_living_among state named) (range_with_len 1 (length state.rows)) q (lives_within state.rows q out.1)
        (both (is_living state.rows q) (is_among named q) out.1 (in_is named q ((same q).0 out.0)))

    split : (a b : Bool) → (a && b) ≡ true → (a ≡ true) × (b ≡ true)
    split true b is = (refl, is)
    split false b is = absurd (cc is)

    back : (q : ℕ) → Contains (living_among state named) q → Contains (filter (λ u. is_living state.rows u) threads) q
    back q has =
        let out = out_of_filter (is_living_among state named) (range_with_len 1 (length state.rows)) q has in
        let is = split (is_living state.rows q) (is_among named q) out.1 in
        filtered_in (λ u. is_living state.rows u) threads q ((same q).1 (is_in named q is.1)) is.0

-- ---- the law ----

pub exact : BlockersLaw
exact state t request waits = go (enabled state t request) refl waits
  where
    is : enabled state t request ≡ false → blockers state t request ≡ living_among state (waited_for state t request)
    is off = rw off refl

    named : List ℕ
    named = waited_for state t request

    split : (a b : Bool) → (a && b) ≡ true → (a ≡ true) × (b ≡ true)
    split true b both = (refl, both)
    split false b both = absurd (cc both)

    joined : (a b : Bool) → a ≡ true → b ≡ true → (a && b) ≡ true
    joined a b first second = cc (first, second)

    there : (u : ℕ) → Contains (living_among state named) u → IsTrue (is_living state.rows u) × Contains named u
    there u has =
        let out = out_of_filter (is_living_among state named) (range_with_len 1 (length state.rows)) u has in
        let both = split (is_living state.rows u) (is_among named u) out.1 in
        (both.0, is_in named u both.1)

    back : (u : ℕ) → IsTrue (is_living state.rows u) × Contains named u → Contains (living_among state named) u
    back u has =
        filtered_in (is_living_among state named) (range_with_len 1 (length state.rows)) u (lives_within state.rows u has.0)
        (joined (is_living state.rows u) (is_among named u) has.0 (in_is named u has.1))

    go : (b : Bool) → enabled state t request ≡ b → IsFalse b → AreBlockers state t request
    go true off free = absurd (cc free)
    go false off free = record {
      by_number =
          subst IsStrictlyIncreasing (sym (is off))
          (IsStrictlyIncreasing-filter (is_living_among state named) (range_with_len 1 (length state.rows)) (range_rises 1 (length state.rows)));
      exactly = λ u.
          (λ has. there u (subst (λ list. Contains list u) (is off) has), λ has. subst (λ list. Contains list u) (sym (is off)) (back u has));
    }
