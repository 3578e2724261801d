-- The list of the threads that wait, as it grows thread by thread.
use Rattle.std.proofs.Common.{◌≡◌, ◌∙◌, ◌≤◌, ◌<◌, ◌+◌, ◌-◌, ◌==◌, ◌↔◌, ◌⊎◌, inl, inr, ℕ, zero, suc, Bool, true, false, List, [], ◌∷◌, ◌++◌}
use Rattle.std.proofs.Common.{length, map, get_or, Some, None, if◌then◌else◌, slice_get, refl, sym, ap, ap₂, subst, arith}
use Rattle.std.specs.List.{Contains}
use Rattle.std.specs.List.Sorted.{IsStrictlyIncreasing}
use Rattle.std.proofs.lemmas.Bool.Decides.{nat_tests}
use Rattle.std.proofs.lemmas.Map.Made.{Contains-tail}
use Rattle.std.proofs.lemmas.List.Elements.{Contains-append_left, Contains-push, Contains-push_cases}
use Rattle.tt_calls.specs.Numbers.{at_number}
use Rattle.tt_machine.proofs.Steps.{same_request}
use Rattle.tt_machine.specs.Machine.{Machine, Thread, ThreadAsks}
use Rattle.tt_machine.specs.Waiting.{AreWaiting, AreWaitingUpTo, HasToWait}
use Rattle.tt_machine.specs.WaitingLaws.{OneWaitingLaw, WaitingGrowsLaw}
use Rattle.tt_shared.specs.Blocking.{blockers}
use Rattle.tt_waits.specs.Waiting.{Waiting}

-- ---- who waits has a number ----

none_at_zero : (threads : List Thread) (thread : Thread) → at_number threads 0 ≡ Some thread → ⊥
none_at_zero threads thread is = cc is

got_within : (threads : List Thread) (i : ℕ) (thread : Thread) → slice_get threads i ≡ Some thread → i < length threads
got_within [] i thread is = absurd (cc is)
got_within (one ∷ threads) zero thread is = omega arith
got_within (one ∷ threads) (suc i) thread is = let within = got_within threads i thread is in omega (arith, within)

numbered_within : (threads : List Thread) (number : ℕ) (thread : Thread) → at_number threads number ≡ Some thread → number ≤ length threads
numbered_within threads number thread is = go (number == 0) refl is
  where
    go : (b : Bool) → (number == 0) ≡ b → (if b then None else slice_get threads (number - 1)) ≡ Some thread → number ≤ length threads
    go true nought is = absurd (cc is)
    go false other is = let within = got_within threads (number - 1) thread is in omega (arith, within)

-- ---- lists that rise ----

in_none : (P : Type 0) {X : Type 0} (q : X) → Contains [] q → P
in_none P q there = absurd (omega (arith, there.1))

abbrev Rising : List ℕ → Type 0
Rising xs = (k : ℕ) → suc k < length xs → get_or xs k 0 < get_or xs (suc k) 0

to_rising : (xs : List ℕ) → IsStrictlyIncreasing xs → Rising xs
to_rising xs up k within =
    let next : k + 1 ≡ suc k = omega arith in
    subst (λ j. get_or xs k 0 < get_or xs j 0) next (up k (omega (arith, within)))

from_rising : (xs : List ℕ) → Rising xs → IsStrictlyIncreasing xs
from_rising xs up k within =
    let next : suc k ≡ k + 1 = omega arith in
    subst (λ j. get_or xs k 0 < get_or xs j 0) next (up k (omega (arith, within)))

rising_more : {X : Type 0} (f : X → ℕ) (xs : List X) (y : X) → Rising (map f xs) → ((x : X) → Contains xs x → f x < f y) → Rising (map f (xs ++ y ∷ []))
rising_more f [] y up below k within = absurd (omega (arith, within))
rising_more f (x ∷ []) y up below zero within = below x (0, omega arith, refl)
rising_more f (x ∷ []) y up below (suc k) within = absurd (omega (arith, within))
rising_more f (x ∷ z ∷ xs) y up below zero within = up 0 (omega arith)
rising_more f (x ∷ z ∷ xs) y up below (suc k) within =
    rising_more f (z ∷ xs) y (λ j more. up (suc j) (omega (arith, more))) (λ q has. below q (suc has.0, omega (arith, has.1), has.2)) k (omega (arith, within))

-- ---- the list ----

abbrev pub waiting_at : ℕ → List ℕ → Waiting
waiting_at thread others = record { thread = thread; others = others }

pub none_waits : (machine : Machine) → AreWaitingUpTo machine 0 []
none_waits machine = record {
  by_number = from_rising [] (λ k within. absurd (omega (arith, within)));
  exactly = λ one. (λ has. in_none _ one has, λ has. absurd (nobody one has.0 has.1));
}
  where
    nobody : (one : Waiting) → HasToWait machine one.thread one.others → one.thread ≤ 0 → ⊥
    nobody one has low =
        let nought : one.thread ≡ 0 = omega (arith, low) in
        none_at_zero machine.threads has.asks.thread (subst (λ number. at_number machine.threads number ≡ Some has.asks.thread) nought has.asks.made)

-- the next thread waits
pub one_more_waits : (machine : Machine) (last next : ℕ) (others : List ℕ) (waiting : List Waiting) → next ≡ suc last → AreWaitingUpTo machine last waiting →
    HasToWait machine next others → AreWaitingUpTo machine next (waiting ++ waiting_at next others ∷ [])
one_more_waits machine last next others waiting is_next are has = record {
  by_number =
      from_rising _
      (rising_more (λ one. one.thread) waiting new (to_rising _ are.by_number) (λ one among. let low = ((are.exactly one).0 among).1 in omega (arith, low, is_next)));
  exactly = λ one. (there one, back one);
}
  where
    new : Waiting
    new = waiting_at next others

    there : (one : Waiting) → Contains (waiting ++ new ∷ []) one → HasToWait machine one.thread one.others × (one.thread ≤ next)
    there one among = go (Contains-push_cases waiting new one among)
      where
        go : Contains waiting one ⊎ (new ≡ one) → HasToWait machine one.thread one.others × (one.thread ≤ next)
        go (inl before) = let old = (are.exactly one).0 before in (old.0, let low = old.1 in omega (arith, low, is_next))
        go (inr same) = subst (λ one. HasToWait machine one.thread one.others × (one.thread ≤ next)) same (has, omega arith)

    -- who waits at that number waits for the same
    is_new : (one : Waiting) → HasToWait machine one.thread one.others → one.thread ≡ next → new ≡ one
    is_new one other same =
        let asks = subst (λ number. ThreadAsks machine number other.request other.serving) same other.asks in
        let request = same_request machine next has.request other.request has.serving other.serving has.asks asks in
        let mine : others ≡ one.others = has.are ∙ ap (λ request. blockers machine.shared next request) request ∙ ap (λ number. blockers machine.shared number other.request) (sym same) ∙ sym other.are in
        ap₂ (λ thread others. waiting_at thread others) (sym same) mine

    back : (one : Waiting) → HasToWait machine one.thread one.others × (one.thread ≤ next) → Contains (waiting ++ new ∷ []) one
    back one other = go (one.thread == next) refl
      where
        go : (b : Bool) → (one.thread == next) ≡ b → Contains (waiting ++ new ∷ []) one
        go true is =
            let same : one.thread ≡ next = grind (arith, nat_tests, is) in
            subst (Contains (waiting ++ new ∷ [])) (is_new one other.0 same) (Contains-push waiting new)
        go false is =
            let low = other.1 in
            let before : one.thread ≤ last = grind (arith, nat_tests, is, low, is_next) in
            Contains-append_left waiting (new ∷ []) one ((are.exactly one).1 (other.0, before))

-- the next thread does not
pub one_more_goes : (machine : Machine) (last next : ℕ) (waiting : List Waiting) → next ≡ suc last → AreWaitingUpTo machine last waiting →
    ((others : List ℕ) → HasToWait machine next others → ⊥) → AreWaitingUpTo machine next waiting
one_more_goes machine last next waiting is_next are goes = record {
  by_number = are.by_number;
  exactly = λ one. (there one, back one);
}
  where
    there : (one : Waiting) → Contains waiting one → HasToWait machine one.thread one.others × (one.thread ≤ next)
    there one among = let old = (are.exactly one).0 among in (old.0, let low = old.1 in omega (arith, low, is_next))

    back : (one : Waiting) → HasToWait machine one.thread one.others × (one.thread ≤ next) → Contains waiting one
    back one other = go (one.thread == next) refl
      where
        go : (b : Bool) → (one.thread == next) ≡ b → Contains waiting one
        go true is =
            let same : one.thread ≡ next = grind (arith, nat_tests, is) in
            absurd (goes one.others (subst (λ number. HasToWait machine number one.others) same other.0))
        go false is =
            let low = other.1 in
            let before : one.thread ≤ last = grind (arith, nat_tests, is, low, is_next) in
            (are.exactly one).1 (other.0, before)

-- all threads were gone through
pub all_wait : (machine : Machine) (last : ℕ) (waiting : List Waiting) → length machine.threads ≤ last → AreWaitingUpTo machine last waiting →
    AreWaiting machine waiting
all_wait machine last waiting many are = record {
  by_number = are.by_number;
  exactly = λ one. (λ has. ((are.exactly one).0 has).0, λ has. (are.exactly one).1 (has, low one has));
}
  where
    low : (one : Waiting) → HasToWait machine one.thread one.others → one.thread ≤ last
    low one has = let within = numbered_within machine.threads one.thread has.asks.thread has.asks.made in omega (arith, within, many)

-- once the run is over nobody waits
pub over_waits : (machine : Machine) (code : ℕ) → machine.shared.over ≡ Some code → AreWaiting machine []
over_waits machine code is = record {
  by_number = from_rising [] (λ k within. absurd (omega (arith, within)));
  exactly = λ one. (λ has. in_none _ one has, λ has. absurd (not_over (sym has.going ∙ is)));
}
  where
    not_over : None ≡ Some code → ⊥
    not_over is = cc is

pub grows : WaitingGrowsLaw
grows = record {
  none = none_waits;
  waits = λ machine last others waiting are has. one_more_waits machine last (suc last) others waiting refl are has;
  goes = λ machine last waiting are goes. one_more_goes machine last (suc last) waiting refl are goes;
  all = all_wait;
  over = over_waits;
}

-- ---- one list ----

tail_rising : {X : Type 0} (f : X → ℕ) (x : X) (xs : List X) → Rising (map f (x ∷ xs)) → Rising (map f xs)
tail_rising f x xs up k within = up (suc k) (omega (arith, within))

above : {X : Type 0} (f : X → ℕ) (x : X) (xs : List X) (q : X) → Rising (map f (x ∷ xs)) → Contains xs q → f x < f q
above f x [] q up there = in_none _ q there
above f x (z ∷ zs) q up (zero, within, is) = let first : f x < f z = up 0 (omega arith) in subst (λ one. f x < f one) is first
above f x (z ∷ zs) q up (suc k, within, is) =
    let first : f x < f z = up 0 (omega arith) in
    let rest : f z < f q = above f z zs q (tail_rising f x (z ∷ zs) up) (k, omega (arith, within), is) in
    omega (arith, first, rest)

least : {X : Type 0} (f : X → ℕ) (x : X) (xs : List X) (q : X) → Rising (map f (x ∷ xs)) → Contains (x ∷ xs) q → f x ≤ f q
least f x xs q up (zero, within, is) = subst (λ one. f x ≤ f one) is (omega arith)
least f x xs q up (suc k, within, is) = let over = above f x xs q up (k, omega (arith, within), is) in omega (arith, over)

same_lists : {X : Type 0} (f : X → ℕ) (xs ys : List X) → Rising (map f xs) → Rising (map f ys) → ((q : X) → Contains xs q ↔ Contains ys q) → xs ≡ ys
same_lists f [] [] up_x up_y same = refl
same_lists f [] (y ∷ ys) up_x up_y same = in_none _ y ((same y).1 (0, omega arith, refl))
same_lists f (x ∷ xs) [] up_x up_y same = in_none _ x ((same x).0 (0, omega arith, refl))
same_lists {X = X} f (x ∷ xs) (y ∷ ys) up_x up_y same =
    ap₂ (λ z zs. z ∷ zs) head (same_lists f xs ys (tail_rising f x xs up_x) (tail_rising f y ys up_y) (λ q. (there q, back q)))
  where
    low : f x ≤ f y
    low = least f x xs y up_x ((same y).1 (0, omega arith, refl))

    high : f y ≤ f x
    high = least f y ys x up_y ((same x).0 (0, omega arith, refl))

    first : Contains (y ∷ ys) x → x ≡ y
    first (zero, within, is) = sym is
    first (suc k, within, is) = let over = above f y ys x up_y (k, omega (arith, within), is) in absurd (omega (arith, over, low))

    head : x ≡ y
    head = first ((same x).0 (0, omega arith, refl))

    there : (q : X) → Contains xs q → Contains ys q
    there q has =
        let over = above f x xs q up_x has in
        Contains-tail y ys q (λ is. let alike : f y ≡ f q = ap f is in omega (arith, over, alike, high)) ((same q).0 (suc has.0, omega (arith, has.1), has.2))

    back : (q : X) → Contains ys q → Contains xs q
    back q has =
        let over = above f y ys q up_y has in
        Contains-tail x xs q (λ is. let alike : f x ≡ f q = ap f is in omega (arith, over, alike, low)) ((same q).1 (suc has.0, omega (arith, has.1), has.2))

pub one_list : OneWaitingLaw
one_list machine one other are those =
    same_lists (λ (waits : Waiting). waits.thread) one other (to_rising _ are.by_number) (to_rising _ those.by_number)
    (λ q. (λ has. (those.exactly q).1 ((are.exactly q).0 has), λ has. (are.exactly q).1 ((those.exactly q).0 has)))
