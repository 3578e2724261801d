-- Places of threads, whatever a place is, and those of threads that were made.
use Rattle.std.proofs.Common.{◌≡◌, ◌∙◌, ◌+◌, ◌-◌, ◌==◌, ◌≤◌, ℕ, zero, suc, false, List, [], ◌∷◌, ◌++◌, length, drop}
use Rattle.std.proofs.Common.{take, map, Option, Some, None, ap, append-nil, append_assoc, rules, arith, refl, slice_get}
use Rattle.std.proofs.Common.{slice_set, sym, subst}
use Rattle.std.proofs.lemmas.List.{length-append, length-drop, map-append}
use Rattle.std.specs.Option.{option_map}
use Rattle.tt_calls.specs.declared.start.Start.{Start}
use Rattle.tt_calls.specs.Numbers.{at_number, with_at}
use Rattle.tt_calls.specs.declared.reply.Reply.{Reply}
use Rattle.tt_machine.specs.Machine.{Thread, with_new_threads, new_thread, with_reply, thread_with_reply}
use Rattle.tt_threads.specs.Rows.{row_of}
use Rattle.tt_threads.specs.declared.row.Row.{Row}
use Rattle.tt_core.specs.inside.Crew.{AllMade, AreEach}

-- ---- numbers ----

pub plus-zero : (n : ℕ) → n + 0 ≡ n
plus-zero n = omega arith

pub plus-suc : (n k : ℕ) → n + suc k ≡ suc n + k
plus-suc n k = omega arith

pub sub-one : (n : ℕ) → suc n - 1 ≡ n
sub-one n = omega arith

pub not-zero : (n : ℕ) → (suc n == 0) ≡ false
not-zero n = search (rules, arith)

pub add-suc : (n : ℕ) → n + 1 ≡ suc n
add-suc n = omega arith

pub one-more : (n : ℕ) → 1 + n ≡ suc n
one-more n = omega arith

-- the item of a number
pub numbered : {X : Type 0} (xs : List X) (n : ℕ) → at_number xs (suc n) ≡ slice_get xs n
numbered xs n = rw (not-zero n, sub-one n) refl

pub told-is : (threads : List Thread) (number : ℕ) (reply : Reply) (thread : Thread)
    → at_number threads number ≡ Some thread
    → with_reply threads number reply ≡ with_at threads number (thread_with_reply reply thread)
told-is threads number reply thread made = rw made refl

-- ---- lists ----

take-more : {X : Type 0} (xs : List X) (n : ℕ) (x : X) → slice_get xs n ≡ Some x → take (suc n) xs ≡ take n xs ++ x ∷ []
take-more [] n x there = absurd (cc there)
take-more (one ∷ xs) zero x there = let same : one ≡ x = cc there in rw same refl
take-more {X = X} (one ∷ xs) (suc n) x there = ap (λ (list : List X). one ∷ list) (take-more xs n x there)

suc-plus : (n k : ℕ) → suc n + k ≡ suc (n + k)
suc-plus n k = omega arith

zero-plus : (k : ℕ) → 0 + k ≡ k
zero-plus k = omega arith

get-drop : {X : Type 0} (xs : List X) (l n : ℕ) → slice_get (drop l xs) n ≡ slice_get xs (l + n)
get-drop xs zero n = rw (zero-plus n) refl
get-drop [] (suc l) n = refl
get-drop (x ∷ xs) (suc l) n = rw (suc-plus l n) (get-drop xs l n)

length-more : {X : Type 0} (xs : List X) (x : X) → length (xs ++ x ∷ []) ≡ suc (length xs)
length-more [] x = refl
length-more (one ∷ xs) x = ap suc (length-more xs x)

take-whole : {X : Type 0} (n : ℕ) (xs : List X) → length xs ≤ n → take n xs ≡ xs
take-whole zero [] le = refl
take-whole (suc n) [] le = refl
take-whole zero (x ∷ xs) le = absurd (omega (arith, le))
take-whole {X = X} (suc n) (x ∷ xs) le = ap (λ (list : List X). x ∷ list) (take-whole n xs (omega (arith, le)))

-- ---- the start of a thread that was made ----

row-at : (found : Option Row) (begun : Start) → option_map (λ (row : Row). row.start) found ≡ Some begun
    → (row : Row) × (found ≡ Some row) × (row.start ≡ begun)
row-at None begun is = absurd (cc is)
row-at (Some row) begun is = (row, refl, started is)
  where
    started : Some row.start ≡ Some begun → row.start ≡ begun
    started is = cc

started-at : (rows : List Row) (number k : ℕ) (begun : Start) → number ≡ suc k
    → option_map (λ (row : Row). row.start) (row_of rows number) ≡ Some begun → (row : Row) × (slice_get rows k ≡ Some row) × (row.start ≡ begun)
started-at rows number k begun is started =
    let at = subst (λ (n : ℕ). option_map (λ (row : Row). row.start) (row_of rows n) ≡ Some begun) is started in
    row-at (slice_get rows k) begun
    (subst (λ (found : Option Row). option_map (λ (row : Row). row.start) found ≡ Some begun) (numbered rows k) at)

module _ {P : Type 0} (Is : ℕ → Thread → P → Type 0) where
  pub each-length : (n : ℕ) (threads : List Thread) (places : List P)
      → AreEach Is n threads places → length places ≡ length threads
  each-length n [] [] are = refl
  each-length n (thread ∷ threads) (place ∷ places) are = ap suc (each-length (suc n) threads places are.1)
  each-length n [] (place ∷ places) are = absurd are
  each-length n (thread ∷ threads) [] are = absurd are

  pub each-more : (n : ℕ) (threads others : List Thread) (places more : List P)
      → AreEach Is n threads places → AreEach Is (n + length places) others more
      → AreEach Is n (threads ++ others) (places ++ more)
  each-more n [] others [] more are also = subst (λ (k : ℕ). AreEach Is k others more) (plus-zero n) also
  each-more n (thread ∷ threads) others (place ∷ places) more are also = (
    are.0,
    each-more (suc n) threads others places more are.1
        (subst (λ (k : ℕ). AreEach Is k others more) (plus-suc n (length places)) also),
  )
  each-more n [] others (place ∷ places) more are also = absurd are
  each-more n (thread ∷ threads) others [] more are also = absurd are

  -- the thread of a place
  pub record HasThread (number : ℕ) (threads : List Thread) (place : P) (i : ℕ) : Type 0 where
    pub thread : Thread
    pub there : slice_get threads i ≡ Some thread
    pub placed : Is number thread place

  pub each-at : (n i : ℕ) (threads : List Thread) (places : List P) (place : P)
      → AreEach Is n threads places → slice_get places i ≡ Some place → HasThread (n + i) threads place i
  each-at n i [] [] place are there = absurd (cc there)
  each-at n zero (thread ∷ threads) (first ∷ places) place are there =
      let same : first ≡ place = cc there in
      let is = subst (λ (one : P). Is n thread one) same are.0 in
      record { thread = thread; there = refl; placed = subst (λ (k : ℕ). Is k thread place) (sym (plus-zero n)) is }
  each-at n (suc i) (thread ∷ threads) (first ∷ places) place are there =
      let found = each-at (suc n) i threads places place are.1 there in
      record {
        thread = found.thread;
        there = found.there;
        placed = subst (λ (k : ℕ). Is k found.thread place) (sym (plus-suc n i)) found.placed;
      }
  each-at n i [] (first ∷ places) place are there = absurd are
  each-at n i (thread ∷ threads) [] place are there = absurd are

  pub each-none : (n i : ℕ) (threads : List Thread) (places : List P)
      → AreEach Is n threads places → slice_get places i ≡ None → slice_get threads i ≡ None
  each-none n i [] [] are there = refl
  each-none n zero (thread ∷ threads) (first ∷ places) are there = absurd (cc there)
  each-none n (suc i) (thread ∷ threads) (first ∷ places) are there = each-none (suc n) i threads places are.1 there
  each-none n i [] (first ∷ places) are there = absurd are
  each-none n i (thread ∷ threads) [] are there = absurd are

  pub each-set : (n i : ℕ) (threads : List Thread) (places : List P) (thread : Thread) (place : P)
      → AreEach Is n threads places → Is (n + i) thread place
      → AreEach Is n (slice_set threads i thread) (slice_set places i place)
  each-set n i [] [] thread place are is = are
  each-set n zero (first ∷ threads) (one ∷ places) thread place are is =
      (subst (λ (k : ℕ). Is k thread place) (plus-zero n) is, are.1)
  each-set n (suc i) (first ∷ threads) (one ∷ places) thread place are is = (
    are.0,
    each-set (suc n) i threads places thread place are.1
        (subst (λ (k : ℕ). Is k thread place) (plus-suc n i) is),
  )
  each-set n i [] (one ∷ places) thread place are is = absurd are
  each-set n i (first ∷ threads) [] thread place are is = absurd are

  -- all have their places that were made
  pub joined-each : (rows : List Row) (threads : List Thread) (old new : List P)
      → AreEach Is 1 threads old → AllMade Is rows old new → AreEach Is 1 (with_new_threads threads rows) new
  joined-each rows threads old new are all =
      let more = subst (λ (k : ℕ). AreEach Is (suc (length old)) (map new_thread (drop k rows)) all.more)
      (each-length 1 threads old are) all.placed in
      let also = subst (λ (n : ℕ). AreEach Is n (map new_thread (drop (length threads) rows)) all.more) (sym (one-more (length old))) more in
      rw all.pushed (each-more 1 threads (map new_thread (drop (length threads) rows)) old all.more are also)

  -- ---- threads that were made get their places ----

  -- so many of them have
  pub record HaveBegun (rows : List Row) (old new : List P) : Type 0 where
    pub more : List P
    pub pushed : new ≡ old ++ more
    pub placed : AreEach Is (suc (length old)) (map new_thread (take (length more) (drop (length old) rows))) more

  pub none-begun : (rows : List Row) (old : List P) → HaveBegun rows old old
  none-begun rows old = record {
    more = [];
    pushed = sym (append-nil old);
    placed = tt;
  }

  -- one more has
  pub one-begun : (rows : List Row) (old mid new : List P) (number : ℕ) (begun : Start) (place : P)
      → HaveBegun rows old mid → number ≡ length mid + 1
      → option_map (λ (row : Row). row.start) (row_of rows number) ≡ Some begun
      → new ≡ mid ++ place ∷ [] → Is (suc (length mid)) (record { start = begun; replies = [] }) place
      → HaveBegun rows old new
  one-begun rows old mid new number begun place have next started pushed is =
      let m = length have.more in
      let count : length mid ≡ length old + m = rw have.pushed (length-append old have.more) in
      let found = started-at rows number (length mid) begun (next ∙ add-suc (length mid)) started in
      let there : slice_get (drop (length old) rows) m ≡ Some found.0 =
      get-drop rows (length old) m ∙ (subst (λ (n : ℕ). slice_get rows n ≡ Some found.0) count found.1) in
      let thread : new_thread found.0 ≡ record { start = begun; replies = [] } = ap (λ (s : Start). record { start = s; replies = [] }) found.2 in
      let all : map new_thread (take (suc m) (drop (length old) rows)) ≡ map new_thread
      (take m (drop (length old) rows)) ++ record { start = begun; replies = [] } ∷ [] =
      rw (take-more (drop (length old) rows) m found.0 there, map-append new_thread (take m (drop (length old) rows)) (found.0 ∷ []), thread) refl in
      let stands = subst (λ (n : ℕ). Is n (record { start = begun; replies = [] }) place) (ap suc count ∙ sym (suc-plus (length old) m)) is in
      record {
        more = have.more ++ place ∷ [];
        pushed = pushed ∙ ap (λ (places : List P). places ++ place ∷ []) have.pushed ∙ append_assoc old have.more (place ∷ []);
        placed = rw (length-more have.more place, all)
            (each-more (suc (length old)) (map new_thread (take m (drop (length old) rows))) (record { start = begun; replies = [] } ∷ [])
            have.more (place ∷ []) have.placed (stands, tt));
      }

  -- all have
  pub all-begun : (rows : List Row) (old new : List P)
      → HaveBegun rows old new → length rows ≤ length new → AllMade Is rows old new
  all-begun rows old new have le =
      let count : length new ≡ length old + length have.more = rw have.pushed (length-append old have.more) in
      let left : length (drop (length old) rows) ≡ length rows - length old = length-drop (length old) rows in
      record {
        more = have.more;
        pushed = have.pushed;
        placed = rw (← take-whole (length have.more) (drop (length old) rows) (omega (arith, le, count, left))) have.placed;
      }

-- what is so of each thread in its place, is so by what follows from it
pub each-map : {P : Type 0} (Is Like : ℕ → Thread → P → Type 0)
    → ((number : ℕ) (thread : Thread) (place : P) → Is number thread place → Like number thread place)
    → (n : ℕ) (threads : List Thread) (places : List P) → AreEach Is n threads places → AreEach Like n threads places
each-map Is Like follows n [] [] are = tt
each-map Is Like follows n (thread ∷ threads) (place ∷ places) are =
    (follows n thread place are.0, each-map Is Like follows (suc n) threads places are.1)
each-map Is Like follows n [] (place ∷ places) are = absurd are
each-map Is Like follows n (thread ∷ threads) [] are = absurd are

pub made-map : {P : Type 0} (Is Like : ℕ → Thread → P → Type 0)
    → ((number : ℕ) (thread : Thread) (place : P) → Is number thread place → Like number thread place)
    → (rows : List Row) (old new : List P) → AllMade Is rows old new → AllMade Like rows old new
made-map Is Like follows rows old new made = record {
  more = made.more;
  pushed = made.pushed;
  placed = each-map Is Like follows (suc (length old)) (map new_thread (drop (length old) rows)) made.more made.placed;
}

-- the same by the index of a thread
pub each-map-at : {P : Type 0} (Is Like : ℕ → Thread → P → Type 0) (n : ℕ) (threads : List Thread) (places : List P)
    → ((i : ℕ) (thread : Thread) (place : P) → slice_get places i ≡ Some place → Is (n + i) thread place → Like (n + i) thread place)
    → AreEach Is n threads places → AreEach Like n threads places
each-map-at Is Like n [] [] follows are = tt
each-map-at {P = P} Is Like n (thread ∷ threads) (place ∷ places) follows are = (
  subst (λ (k : ℕ). Like k thread place) (plus-zero n)
      (follows 0 thread place refl (subst (λ (k : ℕ). Is k thread place) (sym (plus-zero n)) are.0)),
  each-map-at Is Like (suc n) threads places (λ i one at there is.
      subst (λ (k : ℕ). Like k one at) (plus-suc n i)
      (follows (suc i) one at there (subst (λ (k : ℕ). Is k one at) (sym (plus-suc n i)) is))) are.1,
)
each-map-at Is Like n [] (place ∷ places) follows are = absurd are
each-map-at Is Like n (thread ∷ threads) [] follows are = absurd are
