-- For callers: the passes of a lock, as it was made and after work by each of them, and their notes.
use Rattle.std.proofs.Common.{◌≡◌, ℕ, zero, suc, ◌+◌, ◌-◌, ◌<◌, ◌≤◌, List, [], ◌∷◌, ◌++◌, length, get_or, take, drop}
use Rattle.std.proofs.Common.{replicate, slice_get, append-nil, sym, refl, ap, ◌∙◌, subst, arith, Some, None}
use Rattle.std.specs.List.{All}
use Rattle.std.proofs.lemmas.List.{drop_all, take_all}
use Rattle.std.proofs.lemmas.Option.{slice_get_read, slice_get-get_or}
use Rattle.tt_noted.specs.declared.tie.Tie.{Ghosts}
use Rattle.tt_noted.specs.declared.pass.Pass.{Pass}
use Rattle.tt_noted.specs.declared.noted.Noted.{Noted}
use Rattle.tt_noted.specs.Passes.{count_of, number_of, note_of, turn_of, IsPassOf, IsSamePass, Tells, IsFresh, AreFresh, AreAllPassesOf}

module _ {A : Type 0} where
  element : (xs : List A) (i : ℕ) → i < length xs → (x : A) × (get_or xs i x ≡ x)
  element [] i inside = absurd (omega arith)
  element (x ∷ xs) zero inside = (x, refl)
  element (x ∷ xs) (suc i) inside = element xs i (omega arith)

  either_default : (xs : List A) (i : ℕ) (a b : A) → i < length xs → get_or xs i a ≡ get_or xs i b
  either_default [] i a b inside = absurd (omega arith)
  either_default (x ∷ xs) zero a b inside = refl
  either_default (x ∷ xs) (suc i) a b inside = either_default xs i a b (omega arith)

  -- what a vector has once a slice of all of it was written
  written_back : (xs ys : List A) (n : ℕ) → length ys ≡ length xs → n ≡ length xs → take n (ys ++ drop (length ys) xs) ≡ ys
  written_back xs ys n long whole =
      ap (λ zs. take n (ys ++ zs)) (drop_all (length ys) xs (omega arith)) ∙ (ap (take n) (append-nil ys) ∙ take_all n ys (omega arith))

  -- a list that has one and the same at each place
  all_one : (xs : List A) (x : A) (n : ℕ) → length xs ≡ n → ((place : ℕ) → place < n → slice_get xs place ≡ Some x) → xs ≡ replicate n x
  all_one [] x zero long each = refl
  all_one [] x (suc n) long each = absurd (omega arith)
  all_one (y ∷ ys) x zero long each = absurd (omega arith)
  all_one (y ∷ ys) x (suc n) long each = let first : Some y ≡ Some x = each 0 (omega arith) in let same : y ≡ x = cc in
      let more = all_one ys x n (omega arith) (λ place inside. each (suc place) (omega arith)) in cc

module _ {T S N : Type 0} {tie : Ghosts T S N} (lock : Noted T S N) where
  -- the passes of a new lock are all of its passes
  pub all_fresh : (n : ℕ) (note : N) (passes : List (Pass T S N tie)) → AreFresh lock n note passes → count_of lock ≡ n → AreAllPassesOf lock passes
  all_fresh n note passes fresh count = record {
    of_lock = λ k d inside. (fresh.1 k (get_or passes k d) (slice_get-get_or passes k d inside)).of_lock;
    no_turn = λ k d inside. (fresh.1 k (get_or passes k d) (slice_get-get_or passes k d inside)).no_turn;
    all = λ number above below. let long = fresh.0 in let inside : number - 1 < length passes = omega arith in let x = element passes (number - 1) inside in
        let is = (fresh.1 (number - 1) x.0 (slice_get_read passes (length passes) (number - 1) x.0 refl inside (sym x.1))).numbered in
        (number - 1, x.0, inside, x.1, omega arith);
  }

  -- the pass at index i of a slice of all of them
  pub fresh_at : (n : ℕ) (note : N) (passes slice : List (Pass T S N tie)) → AreFresh lock n note passes → slice ≡ passes → (i : ℕ) (p : Pass T S N tie) →
      i < length slice → p ≡ get_or slice i p → IsFresh lock note i p
  fresh_at n note passes slice fresh same i p inside at =
      fresh.1 i p (slice_get_read passes (length passes) i p refl (subst (λ (xs : List (Pass T S N tie)). i < length xs) same inside)
      (at ∙ ap (λ (xs : List (Pass T S N tie)). get_or xs i p) same))

  -- they still are where each is the same pass as before, with no turn out
  all_same : (before after : List (Pass T S N tie)) → AreAllPassesOf lock before → length after ≡ length before
      → ((i : ℕ) (d : Pass T S N tie) → i < length before → IsSamePass lock (get_or before i d) (get_or after i d) × (turn_of (get_or after i d) ≡ None)) →
      AreAllPassesOf lock after
  all_same before after are long same = record {
    of_lock = λ k d inside. (same k d (omega arith)).0.0;
    no_turn = λ k d inside. (same k d (omega arith)).1;
    all = λ number above below. let t = are.all number above below in let old : t.0 < length before = t.2 in let inside : t.0 < length after = omega arith in let d : Pass T S N tie = t.1 in
        let did = same t.0 d old in
        (t.0, get_or after t.0 d, inside, either_default after t.0 (get_or after t.0 d) d inside, did.0.1 ∙ (ap number_of t.3 ∙ t.4));
  }

  -- the same of a vector of n passes, of which a slice was written, pass by pass
  pub all_written : (before slice after : List (Pass T S N tie)) (n : ℕ) → AreAllPassesOf lock before → slice ≡ before → length after ≡ length slice →
      n ≡ length before
      → ((i : ℕ) (d : Pass T S N tie) → i < length slice → (x y : Pass T S N tie) × (x ≡ get_or slice i d) × (y ≡ get_or after i d) × IsSamePass lock x y
      × (turn_of y ≡ None))
      → AreAllPassesOf lock (take n (after ++ drop (length after) before))
  all_written before slice after n are same long whole each = let as_long : length after ≡ length before = long ∙ ap length same in
      subst (AreAllPassesOf lock) (sym (written_back before after n as_long whole)) (all_same before after are as_long (λ i d inside.
      let t = each i d (subst (λ (xs : List (Pass T S N tie)). i < length xs) (sym same) inside) in
      let was : t.0 ≡ get_or before i d = t.2 ∙ ap (λ (xs : List (Pass T S N tie)). get_or xs i d) same in
      subst (λ (z : Pass T S N tie × Pass T S N tie). IsSamePass lock z.0 z.1 × (turn_of z.1 ≡ None)) (λ j. (was j, t.3 j)) (t.4, t.5)))

  -- a fact of each pass that was written is a fact of all of the vector
  pub all_with : (P : Pass T S N tie → Type 0) (before slice after : List (Pass T S N tie)) (n : ℕ) → slice ≡ before → length after ≡ length slice →
      n ≡ length before
      → ((i : ℕ) (d : Pass T S N tie) → i < length slice → (y : Pass T S N tie) × (y ≡ get_or after i d) × P y)
      → All P (take n (after ++ drop (length after) before))
  all_with P before slice after n same long whole each = let as_long : length after ≡ length before = long ∙ ap length same in
      subst (All P) (sym (written_back before after n as_long whole)) (λ i d inside.
      let t = each i d (omega arith) in subst P t.1 t.2)

  -- a pass's number is at most the number of passes
  pub number_within : (pass : Pass T S N tie) → IsPassOf lock pass → number_of pass ≤ count_of lock
  number_within pass of_lock = subst (λ count. pass.number ≤ count) of_lock.1 pass.counted

  -- the note that a number's pass has stands at its place
  noted_at : (passes : List (Pass T S N tie)) (notes : List N) (note : N) → AreAllPassesOf lock passes → All (Tells notes) passes →
      All (λ p. note_of p ≡ Some note) passes
      → (place : ℕ) → place < count_of lock → slice_get notes place ≡ Some note
  noted_at passes notes note are tell noted place within = let t = are.all (place + 1) (omega arith) (omega arith) in
      let p : Pass T S N tie = t.1 in let told = tell t.0 p t.2 in let has = noted t.0 p t.2 in
      let at : number_of (get_or passes t.0 p) ≡ place + 1 = ap number_of t.3 ∙ t.4 in let here : number_of (get_or passes t.0 p) - 1 ≡ place = omega arith in
      ap (slice_get notes) (sym here) ∙ told ∙ has

  -- notes that all passes have, if each has one and the same, are that note for each pass
  pub one_note_each : (passes : List (Pass T S N tie)) (notes : List N) (note : N) → AreAllPassesOf lock passes → length notes ≡ count_of lock →
      All (Tells notes) passes
      → All (λ p. note_of p ≡ Some note) passes → notes ≡ replicate (count_of lock) note
  one_note_each passes notes note are long tell noted =
      all_one notes note (count_of lock) long (noted_at passes notes note are tell noted)
