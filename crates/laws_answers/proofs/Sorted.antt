-- Every list of items has one in order: the items go in one after the other.
use Rattle.std.proofs.Common.{◌≡◌, ◌∙◌, ◌<◌, ◌+◌, ℕ, zero, suc, Bool, true, false, not, ◌&&◌, cond, List, [], ◌∷◌}
use Rattle.std.proofs.Common.{Option, Some, None, ap, arith, get_or, length, refl, subst, sym}
use Rattle.std.proofs.lemmas.List.MinMax.{ranks_by}
use Rattle.std.proofs.lemmas.List.Sorted.{IsPermutation-cons, IsPermutation-insert, IsPermutation-refl, IsPermutation-trans}
use Rattle.std.specs.Cmp.{IsStrictWeakOrder}
use Rattle.std.specs.List.{AllByRecursion, filter, insert}
use Rattle.std.specs.List.Sorted.{IsPermutation, IsSorted, ties}
use Rattle.std.specs.Ordering.{is_lt}
use Rattle.std.specs.declared.cmp.Ordering.{Ordering}
use Rattle.tt_list_commands.proofs.Equals.{order-total}
use Rattle.tt_list_commands.specs.SortFunction.{in_order, with_item}
use Rattle.tt_list_commands.specs.Sorting.{IsInOrder, IsSortAnswer, IsSortIn, IsSortUnless, fault_of, order, sort_result}
use Rattle.tt_list_commands.specs.declared.sorting.Sorting.{Sorting}
use Rattle.tt_lists.specs.Messages.{list_message}
use Rattle.tt_lists.specs.Reading.{split_of}
use Rattle.tt_lists.specs.Spelling.{list_of}
use Rattle.tt_lists.specs.declared.answer.ListAnswer.{ListAnswer}
use Rattle.tt_lists.specs.declared.answer.ListAnswer.TheVariants.{Made, Bad}
use Rattle.tt_lists.specs.declared.items.Split.{Split}
use Rattle.tt_lists.specs.declared.items.Split.TheVariants as split

both : (a b : Bool) → (not a && not b) ≡ true → (a ≡ false) × (b ≡ false)
both false false e = (refl, refl)
both false true e = absurd (cc e)
both true b e = absurd (cc e)

-- ---- an item goes in ----

module _ {X : Type 0} (cmp : X → X → Ordering) where
  less : X → X → Bool
  less a b = is_lt (cmp a b)

  -- none of these is less than x
  Least : X → List X → Type 0
  Least x xs = AllByRecursion (λ y. is_lt (cmp y x) ≡ false) xs

  -- all of them and no others
  placed : (x : X) (xs : List X) → (place : ℕ) × (with_item cmp x xs ≡ insert xs place x)
  placed x [] = (0, refl)
  placed x (y ∷ xs) = by (is_lt (cmp y x)) (placed x xs)
    where
      by : (b : Bool) → (place : ℕ) × (with_item cmp x xs ≡ insert xs place x) →
          (place : ℕ) × (cond b (y ∷ with_item cmp x xs) (x ∷ y ∷ xs) ≡ insert (y ∷ xs) place x)
      by true rest = (suc rest.0, ap (λ l. y ∷ l) rest.1)
      by false rest = (0, refl)

  pub permutes : (xs : List X) → IsPermutation xs (in_order cmp xs)
  permutes [] = IsPermutation-refl []
  permutes (x ∷ xs) =
      let at = placed x (in_order cmp xs) in
      IsPermutation-trans (x ∷ xs) (x ∷ in_order cmp xs) (with_item cmp x (in_order cmp xs)) (IsPermutation-cons x xs (in_order cmp xs) (permutes xs))
      (subst (IsPermutation (x ∷ in_order cmp xs)) (sym at.1) (IsPermutation-insert (in_order cmp xs) at.0 x))

  -- ---- none is less than the one before it ----

  Ascends : List X → Type 0
  Ascends [] = Unit {0}
  Ascends (x ∷ xs) = AllByRecursion (λ y. is_lt (cmp y x) ≡ false) xs × Ascends xs

  module _ (weak : IsStrictWeakOrder (λ a b. is_lt (cmp a b))) where
    all-placed : (P : X → Type 0) (x : X) (xs : List X) → P x → AllByRecursion P xs → AllByRecursion P (with_item cmp x xs)
    all-placed P x [] one all = (one, tt)
    all-placed P x (y ∷ xs) one all = by (is_lt (cmp y x)) (all-placed P x xs one all.1)
      where
        by : (b : Bool) → AllByRecursion P (with_item cmp x xs) → AllByRecursion P (cond b (y ∷ with_item cmp x xs) (x ∷ y ∷ xs))
        by true rest = (all.0, rest)
        by false rest = (one, all)

    least-later : (x y : X) (xs : List X) → is_lt (cmp y x) ≡ false → AllByRecursion (λ z. is_lt (cmp z y) ≡ false) xs
        → AllByRecursion (λ z. is_lt (cmp z x) ≡ false) xs
    least-later x y [] first least = tt
    least-later x y (z ∷ xs) first least = (weak.chain z y x least.0 first, least-later x y xs first least.1)

    ascends-placed : (x : X) (xs : List X) → Ascends xs → Ascends (with_item cmp x xs)
    unfolding Ascends
    ascends-placed x [] up = (tt, tt)
    ascends-placed x (y ∷ xs) up = by (is_lt (cmp y x)) refl (ascends-placed x xs up.1)
      where
        by : (b : Bool) → is_lt (cmp y x) ≡ b → Ascends (with_item cmp x xs) → Ascends (cond b (y ∷ with_item cmp x xs) (x ∷ y ∷ xs))
        by true is rest = (all-placed (λ w. is_lt (cmp w y) ≡ false) x xs (weak.one_way y x is) up.0, rest)
        by false is rest = ((is, least-later x y xs is up.0), up)

    ascends : (xs : List X) → Ascends (in_order cmp xs)
    unfolding Ascends
    ascends [] = tt
    ascends (x ∷ xs) = ascends-placed x (in_order cmp xs) (ascends xs)

    shifted : (x : X) (xs : List X) (d : X) (j i : ℕ) → j ≡ suc i → get_or (x ∷ xs) j d ≡ get_or xs i d
    shifted x xs d j i e = ap (λ n. get_or (x ∷ xs) n d) e

    in-turn : (xs : List X) → Ascends xs → (k : ℕ) (d : X) → k + 1 < length xs → is_lt (cmp (get_or xs (k + 1) d) (get_or xs k d)) ≡ false
    unfolding Ascends
    in-turn [] up k d less = absurd (omega (arith, less))
    in-turn (x ∷ []) up k d less = absurd (omega (arith, less))
    in-turn (x ∷ y ∷ xs) up zero d less = up.0.0
    in-turn (x ∷ y ∷ xs) up (suc k) d less =
        ap (λ n. is_lt (cmp n (get_or (y ∷ xs) k d))) (shifted x (y ∷ xs) d (suc k + 1) (k + 1) (omega arith)) ∙ in-turn (y ∷ xs) up.1 k d (omega (arith, less))

    pub is-sorted : (xs : List X) → IsSorted cmp (in_order cmp xs)
    is-sorted xs k d low high = in-turn (in_order cmp xs) (ascends xs) k d high

    -- ---- equals stand in the order that they had ----

    -- an item that is less than another ties with nothing that this ties with
    apart : (t x y : X) → is_lt (cmp y x) ≡ true → ties (λ a b. is_lt (cmp a b)) t y ≡ true → ties (λ a b. is_lt (cmp a b)) t x ≡ false
    apart t x y less tie = by (ties (λ a b. is_lt (cmp a b)) t x) refl
      where
        by : (b : Bool) → ties (λ a b. is_lt (cmp a b)) t x ≡ b → ties (λ a b. is_lt (cmp a b)) t x ≡ false
        by false e = e
        by true e =
            let no : is_lt (cmp y x) ≡ false =
            weak.chain y t x (both (is_lt (cmp t y)) (is_lt (cmp y t)) tie).1 (both (is_lt (cmp t x)) (is_lt (cmp x t)) e).0 in
            absurd (cc (sym less ∙ no))

    Tied : X → List X → List X
    Tied t xs = filter (ties (λ a b. is_lt (cmp a b)) t) xs

    ties-placed : (t x : X) (xs : List X) → filter (ties (λ a b. is_lt (cmp a b)) t) (with_item cmp x xs) ≡ filter (ties (λ a b. is_lt (cmp a b)) t) (x ∷ xs)
    ties-placed t x [] = refl
    ties-placed t x (y ∷ xs) = by (is_lt (cmp y x)) (ties (λ a b. is_lt (cmp a b)) t y) refl refl (ties-placed t x xs)
      where
        by : (b c : Bool) → is_lt (cmp y x) ≡ b → ties (λ a b. is_lt (cmp a b)) t y ≡ c
            → filter (ties (λ a b. is_lt (cmp a b)) t) (with_item cmp x xs) ≡ filter (ties (λ a b. is_lt (cmp a b)) t) (x ∷ xs)
            → filter (ties (λ a b. is_lt (cmp a b)) t) (cond b (y ∷ with_item cmp x xs) (x ∷ y ∷ xs)) ≡ filter (ties (λ a b. is_lt (cmp a b)) t) (x ∷ y ∷ xs)
        by true true less tie rest = rw (tie, rest, apart t x y less tie) refl
        by true false less tie rest = rw (tie, rest) refl
        by false c less tie rest = refl

    more-ties : (p : X → Bool) (x : X) (xs ys : List X) → filter p xs ≡ filter p ys → filter p (x ∷ xs) ≡ filter p (x ∷ ys)
    more-ties p x xs ys e = rw e refl

    pub keeps-ties : (xs : List X) (t : X) → filter (ties (λ a b. is_lt (cmp a b)) t) (in_order cmp xs) ≡ filter (ties (λ a b. is_lt (cmp a b)) t) xs
    keeps-ties [] t = refl
    keeps-ties (x ∷ xs) t = ties-placed t x (in_order cmp xs) ∙ more-ties (ties (λ a b. is_lt (cmp a b)) t) x (in_order cmp xs) xs (keeps-ties xs t)

-- ---- lsort(n) ----

ordered : (how : Sorting) (items : List (List ℕ)) → IsInOrder how items (in_order (order how) items)
ordered how items =
    let weak : IsStrictWeakOrder (λ (a b : List ℕ). is_lt (order how a b)) = ranks_by (order-total how) (λ (item : List ℕ). item) in
    record {
      permutation = permutes (order how) items;
      ascends = is-sorted (order how) weak items;
      stable = keeps-ties (order how) weak items;
    }

unless : (fault : Option (List ℕ)) (how : Sorting) (items : List (List ℕ)) → (answer : ListAnswer) × IsSortUnless fault how items answer
unless (Some message) how items = (Bad message, refl)
unless None how items =
    (Made (list_of (sort_result how (in_order (order how) items))), (in_order (order how) items, ordered how items, refl))

within : (how : Sorting) (read : Split) → (answer : ListAnswer) × IsSortIn how read answer
within how (split.Items items) = unless (fault_of how items) how items
within how (split.Bad fault) = (Bad (list_message fault), refl)

pub sorts : (how : Sorting) (list : List ℕ) → (answer : ListAnswer) × IsSortAnswer how list answer
sorts how list = within how (split_of list)
