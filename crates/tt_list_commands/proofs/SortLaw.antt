-- Lists in order with the same equals are the same, and the function's list is in order.
use Rattle.std.proofs.Common.{◌≡◌, ◌≢◌, ◌∙◌, ℕ, Bool, true, false, not, ◌&&◌, cond, List, [], ◌∷◌}
use Rattle.std.proofs.Common.{Option, Some, None, ap, refl, sym}
use Rattle.std.proofs.lemmas.List.MinMax.{ranks_by}
use Rattle.std.specs.Cmp.{IsStrictWeakOrder}
use Rattle.std.specs.List.{AllByRecursion, filter}
use Rattle.std.specs.List.Sorted.{IsSorted, ties}
use Rattle.std.specs.Ordering.{is_lt}
use Rattle.std.specs.declared.cmp.Ordering.{Ordering}
use Rattle.tt_list_commands.specs.SortFunction.{SortLaw, in_order, with_item, sort_in, sort_unless}
use Rattle.tt_list_commands.specs.Sorting.{IsInOrder, IsSortIn, IsSortUnless, fault_of, sort_result, order}
use Rattle.tt_list_commands.specs.declared.sorting.Sorting.{Sorting}
use Rattle.tt_list_commands.proofs.Equals.{first_ascends, order-total, sorted_later}
use Rattle.tt_lists.specs.Reading.{split_of}
use Rattle.tt_lists.specs.Spelling.{list_of}
use Rattle.tt_lists.specs.declared.answer.ListAnswer.{ListAnswer}
use Rattle.tt_lists.specs.declared.answer.ListAnswer.TheVariants.{Made}
use Rattle.tt_lists.specs.declared.items.Split.{Split}
use Rattle.tt_lists.specs.declared.items.Split.TheVariants as split

-- none of these is less than x
abbrev Least : {X : Type 0} → (X → X → Bool) → X → List X → Type 0
Least lt x xs = AllByRecursion (λ y. lt y x ≡ false) xs

abbrev Ascends : {X : Type 0} → (X → X → Bool) → List X → Type 0
Ascends lt [] = Unit {0}
Ascends lt (x ∷ xs) = Least lt x xs × Ascends lt xs

-- the same items tie with each, in the same order
abbrev SameTies : {X : Type 0} → (X → X → Bool) → List X → List X → Type 0
SameTies {X} lt xs ys = (x : X) → filter (ties lt x) xs ≡ filter (ties lt x) ys

both : (a b : Bool) → (not a && not b) ≡ true → (a ≡ false) × (b ≡ false)
both false false e = (refl, refl)
both false true e = absurd (cc e)
both true b e = absurd (cc e)

-- ---- orders ----

self-not : {X : Type 0} (lt : X → X → Bool) → IsStrictWeakOrder lt → (x : X) → lt x x ≡ false
self-not lt weak x = go (lt x x) refl
  where
    go : (b : Bool) → lt x x ≡ b → lt x x ≡ false
    go true e = weak.one_way x x e
    go false e = e

ties-self : {X : Type 0} (lt : X → X → Bool) → IsStrictWeakOrder lt → (x : X) → ties lt x x ≡ true
ties-self lt weak x = rw (self-not lt weak x) refl

-- ---- sorted lists ----

least-later : {X : Type 0} (lt : X → X → Bool) → IsStrictWeakOrder lt → (x y : X) (xs : List X) → lt y x ≡ false → Least lt y xs → Least lt x xs
least-later lt weak x y [] first least = tt
least-later lt weak x y (z ∷ xs) first least = (weak.chain z y x least.0 first, least-later lt weak x y xs first least.1)

ascends : {X : Type 0} (cmp : X → X → Ordering) → IsStrictWeakOrder (λ a b. is_lt (cmp a b)) → (xs : List X) → IsSorted cmp xs →
    Ascends (λ a b. is_lt (cmp a b)) xs
ascends cmp weak [] up = tt
ascends cmp weak (x ∷ []) up = (tt, tt)
ascends cmp weak (x ∷ y ∷ xs) up =
    let later = ascends cmp weak (y ∷ xs) (sorted_later cmp x (y ∷ xs) up) in
    let first = first_ascends cmp x y xs up in
    ((first, least-later (λ a b. is_lt (cmp a b)) weak x y xs first later.0), later)

-- ---- one list with the same ties ----

-- if something ties with z in a list of which none is less than y, z is not less than y
not-less : {X : Type 0} (lt : X → X → Bool) → IsStrictWeakOrder lt → (y z : X) (xs : List X) → Least lt y xs → filter (ties lt z) xs ≢ [] → lt z y ≡ false
not-less lt weak y z [] least some = absurd (some refl)
not-less lt weak y z (w ∷ xs) least some = go (ties lt z w) refl (not-less lt weak y z xs least.1)
  where
    go : (b : Bool) → ties lt z w ≡ b → (filter (ties lt z) xs ≢ [] → lt z y ≡ false) → lt z y ≡ false
    go true e later = weak.chain z w y (both (lt z w) (lt w z) e).0 least.0
    go false e later = later (λ none. some (rw e none))

least-self : {X : Type 0} (lt : X → X → Bool) → IsStrictWeakOrder lt → (y : X) (ys : List X) → Least lt y ys → Least lt y (y ∷ ys)
least-self lt weak y ys least = (self-not lt weak y, least)

head-ties : {X : Type 0} (lt : X → X → Bool) → IsStrictWeakOrder lt → (y : X) (ys : List X) → filter (ties lt y) (y ∷ ys) ≡ y ∷ filter (ties lt y) ys
head-ties lt weak y ys = rw (ties-self lt weak y) refl

not-empty : {X : Type 0} (xs ys : List X) (x : X) → xs ≡ x ∷ ys → xs ≢ []
not-empty xs ys x e = λ none. absurd (cc (sym e ∙ none))

firsts-tie : {X : Type 0} (lt : X → X → Bool) → IsStrictWeakOrder lt → (y z : X) (ys zs : List X) → Least lt y ys → Least lt z zs →
    SameTies lt (y ∷ ys) (z ∷ zs) → ties lt y z ≡ true
firsts-tie lt weak y z ys zs least-y least-z same =
    let a : lt z y ≡ false =
    not-less lt weak y z (y ∷ ys) (least-self lt weak y ys least-y) (not-empty (filter (ties lt z) (y ∷ ys)) _ z (same z ∙ head-ties lt weak z zs)) in
    let b : lt y z ≡ false =
    not-less lt weak z y (z ∷ zs) (least-self lt weak z zs least-z)
    (not-empty (filter (ties lt y) (z ∷ zs)) _ y (sym (same y) ∙ head-ties lt weak y ys)) in
    rw (a, b) refl

tail-by : {X : Type 0} (b : Bool) (y : X) (xs ys : List X) → cond b (y ∷ xs) xs ≡ cond b (y ∷ ys) ys → xs ≡ ys
tail-by true y xs ys e = cc e
tail-by false y xs ys e = e

pub same-list : {X : Type 0} (lt : X → X → Bool) → IsStrictWeakOrder lt → (ys zs : List X) → Ascends lt ys → Ascends lt zs → SameTies lt ys zs → ys ≡ zs
same-list lt weak [] [] up-y up-z same = refl
same-list lt weak [] (z ∷ zs) up-y up-z same = absurd (not-empty (filter (ties lt z) (z ∷ zs)) _ z (head-ties lt weak z zs) (sym (same z)))
same-list lt weak (y ∷ ys) [] up-y up-z same = absurd (not-empty (filter (ties lt y) (y ∷ ys)) _ y (head-ties lt weak y ys) (same y))
same-list lt weak (y ∷ ys) (z ∷ zs) up-y up-z same =
    let tie = firsts-tie lt weak y z ys zs up-y.0 up-z.0 same in
    let heads : y ∷ filter (ties lt y) ys ≡ z ∷ filter (ties lt y) zs = sym (head-ties lt weak y ys) ∙ same y ∙ rw tie refl in
    let first : y ≡ z = cc heads in
    let later = same-list lt weak ys zs up-y.1 up-z.1
    (λ x. tail-by (ties lt x y) y (filter (ties lt x) ys) (filter (ties lt x) zs) (same x ∙ rw (← first) refl)) in
    rw (first, later) refl

-- ---- the function's list ----

placed-all : {X : Type 0} (cmp : X → X → Ordering) (P : X → Type 0) (x : X) (xs : List X) → P x → AllByRecursion P xs → AllByRecursion P (with_item cmp x xs)
placed-all cmp P x [] one all = (one, tt)
placed-all cmp P x (y ∷ xs) one all = go (is_lt (cmp y x)) refl (placed-all cmp P x xs one all.1)
  where
    go : (b : Bool) → is_lt (cmp y x) ≡ b → AllByRecursion P (with_item cmp x xs) → AllByRecursion P (with_item cmp x (y ∷ xs))
    go true e later = rw e (all.0, later)
    go false e later = rw e (one, all)

placed-ascends : {X : Type 0} (cmp : X → X → Ordering) → IsStrictWeakOrder (λ a b. is_lt (cmp a b)) → (x : X) (xs : List X) →
    Ascends (λ a b. is_lt (cmp a b)) xs → Ascends (λ a b. is_lt (cmp a b)) (with_item cmp x xs)
placed-ascends cmp weak x [] up = (tt, tt)
placed-ascends cmp weak x (y ∷ xs) up = go (is_lt (cmp y x)) refl (placed-ascends cmp weak x xs up.1)
  where
    go : (b : Bool) → is_lt (cmp y x) ≡ b → Ascends (λ a b. is_lt (cmp a b)) (with_item cmp x xs) → Ascends (λ a b. is_lt (cmp a b)) (with_item cmp x (y ∷ xs))
    go true e later = rw e (placed-all cmp (λ w. is_lt (cmp w y) ≡ false) x xs (weak.one_way y x e) up.0, later)
    go false e later = rw e ((e, least-later (λ a b. is_lt (cmp a b)) weak x y xs e up.0), up)

-- an item that is less than another ties with nothing that this ties with
apart : {X : Type 0} (lt : X → X → Bool) → IsStrictWeakOrder lt → (t x y : X) → lt y x ≡ true → ties lt t y ≡ true → ties lt t x ≡ false
apart lt weak t x y less tie = go (ties lt t x) refl
  where
    go : (b : Bool) → ties lt t x ≡ b → ties lt t x ≡ false
    go true e =
        let no : lt y x ≡ false = weak.chain y t x (both (lt t y) (lt y t) tie).1 (both (lt t x) (lt x t) e).0 in
        absurd (cc (sym less ∙ no))
    go false e = e

behind : {X : Type 0} (lt : X → X → Bool) → IsStrictWeakOrder lt → (t x y : X) (front back : List X) (b : Bool) → ties lt t y ≡ b → lt y x ≡ true →
    filter (ties lt t) front ≡ filter (ties lt t) (x ∷ back) → filter (ties lt t) (y ∷ front) ≡ filter (ties lt t) (x ∷ y ∷ back)
behind lt weak t x y front back true tie less later = rw (tie, later, apart lt weak t x y less tie) refl
behind lt weak t x y front back false tie less later = rw (tie, later) refl

placed-ties : {X : Type 0} (cmp : X → X → Ordering) → IsStrictWeakOrder (λ a b. is_lt (cmp a b)) → (t x : X) (xs : List X) →
    filter (ties (λ a b. is_lt (cmp a b)) t) (with_item cmp x xs) ≡ filter (ties (λ a b. is_lt (cmp a b)) t) (x ∷ xs)
placed-ties cmp weak t x [] = refl
placed-ties cmp weak t x (y ∷ xs) = go (is_lt (cmp y x)) refl (placed-ties cmp weak t x xs)
  where
    go : (b : Bool) → is_lt (cmp y x) ≡ b →
        filter (ties (λ a b. is_lt (cmp a b)) t) (with_item cmp x xs) ≡ filter (ties (λ a b. is_lt (cmp a b)) t) (x ∷ xs) →
        filter (ties (λ a b. is_lt (cmp a b)) t) (with_item cmp x (y ∷ xs)) ≡ filter (ties (λ a b. is_lt (cmp a b)) t) (x ∷ y ∷ xs)
    go true e later = rw e (behind (λ a b. is_lt (cmp a b)) weak t x y (with_item cmp x xs) xs (ties (λ a b. is_lt (cmp a b)) t y) refl e later)
    go false e later = rw e refl

order-ascends : {X : Type 0} (cmp : X → X → Ordering) → IsStrictWeakOrder (λ a b. is_lt (cmp a b)) → (xs : List X) →
    Ascends (λ a b. is_lt (cmp a b)) (in_order cmp xs)
order-ascends cmp weak [] = tt
order-ascends cmp weak (x ∷ xs) = placed-ascends cmp weak x (in_order cmp xs) (order-ascends cmp weak xs)

cons-ties : {X : Type 0} (p : X → Bool) (x : X) (xs ys : List X) → filter p xs ≡ filter p ys → filter p (x ∷ xs) ≡ filter p (x ∷ ys)
cons-ties p x xs ys e = rw e refl

order-ties : {X : Type 0} (cmp : X → X → Ordering) → IsStrictWeakOrder (λ a b. is_lt (cmp a b)) → (xs : List X) →
    SameTies (λ a b. is_lt (cmp a b)) (in_order cmp xs) xs
order-ties cmp weak [] = λ t. refl
order-ties cmp weak (x ∷ xs) =
    λ t. placed-ties cmp weak t x (in_order cmp xs) ∙ cons-ties (ties (λ a b. is_lt (cmp a b)) t) x (in_order cmp xs) xs (order-ties cmp weak xs t)

-- ---- the answer ----

one-order : (how : Sorting) (items sorted : List (List ℕ)) → IsInOrder how items sorted → sorted ≡ in_order (order how) items
one-order how items sorted is =
    let weak : IsStrictWeakOrder (λ (a b : List ℕ). is_lt (order how a b)) = ranks_by (order-total how) (λ (item : List ℕ). item) in
    same-list (λ (a b : List ℕ). is_lt (order how a b)) weak sorted (in_order (order how) items) (ascends (order how) weak sorted is.ascends)
    (order-ascends (order how) weak items)
    (λ t. is.stable t ∙ sym (order-ties (order how) weak items t))

unless : (fault : Option (List ℕ)) (how : Sorting) (items : List (List ℕ)) (answer : ListAnswer) → IsSortUnless fault how items answer →
    answer ≡ sort_unless fault how items
unless (Some message) how items answer is = is
unless None how items answer is = is.2 ∙ ap (λ sorted. Made (list_of (sort_result how sorted))) (one-order how items is.0 is.1)

within : (how : Sorting) (read : Split) (answer : ListAnswer) → IsSortIn how read answer → answer ≡ sort_in how read
within how (split.Items items) answer is = unless (fault_of how items) how items answer is
within how (split.Bad fault) answer is = is

pub one_answer : SortLaw
one_answer how list answer is = within how (split_of list) answer is
