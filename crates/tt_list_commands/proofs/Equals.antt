-- In a sorted list an item is equal to a later one exactly if it is equal to the next.
use Rattle.std.proofs.Common.{◌≡◌, ℕ, suc, ◌+◌, Bool, true, false, if◌then◌else◌, List, [], ◌∷◌, get_or, refl, sym, ap, ◌∙◌, inl, inr, arith}
use Rattle.std.proofs.lemmas.Bool.{cases_Bool}
use Rattle.std.proofs.lemmas.Cmp.{back_total, int_cmp_total, nat_list_cmp_total, on_total}
use Rattle.std.proofs.lemmas.List.MinMax.{ranks_by}
use Rattle.std.specs.Cmp.{IsStrictWeakOrder, IsTotalOrder}
use Rattle.std.specs.List.{list_any}
use Rattle.std.specs.List.Sorted.{IsSorted}
use Rattle.std.specs.Ordering.{is_eq, is_lt, ordering_reverse}
use Rattle.std.specs.declared.cmp.Ordering.{Ordering}
use Rattle.std.specs.declared.cmp.Ordering.TheVariants.{Less, Equal, Greater}
use Rattle.tt_list_commands.specs.inside.Runs.{equals_next, last_in_runs}
use Rattle.tt_list_commands.specs.Sorting.{equals_later, last_of_equals, number_of, order}
use Rattle.tt_list_commands.specs.declared.sorting.Sorting.{Sorting}
use Rattle.tt_list_commands.proofs.Orders.{order_by}

order_by-total : (integer decreasing : Bool) → IsTotalOrder (order_by integer decreasing)
order_by-total true true = back_total (on_total number_of int_cmp_total)
order_by-total true false = on_total number_of int_cmp_total
order_by-total false true = back_total nat_list_cmp_total
order_by-total false false = nat_list_cmp_total

pub order-total : (how : Sorting) → IsTotalOrder (order how)
order-total how = order_by-total how.integer how.decreasing

shifted : {X : Type 0} (x : X) (xs : List X) (d : X) (j i : ℕ) → j ≡ suc i → get_or (x ∷ xs) j d ≡ get_or xs i d
shifted x xs d j i e = ap (λ n. get_or (x ∷ xs) n d) e

-- the items after the first one of a sorted list
pub sorted_later : {X : Type 0} (R : X → X → Ordering) (x : X) (xs : List X) → IsSorted R (x ∷ xs) → IsSorted R xs
sorted_later R x xs up k d low high =
    let a : get_or (x ∷ xs) (k + 1 + 1) d ≡ get_or xs (k + 1) d = shifted x xs d (k + 1 + 1) (k + 1) (omega arith) in
    let b : get_or (x ∷ xs) (k + 1) d ≡ get_or xs k d = shifted x xs d (k + 1) k (omega arith) in
    ap (λ y. is_lt (R y (get_or xs k d))) (sym a)
    ∙ ap (λ y. is_lt (R (get_or (x ∷ xs) (k + 1 + 1) d) y)) (sym b)
    ∙ up (k + 1) d (omega arith) (omega arith)

pub first_ascends : {X : Type 0} (R : X → X → Ordering) (x y : X) (ys : List X) → IsSorted R (x ∷ y ∷ ys) → is_lt (R y x) ≡ false
first_ascends R x y ys up = up 0 x (omega arith) (omega arith)

less : {X : Type 0} (R : X → X → Ordering) → IsTotalOrder R → (x y : X) → is_eq (R x y) ≡ false → is_lt (R y x) ≡ false → is_lt (R x y) ≡ true
less R total x y apart above = go (R x y) refl
  where
    go : (r : Ordering) → R x y ≡ r → is_lt (R x y) ≡ true
    go Less e = ap is_lt e
    go Equal e = let never : true ≡ false = ap is_eq (sym e) ∙ apart in absurd (cc never)
    go Greater e = let never : true ≡ false = ap is_lt (sym (total.antisymm y x ∙ ap ordering_reverse e)) ∙ above in absurd (cc never)

unequal : {X : Type 0} (R : X → X → Ordering) (x y : X) → is_lt (R x y) ≡ true → is_eq (R x y) ≡ false
unequal R x y below = go (R x y) refl
  where
    go : (r : Ordering) → R x y ≡ r → is_eq (R x y) ≡ false
    go Less e = ap is_eq e
    go Equal e = let never : false ≡ true = ap is_lt (sym e) ∙ below in absurd (cc never)
    go Greater e = ap is_eq e

-- an item below the first of a sorted list is below all, so it is equal to none
below_all : {X : Type 0} (R : X → X → Ordering) → IsTotalOrder R → (x y : X) (ys : List X) → IsSorted R (y ∷ ys) → is_lt (R x y) ≡ true →
    list_any (λ z. is_eq (R x z)) (y ∷ ys) ≡ false
below_all R total x y [] up below = rw (unequal R x y below) refl
below_all R total x y (z ∷ zs) up below =
    let weak : IsStrictWeakOrder (λ a b. is_lt (R a b)) = ranks_by total (λ k. k) in
    let next : is_lt (R x z) ≡ true =
    elim (cases_Bool (is_lt (R x z))) [
      | inl so ↦ so
      | inr fails ↦ (let never : true ≡ false = sym below ∙ weak.chain x z y fails (first_ascends R y z zs up) in absurd (cc never))
    ] in
    rw (unequal R x y below) (below_all R total x z zs (sorted_later R y (z ∷ zs) up) next)

equals_next_is : (how : Sorting) (item : List ℕ) (later : List (List ℕ)) → IsSorted (order how) (item ∷ later) →
    equals_next how item later ≡ equals_later how item later
equals_next_is how item [] up = refl
equals_next_is how item (next ∷ later) up =
    elim (cases_Bool (is_eq (order how item next))) [
      | inl equal ↦ rw equal refl
      | inr apart ↦
          (let below = less (order how) (order-total how) item next apart (first_ascends (order how) item next later up) in
          apart ∙ sym (below_all (order how) (order-total how) item next later (sorted_later (order how) item (next ∷ later) up) below))
    ]

-- of a sorted list the last of equals are those that the next isn't equal to
pub last_in_runs_is : (how : Sorting) (items : List (List ℕ)) → IsSorted (order how) items → last_in_runs how items ≡ last_of_equals how items
last_in_runs_is how [] up = refl
last_in_runs_is how (item ∷ later) up =
    ap (λ b. if b then last_in_runs how later else item ∷ last_in_runs how later) (equals_next_is how item later up)
    ∙ ap (λ l. if equals_later how item later then l else item ∷ l) (last_in_runs_is how later (sorted_later (order how) item later up))
