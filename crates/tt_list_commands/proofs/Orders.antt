-- The order of a sort, by its options.
use Rattle.std.proofs.Common.{◌≡◌, ℕ, Bool, false, List, ap, subst, sym, ◌∙◌}
use Rattle.std.specs.List.Sorted.{IsPermutation, IsSorted, IsStable}
use Rattle.std.specs.declared.cmp.Ordering.{Ordering}
use Rattle.tt_list_commands.specs.Sorting.{IsInOrder, order}
use Rattle.tt_list_commands.specs.declared.sorting.Sorting.{Sorting}

-- the order of a sort with these options
abbrev pub order_by : (integer decreasing : Bool) → (a b : List ℕ) → Ordering
order_by integer decreasing = order (record { integer = integer; decreasing = decreasing; unique = false })

order_is : (how : Sorting) (integer decreasing : Bool) → how.integer ≡ integer → how.decreasing ≡ decreasing → order how ≡ order_by integer decreasing
order_is how integer decreasing e f =
    ap (λ i. order_by i how.decreasing) e ∙ ap (λ d. order_by integer d) f

-- what sorts by that order puts items in order
pub in_order : (how : Sorting) (integer decreasing : Bool) (items sorted : List (List ℕ)) → how.integer ≡ integer → how.decreasing ≡ decreasing →
    IsPermutation items sorted → IsSorted (order_by integer decreasing) sorted → IsStable (order_by integer decreasing) items sorted →
    IsInOrder how items sorted
in_order how integer decreasing items sorted e f permutation ascends stable =
    let is : order_by integer decreasing ≡ order how = sym (order_is how integer decreasing e f) in
    record {
      permutation = permutation;
      ascends = subst (λ (o : List ℕ → List ℕ → Ordering). IsSorted o sorted) is ascends;
      stable = subst (λ (o : List ℕ → List ℕ → Ordering). IsStable o items sorted) is stable;
    }
