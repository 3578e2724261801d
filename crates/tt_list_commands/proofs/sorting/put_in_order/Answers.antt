use Rattle.std.proofs.Common.{ℕ, List, true, false, rules}
use Rattle.std.proofs.lemmas.Cmp.{nat_list_cmp_total}
use Rattle.std.proofs.lemmas.List.MinMax.{IsStrictWeakOrder-flip, ranks_by}
use Rattle.std.proofs.lemmas.List.Sorted.{answers_always}
use Rattle.std.specs.Cmp.Lexicographic.{slice_cmp}
use Rattle.std.specs.Ordering.{is_lt, nat_cmp}
use Rattle.tt_list_commands.specs.Sorting.{number_of}
use Rattle.tt_list_commands.proofs.Orders.{in_order}
use Rattle.tt_list_commands.proofs.sorting.put_in_order.Goals as goal

pub returns-in_ok-sort_by_cached_key-in-true-true : goal.returns-in_ok-sort_by_cached_key-in-true-true
returns-in_ok-sort_by_cached_key-in-true-true c =
    let said = c.sort_by_cached_key.ensures in
    in_order c.args.how true true c.args.items.now.items c.sort_by_cached_key.new.self.items c.in-true-true.is-0 c.in-true-true.is-1 said.permutation
    (c.in_ok-sort_by_cached_key-in-true-true.ensures.sorted (λ item. record { 0 = number_of item }) (answers_always _ _ _ (λ f a r g h. search rules)))
    (said.stable (λ item. record { 0 = number_of item }) (answers_always _ _ _ (λ f a r g h. search rules)))

pub returns-in_ok-sort_by_cached_key-in-true-false : goal.returns-in_ok-sort_by_cached_key-in-true-false
returns-in_ok-sort_by_cached_key-in-true-false c =
    let said = c.sort_by_cached_key-in-true-false.ensures in
    in_order c.args.how true false c.args.items.now.items c.sort_by_cached_key-in-true-false.new.self.items c.in-true-false.is-0 c.in-true-false.is-1 said.permutation
    (c.in_ok-sort_by_cached_key-in-true-false.ensures.sorted number_of (answers_always _ _ _ (λ f a r g h. search rules)))
    (said.stable number_of (answers_always _ _ _ (λ f a r g h. search rules)))

pub returns-in_ok-sort_by-in-false-true : goal.returns-in_ok-sort_by-in-false-true
returns-in_ok-sort_by-in-false-true c =
    let said = c.sort_by.ensures in
    let above = λ (a b : List ℕ). is_lt (slice_cmp nat_cmp b a) in
    let weak = IsStrictWeakOrder-flip (λ (a b : List ℕ). is_lt (slice_cmp nat_cmp a b)) (ranks_by nat_list_cmp_total (λ (item : List ℕ). item)) in
    in_order c.args.how false true c.args.items.now.items c.sort_by.new.self.items c.in-false-true.is-0 c.in-false-true.is-1 said.permutation
    (c.in_ok-sort_by-in-false-true.ensures.sorted above weak (answers_always _ _ _ (λ f a r g h. search rules)))
    (said.stable above weak (answers_always _ _ _ (λ f a r g h. search rules)))

pub returns-in_ok-sort-in-false-false : goal.returns-in_ok-sort-in-false-false
returns-in_ok-sort-in-false-false c =
    in_order c.args.how false false c.args.items.now.items c.sort.new.self.items c.in-false-false.is-0 c.in-false-false.is-1 c.sort.ensures.permutation
    c.in_ok-sort-in-false-false.ensures.sorted
    c.sort.ensures.stable
