-- Two lists with the same races, in order, are the same.
use Rattle.std.proofs.Common.{◌≡◌, ◌∙◌, zero, suc, ◌⊎◌, ◌↔◌, List, [], ◌∷◌, Some, refl, sym, ap, ap₂, subst, inl, inr, arith}
use Rattle.std.specs.List.{Contains}
use Rattle.std.proofs.lemmas.Option.{slice_get-get_or}
use Rattle.tt_before.specs.RaceLists.{StandsBefore}
use Rattle.tt_before.specs.RaceLaws.{OneListLaw}
use Rattle.tt_before.specs.declared.race.Race.{Race}
use Rattle.tt_before.proofs.Racing.{InOrder}

-- no race stands before itself, nor two before each other
not_both : (one other : Race) → StandsBefore one other → StandsBefore other one → ⊥
not_both one other (inl less) (inl more) = omega (arith, less, more)
not_both one other (inl less) (inr same) = let eq = same.0 in omega (arith, less, eq)
not_both one other (inr same) (inl more) = let eq = same.0 in omega (arith, more, eq)
not_both one other (inr same) (inr also) = let less = same.1 in let more = also.1 in omega (arith, less, more)

first_or_later : (first race : Race) (list : List Race) → Contains (first ∷ list) race → (first ≡ race) ⊎ Contains list race
first_or_later first race list (zero, within, is) = inl is
first_or_later first race list (suc k, within, is) = inr (k, omega (arith, within), is)

later : (first race : Race) (list : List Race) → Contains list race → Contains (first ∷ list) race
later first race list (k, within, is) = (suc k, omega (arith, within), is)

-- the first stands before all others
first_stands : (first race : Race) (list : List Race) → InOrder (first ∷ list) → Contains list race → StandsBefore first race
first_stands first race list order (k, within, is) =
    order 0 (suc k) first race refl (slice_get-get_or list k race within ∙ ap (λ r. Some r) is) (omega arith)

rest : (first : Race) (list : List Race) → InOrder (first ∷ list) → InOrder list
rest first list order m n one other at_m at_n less = order (suc m) (suc n) one other at_m at_n (omega (arith, less))

same_first : (x y : Race) (xs ys : List Race) → InOrder (x ∷ xs) → InOrder (y ∷ ys) → (x ≡ y) ⊎ Contains xs y → (y ≡ x) ⊎ Contains ys x → x ≡ y
same_first x y xs ys left right (inl eq) either = eq
same_first x y xs ys left right (inr listed) (inl eq) = sym eq
same_first x y xs ys left right (inr listed) (inr also) = absurd (not_both x y (first_stands x y xs left listed) (first_stands y x ys right also))

same_list : (xs ys : List Race) → InOrder xs → InOrder ys → ((race : Race) → Contains xs race ↔ Contains ys race) → xs ≡ ys
same_list [] [] left right same = refl
same_list [] (y ∷ ys) left right same = let none = (same y).1 (0, omega arith, refl) in absurd (let within = none.1 in omega (arith, within))
same_list (x ∷ xs) [] left right same = let none = (same x).0 (0, omega arith, refl) in absurd (let within = none.1 in omega (arith, within))
same_list (x ∷ xs) (y ∷ ys) left right same = ap₂ (λ a b. a ∷ b) first (same_list xs ys (rest x xs left) (rest y ys right) others)
  where
    first : x ≡ y
    first = same_first x y xs ys left right (first_or_later x y xs ((same y).1 (0, omega arith, refl))) (first_or_later y x ys ((same x).0
        (0, omega arith, refl)))

    there : (race : Race) → Contains xs race → (y ≡ race) ⊎ Contains ys race → Contains ys race
    there race listed (inr also) = also
    there race listed (inl eq) =
        let before : StandsBefore x race = first_stands x race xs left listed in
        absurd (not_both x x (subst (λ r. StandsBefore x r) (sym (first ∙ eq)) before) (subst (λ r. StandsBefore x r) (sym (first ∙ eq)) before))

    back : (race : Race) → Contains ys race → (x ≡ race) ⊎ Contains xs race → Contains xs race
    back race listed (inr also) = also
    back race listed (inl eq) =
        let before : StandsBefore y race = first_stands y race ys right listed in
        absurd (not_both y y (subst (λ r. StandsBefore y r) (sym eq ∙ first) before) (subst (λ r. StandsBefore y r) (sym eq ∙ first) before))

    others : (race : Race) → Contains xs race ↔ Contains ys race
    others race = (
      (λ listed. there race listed (first_or_later y race ys ((same race).0 (later x race xs listed)))),
      (λ listed. back race listed (first_or_later x race xs ((same race).1 (later y race ys listed)))),
    )

pub one_list : OneListLaw
one_list entries one other is also =
    same_list one other is.in_order also.in_order
    (λ race. ((λ listed. (also.exactly race).1 ((is.exactly race).0 listed)), (λ listed. (is.exactly race).1 ((also.exactly race).0 listed))))
