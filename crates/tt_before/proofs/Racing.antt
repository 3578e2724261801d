-- The races that are found are those of the run.
use Rattle.std.proofs.Common.{◌≡◌, ◌∙◌, ℕ, zero, suc, ◌+◌, ◌<◌, ◌≤◌, ◌⊎◌, ◌↔◌, Bool, true, false, cond, List, [], ◌∷◌, ◌++◌, Option, Some, None}
use Rattle.std.proofs.Common.{length, slice_get, slice_index_or, take, refl, sym, ap, subst, inl, inr, arith}
use Rattle.std.specs.List.{Contains, filter_map}
use Rattle.std.specs.Option.{option_to_list}
use Rattle.std.proofs.lemmas.Bool.{cases_order}
use Rattle.std.proofs.lemmas.List.{append-nil, append_assoc}
use Rattle.std.proofs.lemmas.List.Elements.{Contains-append_left, Contains-push, Contains-push_cases}
use Rattle.std.proofs.lemmas.Option.{get_or_from_slice_get, none-some, slice_get-get_or, slice_get_within}
use Rattle.tt_before.specs.RaceLists.{StandsBefore}
use Rattle.tt_before.specs.declared.kept.Touch.{Touch}
use Rattle.tt_before.specs.declared.race.Race.{Race}
use Rattle.tt_before.specs.inside.Found.{race_of, race_with, races, races_at, races_up_to}
use Rattle.tt_before.proofs.Lists.{kept_more}
use Rattle.tt_before.proofs.Places.{at_cases, some_same}

abbrev pub InOrder : List Race → Type 0
InOrder list =
    (m n : ℕ) (one other : Race) → slice_get list m ≡ Some one → slice_get list n ≡ Some other → m < n → StandsBefore one other

has_at : {X : Type 0} (xs : List X) (m : ℕ) (x : X) → slice_get xs m ≡ Some x → Contains xs x
has_at xs m x there = (m, slice_get_within xs m x there, get_or_from_slice_get xs m x x there)

past : {X : Type 0} (xs : List X) (q : ℕ) → q < length xs → slice_get xs q ≡ None → ⊥
past [] q small none = omega (arith, small)
past (x ∷ xs) zero small none = none-some x (sym none)
past (x ∷ xs) (suc q) small none = past xs q (omega (arith, small)) none

order_push : (list : List Race) (last : Race) → InOrder list → ((race : Race) → Contains list race → StandsBefore race last) → InOrder (list ++ last ∷ [])
order_push list last so_far before m n one other at_m at_n less = by (at_cases list last m one at_m) (at_cases list last n other at_n)
  where
    by : (slice_get list m ≡ Some one) ⊎ ((m ≡ length list) × (last ≡ one)) → (slice_get list n ≡ Some other) ⊎ ((n ≡ length list) × (last ≡ other)) →
        StandsBefore one other
    by (inl first) (inl second) = so_far m n one other first second less
    by (inl first) (inr second) = subst (λ r. StandsBefore one r) second.1 (before one (has_at list m one first))
    by (inr first) (inl second) = let small = slice_get_within list n other second in let at = first.0 in absurd (omega (arith, less, small, at))
    by (inr first) (inr second) = let at = first.0 in let also = second.0 in absurd (omega (arith, less, at, also))

module _ (touches : List Touch)
    (in_order : (m n : ℕ) (one other : Touch) → slice_get touches m ≡ Some one → slice_get touches n ≡ Some other → m < n → one.place < other.place) where
  -- a race of one of the first pairs
  pub record IsMade (q p : ℕ) (race : Race) : Type 0 where
    pub a : ℕ
    pub b : ℕ
    pub one : Touch
    pub other : Touch
    pub at_a : slice_get touches a ≡ Some one
    pub at_b : slice_get touches b ≡ Some other
    pub less : a < b
    pub bound : (b < q) ⊎ ((b ≡ q) × (a < p))
    pub racing : races one other ≡ true
    pub is : race ≡ race_of one other

  pub record IsGood (q p : ℕ) (list : List Race) : Type 0 where
    pub exactly : (race : Race) → Contains list race ↔ IsMade q p race
    pub ordered : InOrder list

  longer_bound : {q p a b : ℕ} → (b < q) ⊎ ((b ≡ q) × (a < p)) → (b < q) ⊎ ((b ≡ q) × (a < p + 1))
  longer_bound (inl less) = inl less
  longer_bound (inr both) = let small = both.1 in inr (both.0, omega (arith, small))

  longer : {q p : ℕ} {race : Race} → IsMade q p race → IsMade q (p + 1) race
  longer made = record {
    a = made.a;
    b = made.b;
    one = made.one;
    other = made.other;
    at_a = made.at_a;
    at_b = made.at_b;
    less = made.less;
    bound = longer_bound made.bound;
    racing = made.racing;
    is = made.is;
  }

  module _ (q p : ℕ) (one other : Touch) (at_p : slice_get touches p ≡ Some one) (at_q : slice_get touches q ≡ Some other) (small : p < q) where
    -- a pair that was made was made before, or is this one
    cases : {race : Race} → (made : IsMade q (p + 1) race) → IsMade q p race ⊎ ((one ≡ made.one) × (other ≡ made.other))
    cases {race} made = by made.bound
      where
        kept : (made.b < q) ⊎ ((made.b ≡ q) × (made.a < p)) → IsMade q p race
        kept bound = record {
          a = made.a;
          b = made.b;
          one = made.one;
          other = made.other;
          at_a = made.at_a;
          at_b = made.at_b;
          less = made.less;
          bound = bound;
          racing = made.racing;
          is = made.is;
        }

        at : (made.a ≡ p) ⊎ ((made.a < p) ⊎ (p < made.a)) → made.b ≡ q → made.a < p + 1 → IsMade q p race ⊎ ((one ≡ made.one) × (other ≡ made.other))
        at (inl eq) last less = inr (
          some_same (sym at_p ∙ ap (λ n. slice_get touches n) (sym eq) ∙ made.at_a),
          some_same (sym at_q ∙ ap (λ n. slice_get touches n) (sym last) ∙ made.at_b),
        )
        at (inr (inl before)) last less = inl (kept (inr (last, before)))
        at (inr (inr after)) last less = absurd (omega (arith, less, after))

        by : (made.b < q) ⊎ ((made.b ≡ q) × (made.a < p + 1)) → IsMade q p race ⊎ ((one ≡ made.one) × (other ≡ made.other))
        by (inl less) = inl (kept (inl less))
        by (inr both) = at (cases_order made.a p) both.0 both.1

    stands : {race : Race} → IsMade q p race → StandsBefore race (race_of one other)
    stands {race} made = by made.bound
      where
        second : race.second ≡ made.other.place + 1
        second = ap (λ r. r.second) made.is

        first : race.first ≡ made.one.place + 1
        first = ap (λ r. r.first) made.is

        by : (made.b < q) ⊎ ((made.b ≡ q) × (made.a < p)) → StandsBefore race (race_of one other)
        by (inl less) = let places = in_order made.b q made.other other made.at_b at_q less in inl (omega (arith, second, places))
        by (inr both) =
            let same : made.other ≡ other = some_same (sym made.at_b ∙ ap (λ n. slice_get touches n) both.0 ∙ at_q) in
            let same_place : made.other.place ≡ other.place = ap (λ t. t.place) same in
            let places = in_order made.a p made.one one made.at_a at_p both.1 in
            inr (omega (arith, second, same_place), omega (arith, first, places))

    skip : (list : List Race) → IsGood q p list → races one other ≡ false → IsGood q (p + 1) list
    skip list good none = record {
      exactly = λ race. (
        λ listed. longer ((good.exactly race).0 listed),
        λ made. (good.exactly race).1 (by made
            (cases made)),
      );
      ordered = good.ordered;
    }
      where
        by : {race : Race} → (made : IsMade q (p + 1) race) → IsMade q p race ⊎ ((one ≡ made.one) × (other ≡ made.other)) → IsMade q p race
        by made (inl before) = before
        by made (inr same) =
            let no : false ≡ true = sym none ∙ ap (λ o. races o other) same.0 ∙ ap (λ o. races made.one o) same.1 ∙ made.racing in
            absurd (cc no)

    add : (list : List Race) → IsGood q p list → races one other ≡ true → IsGood q (p + 1) (list ++ race_of one other ∷ [])
    add list good some = record {
      exactly = λ race. ((λ listed. there (Contains-push_cases list (race_of one other) race listed)), (λ made. back made (cases made)));
      ordered = order_push list (race_of one other) good.ordered (λ race listed. stands ((good.exactly race).0 listed));
    }
      where
        there : {race : Race} → Contains list race ⊎ (race_of one other ≡ race) → IsMade q (p + 1) race
        there {race} (inl listed) = longer ((good.exactly race).0 listed)
        there (inr eq) = record {
          a = p;
          b = q;
          one = one;
          other = other;
          at_a = at_p;
          at_b = at_q;
          less = small;
          bound = inr (refl, omega arith);
          racing = some;
          is = sym eq;
        }

        back : {race : Race} → (made : IsMade q (p + 1) race) → IsMade q p race ⊎ ((one ≡ made.one) × (other ≡ made.other)) →
            Contains (list ++ race_of one other ∷ []) race
        back {race} made (inl before) = Contains-append_left list (race_of one other ∷ []) race ((good.exactly race).1 before)
        back {race} made (inr same) =
            subst (λ r. Contains (list ++ race_of one other ∷ []) r)
            (ap (λ o. race_of o other) same.0 ∙ ap (λ o. race_of made.one o) same.1 ∙ sym made.is) (Contains-push list (race_of one other))

    one_step : (list : List Race) → IsGood q p list → IsGood q (p + 1) (list ++ option_to_list (race_with other one))
    one_step list good = by (races one other) refl
      where
        by : (b : Bool) → races one other ≡ b → IsGood q (p + 1) (list ++ option_to_list (race_with other one))
        by true is = subst (λ b. IsGood q (p + 1) (list ++ option_to_list (cond b (Some (race_of one other)) None))) (sym is) (add list good is)
        by false is =
            subst (λ b. IsGood q (p + 1) (list ++ option_to_list (cond b (Some (race_of one other)) None))) (sym is)
            (subst (λ l. IsGood q (p + 1) l) (sym (append-nil list)) (skip list good is))

  -- a step with those before it
  row_good : (q : ℕ) (other : Touch) → slice_get touches q ≡ Some other → (list : List Race) → IsGood q 0 list → (p : ℕ) → p ≤ q →
      IsGood q p (list ++ filter_map (race_with other) (take p touches))
  row_good q other at_q list good zero within = subst (λ l. IsGood q 0 l) (sym (append-nil list)) good
  row_good q other at_q list good (suc p) within =
      subst (λ n. IsGood q n (list ++ filter_map (race_with other) (take n touches))) next
      (subst (λ l. IsGood q (p + 1) l)
      (append_assoc list (filter_map (race_with other) (take p touches)) (option_to_list (race_with other one))
      ∙ ap (λ l. list ++ l) (sym (kept_more (race_with other) touches p other in_list)))
      (one_step q p one other at_p at_q (omega (arith, within)) (list ++ filter_map (race_with other) (take p touches))
      (row_good q other at_q list good p (omega (arith, within)))))
    where
      next : p + 1 ≡ suc p
      next = omega arith

      in_list : p < length touches
      in_list = let there = slice_get_within touches q other at_q in omega (arith, within, there)

      one : Touch
      one = slice_index_or touches p other

      at_p : slice_get touches p ≡ Some (slice_index_or touches p other)
      at_p = slice_get-get_or touches p other in_list

  next_good : (q : ℕ) (list : List Race) → IsGood q q list → IsGood (suc q) 0 list
  next_good q list good = record {
    exactly = λ race. ((λ listed. there ((good.exactly race).0 listed)), (λ made. (good.exactly race).1 (back made)));
    ordered = good.ordered;
  }
    where
      wide : {a b : ℕ} → (b < q) ⊎ ((b ≡ q) × (a < q)) → (b < suc q) ⊎ ((b ≡ suc q) × (a < 0))
      wide (inl less) = inl (omega (arith, less))
      wide (inr both) = let eq = both.0 in inl (omega (arith, eq))

      there : {race : Race} → IsMade q q race → IsMade (suc q) 0 race
      there made = record {
        a = made.a;
        b = made.b;
        one = made.one;
        other = made.other;
        at_a = made.at_a;
        at_b = made.at_b;
        less = made.less;
        bound = wide made.bound;
        racing = made.racing;
        is = made.is;
      }

      thin : {a b : ℕ} → a < b → (b ≡ q) ⊎ ((b < q) ⊎ (q < b)) → (b < suc q) ⊎ ((b ≡ suc q) × (a < 0)) → (b < q) ⊎ ((b ≡ q) × (a < q))
      thin less (inl eq) bound = inr (eq, omega (arith, less, eq))
      thin less (inr (inl small)) bound = inl small
      thin less (inr (inr large)) (inl bound) = absurd (omega (arith, large, bound))
      thin less (inr (inr large)) (inr both) = let none = both.1 in absurd (omega (arith, none))

      back : {race : Race} → IsMade (suc q) 0 race → IsMade q q race
      back made = record {
        a = made.a;
        b = made.b;
        one = made.one;
        other = made.other;
        at_a = made.at_a;
        at_b = made.at_b;
        less = made.less;
        bound = thin made.less (cases_order made.b q) made.bound;
        racing = made.racing;
        is = made.is;
      }

  pub all_good : (q : ℕ) → q ≤ length touches → IsGood q 0 (races_up_to touches q)
  all_good zero within = record {
    exactly = λ race. ((λ listed. let none = listed.1 in absurd (omega (arith, none))), none_made race);
    ordered = λ m n one other there. absurd (none-some one there);
  }
    where
      none_made : (race : Race) → IsMade 0 0 race → Contains [] race
      none_made race made = absurd (by made.bound)
        where
          by : (made.b < 0) ⊎ ((made.b ≡ 0) × (made.a < 0)) → ⊥
          by (inl none) = omega (arith, none)
          by (inr both) = let none = both.1 in omega (arith, none)
  all_good (suc q) within =
      next_good q (races_up_to touches q ++ races_at touches q (slice_get touches q))
      (by (all_good q (omega (arith, within))) (slice_get touches q) refl)
    where
      by : IsGood q 0 (races_up_to touches q) → (o : Option Touch) → slice_get touches q ≡ o → IsGood q q (races_up_to touches q ++ races_at touches q o)
      by so_far None none = absurd (past touches q (omega (arith, within)) none)
      by so_far (Some other) at = row_good q other at (races_up_to touches q) so_far q (omega arith)
