-- What is kept of a list, with one element more.
use Rattle.std.proofs.Common.{◌≡◌, ◌∙◌, ℕ, zero, suc, ◌+◌, ◌<◌, List, [], ◌∷◌, ◌++◌, Option, Some, None, length, take, slice_index_or, refl, sym, ap, arith}
use Rattle.std.proofs.lemmas.List.{append_assoc}
use Rattle.std.specs.List.{filter_map}
use Rattle.std.specs.Option.{option_to_list}

module _ {X Y : Type 0} (h : X → Option Y) where
  pub kept_first : (x : X) (xs : List X) → filter_map h (x ∷ xs) ≡ option_to_list (h x) ++ filter_map h xs
  kept_first x xs = by (h x) refl
    where
      by : (o : Option Y) → h x ≡ o → filter_map h (x ∷ xs) ≡ option_to_list o ++ filter_map h xs
      by None is = rw is refl
      by (Some y) is = rw is refl

pub kept_more : {X Y : Type 0} (h : X → Option Y) (xs : List X) (i : ℕ) (d : X) → i < length xs →
    filter_map h (take (i + 1) xs) ≡ filter_map h (take i xs) ++ option_to_list (h (slice_index_or xs i d))
kept_more h [] i d small = absurd (omega (arith, small))
kept_more h (x ∷ xs) zero d small = by (h x) refl
  where
    by : (o : Option _) → h x ≡ o → filter_map h (x ∷ []) ≡ option_to_list o
    by None is = rw is refl
    by (Some y) is = rw is refl
kept_more h (x ∷ xs) (suc i) d small =
    ap (λ n. filter_map h (take n (x ∷ xs))) more ∙ kept_first h x (take (i + 1) xs)
    ∙ ap (λ ys. option_to_list (h x) ++ ys) (kept_more h xs i d (omega (arith, small)))
    ∙ sym (append_assoc (option_to_list (h x)) (filter_map h (take i xs)) (option_to_list (h (slice_index_or xs i d))))
    ∙ sym (ap (λ ys. ys ++ option_to_list (h (slice_index_or xs i d))) (kept_first h x (take i xs)))
  where
    more : suc i + 1 ≡ suc (i + 1)
    more = omega arith

-- the step of a loop that puts what is kept last
pub one_more : {X Y : Type 0} (h : X → Option Y) (xs : List X) (i : ℕ) (d : X) (start now new : List Y) → i < length xs →
    now ≡ start ++ filter_map h (take i xs) → new ≡ now ++ option_to_list (h (slice_index_or xs i d)) →
    new ≡ start ++ filter_map h (take (i + 1) xs)
one_more h xs i d start now new small was is =
    is ∙ ap (λ ys. ys ++ option_to_list (h (slice_index_or xs i d))) was
    ∙ append_assoc start (filter_map h (take i xs)) (option_to_list (h (slice_index_or xs i d)))
    ∙ ap (λ ys. start ++ ys) (sym (kept_more h xs i d small))
