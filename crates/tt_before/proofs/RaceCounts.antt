-- Races that are found one after another.
use Rattle.std.proofs.Common.{◌≡◌, ◌∙◌, ℕ, zero, suc, ◌+◌, ◌<◌, ◌≤◌, Bool, true, false, cond, nat_le, List, [], ◌∷◌, ◌++◌, Some, None, length}
use Rattle.std.proofs.Common.{slice_index_or, take, drop, refl, sym, ap, subst, arith}
use Rattle.std.specs.List.{filter_map}
use Rattle.std.specs.Option.{option_to_list}
use Rattle.std.proofs.lemmas.Bool.{leb-true, leb-false}
use Rattle.std.proofs.lemmas.List.{append-nil, append_assoc}
use Rattle.tt_before.specs.Touching.{first_shared, is_one_of}
use Rattle.tt_before.specs.declared.kept.Touch.{Touch}
use Rattle.tt_before.specs.declared.race.Race.{Race}
use Rattle.tt_before.specs.declared.race.Races.{Races}
use Rattle.std.proofs.lemmas.Option.{slice_get_read}
use Rattle.tt_before.specs.inside.Found.{AreCounted, race_of, race_with, races, races_at, races_up_to, told_if}
use Rattle.tt_before.proofs.Joins.{all_taken}
use Rattle.tt_before.proofs.Lists.{kept_more}

-- ---- the first shared key ----

pub shared_here : (keys others : List (List ℕ)) (i : ℕ) (key : List ℕ) → i < length keys → key ≡ slice_index_or keys i key → is_one_of key others ≡ true →
    first_shared (drop i keys) others ≡ Some key
shared_here [] others i key small at is = absurd (omega (arith, small))
shared_here (first ∷ keys) others zero key small at is =
    ap (λ k. cond (is_one_of k others) (Some k) (first_shared keys others)) (sym at) ∙ ap (λ b. cond b (Some key) (first_shared keys others)) is
shared_here (first ∷ keys) others (suc i) key small at is = shared_here keys others i key (omega (arith, small)) at is

pub shared_later : (keys others : List (List ℕ)) (i : ℕ) (key : List ℕ) → i < length keys → key ≡ slice_index_or keys i key → is_one_of key others ≡ false →
    first_shared (drop i keys) others ≡ first_shared (drop (i + 1) keys) others
shared_later [] others i key small at is = absurd (omega (arith, small))
shared_later (first ∷ keys) others zero key small at is =
    ap (λ k. cond (is_one_of k others) (Some k) (first_shared keys others)) (sym at) ∙ ap (λ b. cond b (Some key) (first_shared keys others)) is
shared_later (first ∷ keys) others (suc i) key small at is =
    shared_later keys others i key (omega (arith, small)) at is ∙ ap (λ n. first_shared (drop n (first ∷ keys)) others) next
  where
    next : suc (i + 1) ≡ suc i + 1
    next = omega arith

pub shared_nowhere : (keys others : List (List ℕ)) (i : ℕ) → length keys ≤ i → first_shared (drop i keys) others ≡ None
shared_nowhere [] others zero past = refl
shared_nowhere [] others (suc i) past = refl
shared_nowhere (first ∷ keys) others zero past = absurd (omega (arith, past))
shared_nowhere (first ∷ keys) others (suc i) past = shared_nowhere keys others i (omega (arith, past))

-- ---- counts ----

take_room : {X : Type 0} (n : ℕ) (xs : List X) (x : X) → length xs < n → take n (xs ++ x ∷ []) ≡ take n xs ++ x ∷ []
take_room zero xs x small = absurd (omega (arith, small))
take_room (suc n) [] x small = ap (λ ys. x ∷ ys) (all_taken [] n (omega arith))
take_room (suc n) (y ∷ xs) x small = ap (λ ys. y ∷ ys) (take_room n xs x (omega (arith, small)))

take_full : {X : Type 0} (n : ℕ) (xs : List X) (x : X) → n ≤ length xs → take n (xs ++ x ∷ []) ≡ take n xs
take_full zero xs x large = refl
take_full (suc n) [] x large = absurd (omega (arith, large))
take_full (suc n) (y ∷ xs) x large = ap (λ ys. y ∷ ys) (take_full n xs x (omega (arith, large)))

length_push : {X : Type 0} (xs : List X) (x : X) → length (xs ++ x ∷ []) ≡ length xs + 1
length_push [] x = refl
length_push (y ∷ xs) x = let later = length_push xs x in omega (arith, later)

pub counted_more : (all : List Race) (old new : Races) (race : Race) → AreCounted all old → new.first.items ≡ old.first.items ++ told_if old.count race →
    new.count ≡ old.count + 1 → AreCounted (all ++ race ∷ []) new
counted_more all old new race was first count = record {
  first = first ∙ by (nat_le 100 old.count) refl;
  counted = let size = length_push all race in let before = was.counted in omega (arith, count, size, before);
}
  where
    by : (b : Bool) → nat_le 100 old.count ≡ b → old.first.items ++ told_if old.count race ≡ take 100 (all ++ race ∷ [])
    by true is =
        ap (λ b. old.first.items ++ cond b [] (race ∷ [])) is ∙ append-nil old.first.items ∙ was.first
        ∙ sym (take_full 100 all race (let large = leb-true 100 old.count is in let before = was.counted in omega (arith, large, before)))
    by false is =
        ap (λ b. old.first.items ++ cond b [] (race ∷ [])) is ∙ ap (λ ys. ys ++ race ∷ []) was.first
        ∙ sym (take_room 100 all race (let small = leb-false 100 old.count is in let before = was.counted in omega (arith, small, before)))

pub no_race : (all : List Race) (one other : Touch) (told : Races) → races one other ≡ false → AreCounted all told →
    AreCounted (all ++ option_to_list (race_with other one)) told
no_race all one other told is counted =
    subst (λ b. AreCounted (all ++ option_to_list (cond b (Some (race_of one other)) None)) told) (sym is) (subst (λ l. AreCounted l told) (sym
    (append-nil all)) counted)

pub a_race : (all : List Race) (one other : Touch) (told : Races) → races one other ≡ true → AreCounted (all ++ race_of one other ∷ []) told →
    AreCounted (all ++ option_to_list (race_with other one)) told
a_race all one other told is counted = subst (λ b. AreCounted (all ++ option_to_list (cond b (Some (race_of one other)) None)) told) (sym is) counted

pub with_more : (all : List Race) (touches : List Touch) (i : ℕ) (one other : Touch) (told : Races) → i < length touches →
    one ≡ slice_index_or touches i one →
    AreCounted ((all ++ filter_map (race_with other) (take i touches)) ++ option_to_list (race_with other one)) told →
    AreCounted (all ++ filter_map (race_with other) (take (i + 1) touches)) told
with_more all touches i one other told small at =
    subst (λ l. AreCounted l told)
    (append_assoc all (filter_map (race_with other) (take i touches)) (option_to_list (race_with other one))
    ∙ ap (λ l. all ++ l) (ap (λ o. filter_map (race_with other) (take i touches) ++ option_to_list (race_with other o)) at
    ∙ sym (kept_more (race_with other) touches i one small)))

pub next_row : (touches : List Touch) (place : ℕ) (other : Touch) (told : Races) → place < length touches → other ≡ slice_index_or touches place other →
    AreCounted (races_up_to touches place ++ filter_map (race_with other) (take place touches)) told → AreCounted (races_up_to touches (place + 1)) told
next_row touches place other told small at counted =
    subst (λ n. AreCounted (races_up_to touches n) told) next
    (subst (λ o. AreCounted (races_up_to touches place ++ races_at touches place o) told) (sym (slice_get_read touches
    (length touches) place other refl small at)) counted)
  where
    next : suc place ≡ place + 1
    next = omega arith
