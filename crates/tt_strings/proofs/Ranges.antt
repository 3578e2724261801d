-- Characters by their places.
use Rattle.std.proofs.Common.{◌≡◌, ℕ, zero, suc, ◌+◌, ◌-◌, ◌≤◌, Bool, true, false, List, [], ◌∷◌, ◌++◌, length, take}
use Rattle.std.proofs.Common.{drop, min, get_or, refl, sym, ap, ◌∙◌, arith, length-append, append-nil}
use Rattle.std.specs.Prelude.{ℤ, pos, negsuc}
use Rattle.std.proofs.lemmas.List.{take-append-drop, take_min, drop_min, length-take}
use Rattle.std.proofs.Math.Seq.{take-append_seam, drop-nil, take-nil}
use Rattle.tt_text.specs.Characters.{Character, characters, begin_with, continues_character}
use Rattle.tt_strings.specs.Places.{bytes_of, character_at, places_before, places_through, range}
use Rattle.tt_strings.proofs.Cuts.{cut_at, whole_text}

begin_cases : (b n : ℕ) (more : List ℕ) (later : List Character) (v : Bool) → continues_character n ≡ v →
    length (begin_with b ((n ∷ more) ∷ later)) ≤ 1 + suc (length later)
begin_cases b n more later true e = rw (e, begin_with) (omega arith)
begin_cases b n more later false e = rw (e, begin_with) (omega arith)

begin_longer : (b : ℕ) (later : List Character) → length (begin_with b later) ≤ 1 + length later
begin_longer b [] = omega arith
begin_longer b ([] ∷ later) = omega arith
begin_longer b ((n ∷ more) ∷ later) = begin_cases b n more later (continues_character n) refl

-- there are no more characters than bytes
pub no_more_characters : (text : List ℕ) → length (characters text) ≤ length text
no_more_characters [] = omega arith
no_more_characters (b ∷ text) = omega (arith, begin_longer b (characters text), no_more_characters text)

-- the text before what is left of it

split_text : (text rest : List ℕ) (front : List Character) → characters text ≡ front ++ characters rest → text ≡ bytes_of front ++ rest
split_text text rest front e = (cut_at text front (characters rest) e).bytes ∙ ap (λ t. bytes_of front ++ t) (whole_text rest)

pub rest_no_longer : (text rest : List ℕ) (front : List Character) → characters text ≡ front ++ characters rest → length rest ≤ length text
rest_no_longer text rest front e =
    let long : length text ≡ length (bytes_of front) + length rest = ap length (split_text text rest front e) ∙ length-append (bytes_of front) rest in
    omega (arith, long)

pub before_rest : (text rest : List ℕ) (front : List Character) → characters text ≡ front ++ characters rest →
    characters (take (length text - length rest) text) ≡ front
before_rest text rest front e =
    let long : length text ≡ length (bytes_of front) + length rest = ap length (split_text text rest front e) ∙ length-append (bytes_of front) rest in
    let count : length text - length rest ≡ length (bytes_of front) = omega (arith, long) in
    ap characters (ap (λ k. take k text) count ∙ ap (take (length (bytes_of front))) (split_text text rest front e) ∙ take-append_seam (bytes_of front) rest)
    ∙ (cut_at text front (characters rest) e).front_is

-- the same after the first n characters

rest_after : (text rest : List ℕ) (n : ℕ) → characters rest ≡ drop n (characters text) → characters text ≡ take n (characters text) ++ characters rest
rest_after text rest n e = sym (take-append-drop n (characters text)) ∙ ap (λ l. take n (characters text) ++ l) (sym e)

pub rest_within : (text rest : List ℕ) (n : ℕ) → characters rest ≡ drop n (characters text) → length rest ≤ length text
rest_within text rest n e = rest_no_longer text rest (take n (characters text)) (rest_after text rest n e)

pub front_characters : (text rest : List ℕ) (n : ℕ) → characters rest ≡ drop n (characters text)
    → characters (take (length text - length rest) text) ≡ take n (characters text)
front_characters text rest n e = before_rest text rest (take n (characters text)) (rest_after text rest n e)

take_capped : (n m : ℕ) (xs : List Character) → length xs ≤ m → take (min n m) xs ≡ take n xs
take_capped n m xs h =
    let same : min (min n m) (length xs) ≡ min n (length xs) = omega arith in
    sym (take_min (min n m) xs) ∙ ap (λ k. take k xs) same ∙ take_min n xs

drop_capped : (n m : ℕ) (xs : List Character) → length xs ≤ m → drop (min n m) xs ≡ drop n xs
drop_capped n m xs h =
    let same : min (min n m) (length xs) ≡ min n (length xs) = omega arith in
    sym (drop_min (min n m) xs) ∙ ap (λ k. drop k xs) same ∙ drop_min n xs

-- one place through itself

one_place : (n : ℕ) (xs : List Character) → bytes_of (drop n (take (n + 1) xs)) ≡ get_or xs n []
one_place n [] = ap (λ xs. bytes_of (drop n xs)) (take-nil (n + 1)) ∙ ap bytes_of (drop-nil n)
one_place zero (c ∷ xs) = ap (λ k. bytes_of (take k (c ∷ xs))) one ∙ append-nil c where
  one : 0 + 1 ≡ 1
  one = refl
one_place (suc n) (c ∷ xs) = ap (λ k. bytes_of (drop (suc n) (take k (c ∷ xs)))) more ∙ one_place n xs where
  more : suc n + 1 ≡ suc (n + 1)
  more = omega arith

pub one_character : (place : ℤ) (characters : List Character) → bytes_of (range place place characters) ≡ character_at place characters
one_character (pos n) characters = one_place n characters
one_character (negsuc n) characters = refl

-- the characters after those before `first`, among those through `last`
pub between : (text front middle : List ℕ) (first last : ℤ) (m n : ℕ) → m ≡ min (places_through last) (length text) →
    n ≡ min (places_before first) (length text)
    → characters front ≡ take m (characters text)
    → characters middle ≡ drop n (characters front)
    → characters middle ≡ range first last (characters text)
between text front middle first last m n i j e f =
    let through : characters front ≡ take (places_through last) (characters text) =
    e ∙ ap (λ k. take k (characters text)) i ∙ take_capped (places_through last) (length text) (characters text) (no_more_characters text) in
    let few : length (characters front) ≤ length text = omega (arith, no_more_characters text, ap length e, length-take m (characters text)) in
    f ∙ ap (λ k. drop k (characters front)) j ∙ drop_capped (places_before first) (length text) (characters front) few ∙ ap (drop (places_before first)) through

pub text_of : (text : List ℕ) (cut : List Character) → characters text ≡ cut → text ≡ bytes_of cut
text_of text cut e = sym (whole_text text) ∙ ap bytes_of e
