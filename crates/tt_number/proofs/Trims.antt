-- White space at the end of a text, seen from its last byte.
use Rattle.std.proofs.Common.{◌≡◌, ℕ, ◌+◌, ◌-◌, ◌<◌, Bool, true, false, ◌&&◌, List, [], ◌∷◌, ◌++◌, length, get_or, take, refl, sym, ap, ◌∙◌, arith}
use Rattle.std.specs.List.{list_all}
use Rattle.std.proofs.Math.Seq.{take-length}
use Rattle.std.proofs.lemmas.List.{take_more}
use Rattle.tt_text.specs.Characters.{is_white_space}
use Rattle.tt_number.specs.Numerals.{without_white_back}

pub and_false : (b : Bool) → (b && false) ≡ false
and_false true = refl
and_false false = refl

all_but_last : (xs : List ℕ) (x : ℕ) → is_white_space x ≡ true → list_all is_white_space (xs ++ x ∷ []) ≡ list_all is_white_space xs
all_but_last [] x h = rw h
all_but_last (y ∷ xs) x h = rw (all_but_last xs x h)

white_last : (xs : List ℕ) (x : ℕ) → is_white_space x ≡ true → without_white_back (xs ++ x ∷ []) ≡ without_white_back xs
white_last [] x h = rw h
white_last (y ∷ xs) x h = rw (all_but_last xs x h, white_last xs x h)

not_all : (xs : List ℕ) (x : ℕ) → is_white_space x ≡ false → list_all is_white_space (xs ++ x ∷ []) ≡ false
not_all [] x h = rw h
not_all (y ∷ xs) x h = rw (not_all xs x h) (and_false (is_white_space y))

kept_last : (xs : List ℕ) (x : ℕ) → is_white_space x ≡ false → without_white_back (xs ++ x ∷ []) ≡ xs ++ x ∷ []
kept_last [] x h = rw h
kept_last (y ∷ xs) x h = rw (not_all xs x h, and_false (is_white_space y), kept_last xs x h)

last_split : (xs : List ℕ) → 0 < length xs → xs ≡ take (length xs - 1) xs ++ get_or xs (length xs - 1) 0 ∷ []
last_split xs h =
    let more = take_more xs (length xs - 1) 0 (omega arith) in
    let whole : length xs - 1 + 1 ≡ length xs = omega arith in
    sym (take-length xs) ∙ (rw whole at more)

pub white_end : (xs : List ℕ) → 0 < length xs → is_white_space (get_or xs (length xs - 1) 0) ≡ true →
    without_white_back (take (length xs - 1) xs) ≡ without_white_back xs
white_end xs some h = sym (ap without_white_back (last_split xs some) ∙ white_last (take (length xs - 1) xs) _ h)

pub kept_end : (xs : List ℕ) → 0 < length xs → is_white_space (get_or xs (length xs - 1) 0) ≡ false → xs ≡ without_white_back xs
kept_end xs some h = last_split xs some ∙ sym (ap without_white_back (last_split xs some) ∙ kept_last (take (length xs - 1) xs) _ h)
