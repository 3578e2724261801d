-- Texts of which each byte begins a character.
use Rattle.std.proofs.Common.{◌≡◌, ℕ, suc, ◌+◌, ◌≤◌, Bool, true, false, cond, ◌&&◌, ◌==◌, List, [], ◌∷◌, length, refl, sym, ap, ◌∙◌, arith}
use Rattle.std.specs.Prelude.{count_by, IsTrue}
use Rattle.std.specs.List.{list_all}
use Rattle.std.proofs.lemmas.List.Sums.{sum_by-cons, count_by-le-length}
use Rattle.std.proofs.lemmas.Bool.{ne_eqb, eqb-true}
use Rattle.std.proofs.Math.Dec.{eqb-suc-suc}
use Rattle.tt_text.specs.Characters.{characters, begins_character}
use Rattle.tt_text.proofs.CharacterLemmas.{count_characters}

differs : (n m : ℕ) → n ≤ m → (0 + n == suc m) ≡ false
differs n m h = ne_eqb (0 + n) (suc m) (λ e. omega (arith, h, e))

same_more : (n m : ℕ) → (1 + n == suc m) ≡ (n == m)
same_more n m =
    let one : 1 + n ≡ suc n = omega arith in
    ap (λ k. k == suc m) one ∙ eqb-suc-suc n m

-- all begin one if as many do as there are
counted : (text : List ℕ) → (count_by begins_character text == length text) ≡ list_all begins_character text
counted [] = refl
counted (x ∷ xs) =
    ap (λ n. n == suc (length xs)) (sum_by-cons (λ x. cond (begins_character x) 1 0) x xs)
    ∙ by (begins_character x) (counted xs)
  where
    by : (b : Bool) → (count_by begins_character xs == length xs) ≡ list_all begins_character xs
        → (cond b 1 0 + count_by begins_character xs == suc (length xs)) ≡ (b && list_all begins_character xs)
    by true e = same_more (count_by begins_character xs) (length xs) ∙ e
    by false e = differs (count_by begins_character xs) (length xs) (count_by-le-length begins_character xs)

-- a first byte that begins a character: are there as many characters as bytes?
pub first_begins : (text rest : List ℕ) (b count : ℕ) → text ≡ b ∷ rest → count ≡ length (characters text) → begins_character b ≡ true →
    (count == length text) ≡ list_all begins_character text
first_begins text rest b count is count_is begins =
    ap (λ n. n == length text) count_is
    ∙ ap (λ t. length (characters t) == length t) is
    ∙ ap (λ n. n == suc (length rest)) (count_characters b rest)
    ∙ same_more (count_by begins_character rest) (length rest)
    ∙ counted rest
    ∙ ap (λ v. v && list_all begins_character rest) (sym begins)
    ∙ ap (list_all begins_character) (sym is)

-- and one that doesn't
pub first_continues : (text rest : List ℕ) (b : ℕ) → text ≡ b ∷ rest → begins_character b ≡ false →
    false ≡ list_all begins_character text
first_continues text rest b is goes_on =
    ap (λ v. v && list_all begins_character rest) (sym goes_on) ∙ ap (list_all begins_character) (sym is)

pub none_narrow : (text : List ℕ) → length text ≡ 0 → true ≡ list_all begins_character text
none_narrow [] none = refl
none_narrow (b ∷ text) none = absurd (omega (arith, none))

all_count : (text : List ℕ) → list_all begins_character text ≡ true → count_by begins_character text ≡ length text
all_count text all = eqb-true (count_by begins_character text) (length text) (counted text ∙ all)

as_many : (text : List ℕ) → list_all begins_character text ≡ true → length (characters text) ≡ length text
as_many [] all = refl
as_many (b ∷ text) all = by (begins_character b) all
  where
    one : 1 + length text ≡ suc (length text)
    one = omega arith

    by : (v : Bool) → (v && list_all begins_character text) ≡ true → length (characters (b ∷ text)) ≡ suc (length text)
    by true all = count_characters b text ∙ ap (λ n. 1 + n) (all_count text all) ∙ one
    by false all = cc

pub one_byte_each : (text : List ℕ) (narrow : Bool) → narrow ≡ list_all begins_character text → IsTrue narrow →
    length (characters text) ≡ length text
one_byte_each text narrow is all = as_many text (sym is ∙ all)
