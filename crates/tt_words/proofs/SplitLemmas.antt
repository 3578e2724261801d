-- Words split in one way at most, and part by part.
use Rattle.std.proofs.Common.{◌≡◌, ℕ, Bool, true, false, List, [], ◌∷◌, refl, sym, ap, ◌∙◌, subst}
use Rattle.tt_words.specs.Splitting.{BeginsWith, Given, Splits, nothing, end_mark, ordinary, option, is_dashed, mark}
use Rattle.tt_words.proofs.FrontLemmas.{front_dashed, front_no_mark, one_front}

true_not_false : (b : Bool) → b ≡ true → b ≡ false → ⊥
true_not_false b t f = let e : true ≡ false = sym t ∙ f in cc

-- the mark is dashed
mark_dashed : (word : List ℕ) → word ≡ mark → is_dashed word ≡ true
mark_dashed word e = ap is_dashed e

-- ---- what the parts are, by the first word

-- after the mark all words are ordinary
pub only_mark : (word : List ℕ) (rest : List (List ℕ)) (options : List Given) (words : List (List ℕ)) →
    word ≡ mark → Splits (word ∷ rest) options words → (options ≡ []) × (words ≡ rest)
only_mark word rest options words is (end_mark e) = (refl, refl)
only_mark word rest options words is (ordinary plain after) =
    absurd (true_not_false (is_dashed word) (mark_dashed word is) plain)
only_mark word rest options words is (option front after) = absurd (front_no_mark front is)

-- what an ordinary word leaves
pub record AfterWord (word : List ℕ) (rest : List (List ℕ)) (options : List Given) (words : List (List ℕ)) : Type 0 where
  pub left : List (List ℕ)
  pub cut : words ≡ word ∷ left
  pub splits : Splits rest options left

pub only_word : (word : List ℕ) (rest : List (List ℕ)) (options : List Given) (words : List (List ℕ)) →
    is_dashed word ≡ false → Splits (word ∷ rest) options words → AfterWord word rest options words
only_word word rest options words plain (end_mark e) =
    absurd (true_not_false (is_dashed word) (mark_dashed word e) plain)
only_word word rest options words plain (ordinary {words = left} flat after) =
    record { left = left; cut = refl; splits = after }
only_word word rest options words plain (option front after) =
    absurd (true_not_false (is_dashed word) (front_dashed front) plain)

-- what an option with its value leaves
pub record AfterOption (given : Given) (rest : List (List ℕ)) (options : List Given) (words : List (List ℕ)) : Type 0 where
  pub left : List Given
  pub cut : options ≡ given ∷ left
  pub splits : Splits rest left words

after_front : (given other : Given) (rest second : List (List ℕ)) (options : List Given) (words : List (List ℕ)) →
    (given ≡ other) × (rest ≡ second) → Splits second options words → AfterOption given rest (other ∷ options) words
after_front given other rest second options words same splits = record {
  left = options;
  cut = ap (λ (g : Given). g ∷ options) (sym same.0);
  splits = subst (λ (r : List (List ℕ)). Splits r options words) (sym same.1) splits;
}

pub only_option : (all rest : List (List ℕ)) (given : Given) (options : List Given) (words : List (List ℕ)) →
    BeginsWith all given rest → Splits all options words → AfterOption given rest options words
only_option all rest given options words front nothing = absurd (front_dashed front)
only_option all rest given options words front (end_mark e) = absurd (front_no_mark front e)
only_option all rest given options words front (ordinary {word = word} plain after) =
    absurd (true_not_false (is_dashed word) (front_dashed front) plain)
only_option all rest given options words front (option {rest = second} {given = other} {options = left} again after) =
    after_front given other rest second left words (one_front front again) after

-- ---- one way at most

pub one_split : (all : List (List ℕ)) (options others : List Given) (words second : List (List ℕ)) →
    Splits all options words → Splits all others second → (options ≡ others) × (words ≡ second)
one_split all options others words second nothing nothing = (refl, refl)
one_split all options others words second nothing (option front after) = absurd (front_dashed front)
one_split all options others words second (end_mark {word} {rest} e) again =
    let same = only_mark word rest others second e again in
    (sym same.0, sym same.1)
one_split all options others words second (ordinary {word} {rest} {options = o} {words = w} plain after) again =
    let other = only_word word rest others second plain again in
    let same = one_split rest o others w other.left after other.splits in
    (same.0, ap (λ (t : List (List ℕ)). word ∷ t) same.1 ∙ sym other.cut)
one_split all options others words second (option {rest} {given} {options = o} front after) again =
    let other = only_option all rest given others second front again in
    let same = one_split rest o other.left words second after other.splits in
    (ap (λ (t : List Given). given ∷ t) same.0 ∙ sym other.cut, same.1)
