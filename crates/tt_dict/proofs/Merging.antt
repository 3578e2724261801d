-- Dictionaries are merged one after the other.
use Rattle.std.proofs.Common.{◌≡◌, ◌∙◌, ℕ, List, [], ◌∷◌, Ok, Err, length, map, refl, sym, ap, rules}
use Rattle.tt_pairs.specs.Pairs.{Pairs, joined_pairs}
use Rattle.tt_pairs.specs.Reading.{Reading, reading_of}
use Rattle.tt_dict.specs.Paths.{for_pairs}
use Rattle.tt_dict.specs.Telling.{merge_of}

merge_next : (all : Pairs) (words later : List (List ℕ)) (word : List ℕ) (reading : Reading) →
    words ≡ word ∷ later →
    reading_of word ≡ reading →
    merge_of all (map reading_of words) ≡ for_pairs (λ more. merge_of (joined_pairs all more) (map reading_of later)) reading
merge_next all words later word reading is read =
    ap (λ words. merge_of all (map reading_of words)) is
    ∙ ap (for_pairs (λ more. merge_of (joined_pairs all more) (map reading_of later))) read

pub merge_more : (all more next : Pairs) (words later : List (List ℕ)) (word : List ℕ) →
    words ≡ word ∷ later →
    reading_of word ≡ Ok more →
    next ≡ joined_pairs all more →
    merge_of all (map reading_of words) ≡ merge_of next (map reading_of later)
merge_more all more next words later word is read put =
    merge_next all words later word (Ok more) is read ∙ ap (λ all. merge_of all (map reading_of later)) (sym put)

pub merge_stops : (all : Pairs) (words later : List (List ℕ)) (word message : List ℕ) →
    words ≡ word ∷ later →
    reading_of word ≡ Err message →
    merge_of all (map reading_of words) ≡ Err message
merge_stops all words later word message is read = merge_next all words later word (Err message) is read

pub merge_last : (all : Pairs) (words : List (List ℕ)) → length words ≡ 0 → merge_of all (map reading_of words) ≡ Ok all
merge_last all [] none = refl
merge_last all (word ∷ words) none = absurd (search (rules, none))
