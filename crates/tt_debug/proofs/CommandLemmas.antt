-- Lines as commands.
use Rattle.std.proofs.Common.{◌≡◌, ◌≢◌, ◌<◌, ◌+◌, ◌&&◌, ◌==◌, ℕ, Bool, true, false, List, [], ◌∷◌, ◌++◌, length, drop, get_or, Option, Some, None}
use Rattle.std.proofs.Common.{add-one, ap, drop-cons, if◌then◌else◌, refl, rules, sym, tests}
use Rattle.std.specs.Char.{is_ascii_digit}
use Rattle.std.specs.Str.{all_ascii_digits}
use Rattle.tt_ids.specs.Ids.{after_letters}

-- ---- what stands behind a word ----

pub front-same : (front text : List ℕ) → after_letters front (front ++ text) ≡ Some text
front-same [] text = refl
front-same (letter ∷ front) text =
    let same : (letter == letter) ≡ true = search rules in
    rw same (front-same front text)

front-cut : (front text rest : List ℕ) → after_letters front text ≡ Some rest → text ≡ front ++ rest
front-cut [] text rest e = cc e
front-cut (letter ∷ front) [] rest e = absurd (search rules)
front-cut (letter ∷ front) (b ∷ text) rest e = go (letter == b) refl e (λ h. front-cut front text rest h)
  where
    go : (same : Bool) → (letter == b) ≡ same → (if same then after_letters front text else None) ≡ Some rest →
        (after_letters front text ≡ Some rest → text ≡ front ++ rest) → b ∷ text ≡ letter ∷ front ++ rest
    go true is e cut =
        let alike : letter ≡ b = search (rules, is, tests) in
        rw alike (ap (λ t. b ∷ t) (cut e))
    go false is e cut = absurd (search rules)

pub behind-none : (front text : List ℕ) → ((rest : List ℕ) → text ≢ front ++ rest) → None ≡ after_letters front text
behind-none front text never = go (after_letters front text) refl
  where
    go : (found : Option (List ℕ)) → after_letters front text ≡ found → None ≡ found
    go None is = refl
    go (Some rest) is = absurd (never rest (front-cut front text rest is))

pub behind-some : (front text rest : List ℕ) → text ≡ front ++ rest → Some rest ≡ after_letters front text
behind-some front text rest is = rw is (sym (front-same front rest))

-- ---- digits ----

pub digit-more : (xs : List ℕ) (i : ℕ) → i < length xs → is_ascii_digit (get_or xs i 0) ≡ true
    → all_ascii_digits (drop i xs) ≡ all_ascii_digits (drop (i + 1) xs)
digit-more xs i less digit = rw (drop-cons xs i 0 less, digit, add-one i) refl

pub digit-stops : (xs : List ℕ) (i : ℕ) → i < length xs → is_ascii_digit (get_or xs i 0) ≡ false → all_ascii_digits (drop i xs) ≡ false
digit-stops xs i less stops = rw (drop-cons xs i 0 less, stops) refl
