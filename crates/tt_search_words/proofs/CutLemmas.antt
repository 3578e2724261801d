-- A word and its first `=`.
use Rattle.std.proofs.Common.{◌≡◌, ◌≢◌, ◌==◌, ◌<◌, suc, ℕ, Bool, true, false, List, [], ◌∷◌, ◌++◌, length, get_or}
use Rattle.std.proofs.Common.{Option, Some, None, if◌then◌else◌, refl, ap, arith}
use Rattle.tt_search_words.specs.inside.Places.{after_sign, before_sign}

code_is : (b c : ℕ) → (b == c) ≡ true → b ≡ c
code_is b c e = grind arith

-- ---- a text without `=`

abbrev pub Lacks : List ℕ → Type 0
Lacks text = (i : ℕ) → i < length text → get_or text i 0 ≢ 61

lacks_first : (b : ℕ) (bytes : List ℕ) → Lacks (b ∷ bytes) → b ≢ 61
lacks_first b bytes lacks = lacks 0 (omega arith)

lacks_rest : (b : ℕ) (bytes : List ℕ) → Lacks (b ∷ bytes) → Lacks bytes
lacks_rest b bytes lacks = λ i within. lacks (suc i) (omega arith)

before_whole : (b : ℕ) (bytes : List ℕ) (sign : Bool) → (b == 61) ≡ sign → b ≢ 61 →
    before_sign bytes ≡ bytes → before_sign (b ∷ bytes) ≡ b ∷ bytes
before_whole b bytes true is differs rest = absurd (differs (code_is b 61 is))
before_whole b bytes false is differs rest = rw is (ap (λ (t : List ℕ). b ∷ t) rest)

pub before_sign-Lacks : (text : List ℕ) → Lacks text → before_sign text ≡ text
before_sign-Lacks [] lacks = refl
before_sign-Lacks (b ∷ bytes) lacks =
    before_whole b bytes (b == 61) refl (lacks_first b bytes lacks)
    (before_sign-Lacks bytes (lacks_rest b bytes lacks))

after_whole : (b : ℕ) (bytes : List ℕ) (sign : Bool) → (b == 61) ≡ sign → b ≢ 61 →
    after_sign bytes ≡ None → after_sign (b ∷ bytes) ≡ None
after_whole b bytes true is differs rest = absurd (differs (code_is b 61 is))
after_whole b bytes false is differs rest = rw is rest

pub after_sign-Lacks : (text : List ℕ) → Lacks text → after_sign text ≡ None
after_sign-Lacks [] lacks = refl
after_sign-Lacks (b ∷ bytes) lacks =
    after_whole b bytes (b == 61) refl (lacks_first b bytes lacks) (after_sign-Lacks bytes (lacks_rest b bytes lacks))

-- ---- a text, `=` and a value

before_more : (b : ℕ) (name value : List ℕ) (sign : Bool) → (b == 61) ≡ sign → b ≢ 61 →
    before_sign (name ++ (61 ∷ value)) ≡ name → before_sign ((b ∷ name) ++ (61 ∷ value)) ≡ b ∷ name
before_more b name value true is differs rest = absurd (differs (code_is b 61 is))
before_more b name value false is differs rest = rw is (ap (λ (t : List ℕ). b ∷ t) rest)

pub before_sign-at : (name value : List ℕ) → Lacks name → before_sign (name ++ (61 ∷ value)) ≡ name
before_sign-at [] value lacks = refl
before_sign-at (b ∷ name) value lacks =
    before_more b name value (b == 61) refl (lacks_first b name lacks)
    (before_sign-at name value (lacks_rest b name lacks))

after_more : (b : ℕ) (name value : List ℕ) (sign : Bool) → (b == 61) ≡ sign → b ≢ 61 →
    after_sign (name ++ (61 ∷ value)) ≡ Some value → after_sign ((b ∷ name) ++ (61 ∷ value)) ≡ Some value
after_more b name value true is differs rest = absurd (differs (code_is b 61 is))
after_more b name value false is differs rest = rw is rest

pub after_sign-at : (name value : List ℕ) → Lacks name → after_sign (name ++ (61 ∷ value)) ≡ Some value
after_sign-at [] value lacks = refl
after_sign-at (b ∷ name) value lacks =
    after_more b name value (b == 61) refl (lacks_first b name lacks)
    (after_sign-at name value (lacks_rest b name lacks))

-- ---- a word is its parts

abbrev pub Joins : (word name : List ℕ) → Option (List ℕ) → Type 0
Joins word name None = word ≡ name
Joins word name (Some value) = word ≡ name ++ (61 ∷ value)

joins_more : (b : ℕ) (bytes name : List ℕ) (value : Option (List ℕ)) → Joins bytes name value →
    Joins (b ∷ bytes) (b ∷ name) value
joins_more b bytes name None joins = ap (λ (t : List ℕ). b ∷ t) joins
joins_more b bytes name (Some value) joins = ap (λ (t : List ℕ). b ∷ t) joins

joins_step : (b : ℕ) (bytes : List ℕ) (sign : Bool) → (b == 61) ≡ sign →
    Joins bytes (before_sign bytes) (after_sign bytes) →
    Joins (b ∷ bytes) (if sign then [] else b ∷ before_sign bytes) (if sign then Some bytes else after_sign bytes)
joins_step b bytes true is rest = ap (λ (c : ℕ). c ∷ bytes) (code_is b 61 is)
joins_step b bytes false is rest = joins_more b bytes (before_sign bytes) (after_sign bytes) rest

pub joins : (word : List ℕ) → Joins word (before_sign word) (after_sign word)
joins [] = refl
joins (b ∷ bytes) = joins_step b bytes (b == 61) refl (joins bytes)
