-- What is made of the characters of a text is one thing (string(n), split(n)).
use Rattle.std.proofs.Common.{◌≡◌, ◌∙◌, ◌<◌, ◌≤◌, ◌++◌, ℕ, zero, suc, true, false, ℤ, List, [], ◌∷◌, Some, None, refl, ap, sym, subst, arith}
use Rattle.std.proofs.lemmas.List.{append_cancel_left}
use Rattle.tt_text.specs.Characters.{Character, characters}
use Rattle.tt_strings.specs.Finding.{IsFirstPlace, IsLastPlace}
use Rattle.tt_strings.specs.Making.{IsRepeated}
use Rattle.tt_strings.specs.Mapping.{HasNoPair, IsAtFront, IsFirstPair, IsMapped, IsStep, ended, here, kept, later, replaced, step}
use Rattle.tt_strings.specs.Places.{bytes_of}
use Rattle.tt_strings.specs.Splitting.{HasNone, IsSplit, IsSplitInto, field, last}
use Rattle.tt_strings.specs.Trimming.{is_among}
use Rattle.tt_strings.specs.declared.making.Repetition.{Repetition}
use Rattle.tt_strings.specs.declared.making.Repetition.TheVariants.{Made, TooLong}
use Rattle.tt_strings.proofs.Cuts.{whole_text}
use Rattle.laws_language.proofs.Once.{Only}

-- ---- where a needle stands ----

same-place : (p q : ℕ) → (p < q → ⊥) → (q < p → ⊥) → p ≡ q
same-place zero zero less more = refl
same-place zero (suc q) less more = absurd (less (omega arith))
same-place (suc p) zero less more = absurd (more (omega arith))
same-place (suc p) (suc q) less more =
    ap suc (same-place p q (λ lt. less (omega (arith, lt))) (λ lt. more (omega (arith, lt))))

pub first-once : (needle text : List Character) → Only (IsFirstPlace needle text)
first-once [] text one other is its = is ∙ sym its
first-once (c ∷ needle) text None None is its = refl
first-once (c ∷ needle) text None (Some q) is its = absurd (is q its.0)
first-once (c ∷ needle) text (Some p) None is its = absurd (its p is.0)
first-once (c ∷ needle) text (Some p) (Some q) is its =
    ap Some (same-place p q (λ lt. its.1 p lt is.0) (λ lt. is.1 q lt its.0))

pub last-once : (needle text : List Character) → Only (IsLastPlace needle text)
last-once [] text one other is its = is ∙ sym its
last-once (c ∷ needle) text None None is its = refl
last-once (c ∷ needle) text None (Some q) is its = absurd (is q its.0)
last-once (c ∷ needle) text (Some p) None is its = absurd (its p is.0)
last-once (c ∷ needle) text (Some p) (Some q) is its =
    ap Some (same-place p q (λ lt. is.1 q lt its.0) (λ lt. its.1 p lt is.0))

-- ---- a text so many times ----

too-long : {n m : ℕ} → n ≤ m → m < n → ⊥
too-long le lt = omega (arith, le, lt)

pub repeated-once : (text : List ℕ) (count : ℤ) → Only (λ (came : Repetition). IsRepeated came text count)
repeated-once text count (Made one) (Made other) is its = ap Made (is.1 ∙ sym its.1)
repeated-once text count (Made one) TooLong is its = absurd (too-long is.0 its)
repeated-once text count TooLong (Made other) is its = absurd (too-long its.0 is)
repeated-once text count TooLong TooLong is its = refl

-- ---- keys and their values ----

front-same : (key : List ℕ) {text rest left : List Character} → IsAtFront key text rest → IsAtFront key text left → rest ≡ left
front-same key {text} {rest} {left} is its = append_cancel_left (characters key) rest left (sym is.cut ∙ its.cut)

pair-same : {pairs : List (List ℕ)} {text rest left : List Character} {one other : List ℕ}
    → IsFirstPair pairs text one rest → IsFirstPair pairs text other left → (one ≡ other) × (rest ≡ left)
pair-same (here {key = key} is) (here its) = (refl, front-same key is its)
pair-same (here {rest = rest} is) (later not more) = absurd (not rest is)
pair-same (later not more) (here {rest = rest} its) = absurd (not rest its)
pair-same (later not more) (later never others) = pair-same more others

no-pair : {pairs : List (List ℕ)} {text rest : List Character} {value : List ℕ} → IsFirstPair pairs text value rest → HasNoPair pairs text → ⊥
no-pair (here {rest = rest} is) none = none.0 rest is
no-pair (later not more) none = no-pair more none.1

nothing-before : (front rest : List Character) → front ++ rest ≡ [] → front ≡ []
nothing-before [] rest e = refl
nothing-before (c ∷ front) rest e = absurd (cc e)

no-front : (key : List ℕ) {text rest : List Character} → text ≡ [] → IsAtFront key text rest → ⊥
no-front key {text} {rest} e is =
    is.some (sym (whole_text key) ∙ ap bytes_of (nothing-before (characters key) rest (sym is.cut ∙ e)))

nothing-first : {pairs : List (List ℕ)} {text rest : List Character} {value : List ℕ} → text ≡ [] → IsFirstPair pairs text value rest → ⊥
nothing-first e (here {key = key} is) = no-front key e is
nothing-first e (later not more) = nothing-first e more

some-nothing : {c : Character} {rest : List Character} → c ∷ rest ≡ [] → ⊥
some-nothing e = cc

module _ (pairs : List (List ℕ)) where
  step-same : {text rest left : List Character} {one other : List ℕ} → IsStep pairs text one rest → IsStep pairs text other left → (one ≡ other) × (rest ≡ left)
  step-same (replaced is) (replaced its) = pair-same is its
  step-same (replaced is) (kept none) = absurd (no-pair is none)
  step-same (kept none) (replaced its) = absurd (no-pair its none)
  step-same (kept none) (kept lacks) = (refl, refl)

  no-step : {text rest : List Character} {made : List ℕ} → text ≡ [] → IsStep pairs text made rest → ⊥
  no-step e (replaced is) = nothing-first e is
  no-step e (kept none) = some-nothing e

  mapped-same : {text : List Character} {one other : List ℕ} → IsMapped pairs text one → IsMapped pairs text other → one ≡ other
  mapped-same ended ended = refl
  mapped-same ended (step is rest) = absurd (no-step refl is)
  mapped-same (step is rest) ended = absurd (no-step refl is)
  mapped-same {other = end} (step {rest = rest} {made = one} {later = after} is more) (step {rest = left} {made = other} {later = others} its most) =
      let same = step-same is its in
      let ends = mapped-same more (subst (λ (text : List Character). IsMapped pairs text others) (sym same.1) most) in
      ap (λ front. front ++ after) same.0 ∙ ap (λ back. other ++ back) ends

  pub mapped-once : (text : List Character) → Only (IsMapped pairs text)
  mapped-once text one other is its = mapped-same is its

-- ---- fields ----

module _ (splitting : List Character) where
  true-false : {c d : Character} → c ≡ d → is_among splitting c ≡ true → is_among splitting d ≡ false → ⊥
  true-false same is not = cc

  fields-same : (front other : List Character) (s t : Character) (rest left : List Character)
      → HasNone splitting front → HasNone splitting other → is_among splitting s ≡ true → is_among splitting t ≡ true
      → front ++ s ∷ rest ≡ other ++ t ∷ left → (front ≡ other) × (rest ≡ left)
  fields-same [] [] s t rest left none lacks is its e = (refl, cc)
  fields-same [] (d ∷ other) s t rest left none lacks is its e = let same : s ≡ d = cc in absurd (true-false same is lacks.0)
  fields-same (c ∷ front) [] s t rest left none lacks is its e = let same : t ≡ c = cc in absurd (true-false same its none.0)
  fields-same (c ∷ front) (d ∷ other) s t rest left none lacks is its e =
      let tails : front ++ s ∷ rest ≡ other ++ t ∷ left = cc in
      let same = fields-same front other s t rest left none.1 lacks.1 is its tails in
      let first : c ≡ d = cc in
      (ap (λ x. x ∷ front) first ∙ ap (λ xs. d ∷ xs) same.0, same.1)

  no-field : (text front : List Character) (s : Character) (rest : List Character) → HasNone splitting text → is_among splitting s ≡ true →
      text ≡ front ++ s ∷ rest → ⊥
  no-field [] [] s rest none is e = absurd (cc e)
  no-field [] (d ∷ front) s rest none is e = absurd (cc e)
  no-field (c ∷ text) [] s rest none is e = let same : s ≡ c = cc in true-false same is none.0
  no-field (c ∷ text) (d ∷ front) s rest none is e = let tails : text ≡ front ++ s ∷ rest = cc in no-field text front s rest none.1 is tails

  split-same : {text : List Character} {one other : List (List ℕ)} → IsSplit splitting text one → IsSplit splitting text other → one ≡ other
  split-same (last none) (last lacks) = refl
  split-same {text} (last none) (field {first = first} {rest = rest} begins more) =
      absurd (no-field text first begins.splits rest none begins.listed begins.cut)
  split-same {text} (field {first = first} {rest = rest} begins more) (last none) =
      absurd (no-field text first begins.splits rest none begins.listed begins.cut)
  split-same (field {first = first} {rest = rest} {fields = after} begins more) (field {first = start} {rest = left} {fields = others} begun most) =
      let same = fields-same first start begins.splits begun.splits rest left begins.none begun.none begins.listed begun.listed (sym begins.cut ∙ begun.cut) in
      let ends = split-same more (subst (λ (text : List Character). IsSplit splitting text others) (sym same.1) most) in
      ap (λ front. bytes_of front ∷ after) same.0 ∙ ap (λ fields. bytes_of start ∷ fields) ends

pub split-once : (splitting text : List Character) → Only (IsSplitInto splitting text)
split-once [] [] one other is its = is ∙ sym its
split-once (s ∷ splitting) [] one other is its = is ∙ sym its
split-once [] (c ∷ text) one other is its = is ∙ sym its
split-once (s ∷ splitting) (c ∷ text) one other is its = split-same (s ∷ splitting) is its
