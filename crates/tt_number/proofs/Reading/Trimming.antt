-- What trimming leaves of a text with white space around bytes that are none.
use Rattle.std.proofs.Common.{◌≡◌, ℕ, ◌≤◌, Bool, true, false, not, List, [], ◌∷◌, ◌++◌, refl, ap, ◌∙◌, arith, inl, inr}
use Rattle.std.specs.Char.{is_digit}
use Rattle.std.specs.List.{list_all}
use Rattle.std.proofs.lemmas.Bool.{and_parts, and_from, cases_Bool}
use Rattle.std.proofs.lemmas.Bool.Decides.{nat_tests}
use Rattle.tt_text.specs.Characters.{is_white_space, without_white_front}
use Rattle.tt_number.specs.Numerals.{trimmed, without_white_back, all_digits}

pub all_parts : (p : ℕ → Bool) (x : ℕ) (xs : List ℕ) → list_all p (x ∷ xs) ≡ true → (p x ≡ true) × (list_all p xs ≡ true)
all_parts p x xs h = and_parts (p x) (list_all p xs) h

pub all_from : (p : ℕ → Bool) (x : ℕ) (xs : List ℕ) → p x ≡ true → list_all p xs ≡ true → list_all p (x ∷ xs) ≡ true
all_from p x xs h t = and_from (p x) (list_all p xs) h t

abbrev pub not_white : ℕ → Bool
not_white b = not (is_white_space b)

-- no byte is white space
abbrev pub is_plain : List ℕ → Bool
is_plain text = list_all not_white text

pub nonempty : (x : ℕ) (xs : List ℕ) → x ∷ xs ≡ [] → ⊥
nonempty x xs e = cc

front_skipped : (before rest : List ℕ) → list_all is_white_space before ≡ true → without_white_front (before ++ rest) ≡ without_white_front rest
front_skipped [] rest h = refl
front_skipped (b ∷ before) rest h = let p = all_parts is_white_space b before h in rw (p.0, without_white_front) (front_skipped before rest p.1)

back_gone : (after : List ℕ) → list_all is_white_space after ≡ true → without_white_back after ≡ []
back_gone [] h = refl
back_gone (b ∷ after) h = rw h

turned : (b : Bool) → not b ≡ true → b ≡ false
turned true h = cc
turned false h = refl

back_kept : (mid after : List ℕ) → is_plain mid ≡ true → list_all is_white_space after ≡ true → without_white_back (mid ++ after) ≡ mid
back_kept [] after plain white = back_gone after white
back_kept (b ∷ mid) after plain white = let p = all_parts not_white b mid plain in rw (turned (is_white_space b) p.0, back_kept mid after p.1 white)

pub trimmed_plain : (before : List ℕ) (b : ℕ) (mid after : List ℕ) → list_all is_white_space before ≡ true → is_plain (b ∷ mid) ≡ true →
    list_all is_white_space after ≡ true → trimmed (before ++ ((b ∷ mid) ++ after)) ≡ b ∷ mid
unfolding trimmed
trimmed_plain before b mid after front plain back =
    let p = all_parts not_white b mid plain in
    let front : without_white_front (before ++ ((b ∷ mid) ++ after)) ≡ (b ∷ mid) ++ after =
    front_skipped before ((b ∷ mid) ++ after) front ∙ rw (turned (is_white_space b) p.0, without_white_front) in
    ap without_white_back front ∙ back_kept (b ∷ mid) after plain back

-- a text is what is left of it with white space on that side
front_left : (text : List ℕ) → (before : List ℕ) × (text ≡ before ++ without_white_front text) × (list_all is_white_space before ≡ true)
front_left [] = ([], refl, refl)
front_left (b ∷ text) =
    elim (cases_Bool (is_white_space b)) [
      | inl h ↦ (let r = front_left text in rw (h, without_white_front) (b ∷ r.0, ap (λ t. b ∷ t) r.1, all_from is_white_space b r.0 h r.2))
      | inr h ↦ rw (h, without_white_front) ([], refl, refl)
    ]

back_left : (text : List ℕ) → (after : List ℕ) × (text ≡ without_white_back text ++ after) × (list_all is_white_space after ≡ true)
back_left [] = ([], refl, refl)
back_left (b ∷ text) =
    elim (cases_Bool (list_all is_white_space (b ∷ text))) [
      | inl h ↦ rw h (b ∷ text, refl, h)
      | inr h ↦ (let r = back_left text in rw h (r.0, ap (λ t. b ∷ t) r.1, r.2))
    ]

-- a text is what is trimmed with white space around it
pub record IsAround (text mid : List ℕ) : Type 0 where
  pub before : List ℕ
  pub after : List ℕ
  pub spelled : text ≡ before ++ (mid ++ after)
  pub white_before : list_all is_white_space before ≡ true
  pub white_after : list_all is_white_space after ≡ true

pub around_trimmed : (text : List ℕ) → IsAround text (trimmed text)
unfolding trimmed
around_trimmed text =
    let f = front_left text in
    let b = back_left (without_white_front text) in
    record { before = f.0; after = b.0; spelled = f.1 ∙ ap (λ t. f.0 ++ t) b.1; white_before = f.2; white_after = b.2 }

pub digit_plain : (c base : ℕ) → base ≤ 16 → is_digit c base ≡ true → not (is_white_space c) ≡ true
digit_plain c base h d = grind (arith, nat_tests)

pub digits_plain : (base : ℕ) (digits : List ℕ) → base ≤ 16 → all_digits base digits ≡ true → is_plain digits ≡ true
digits_plain base [] h d = refl
digits_plain base (c ∷ digits) h d = let p = all_parts (λ digit. is_digit digit base) c digits d in all_from not_white c digits (digit_plain c base h p.0) (digits_plain base digits h p.1)

pub plain_append : (xs ys : List ℕ) → is_plain xs ≡ true → is_plain ys ≡ true → is_plain (xs ++ ys) ≡ true
plain_append [] ys p q = q
plain_append (x ∷ xs) ys p q = let r = all_parts not_white x xs p in all_from not_white x (xs ++ ys) r.0 (plain_append xs ys r.1 q)
