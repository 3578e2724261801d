-- Texts of which each character is one byte.
use Rattle.std.proofs.Common.{◌≡◌, ℕ, zero, suc, ◌≤◌, Bool, true, false, List, [], ◌∷◌, length, take, drop, min, ◌-◌, refl, sym, ap, ◌∙◌, arith}
use Rattle.std.proofs.Math.Seq.{drop-nil}
use Rattle.std.specs.Prelude.{ℤ}
use Rattle.std.proofs.lemmas.List.{drop_min, length-take, length-drop}
use Rattle.tt_text.specs.Characters.{Character, characters, begin_with, continues_character}
use Rattle.tt_strings.specs.Places.{places_before, places_through, range}
use Rattle.tt_strings.proofs.Ranges.{between, front_characters, no_more_characters}

joined_length : (b n : ℕ) (more : List ℕ) (later : List Character) → continues_character n ≡ true →
    length (begin_with b ((n ∷ more) ∷ later)) ≡ suc (length later)
joined_length b n more later e = rw (e, begin_with) refl

apart_cases : (b n : ℕ) (more : List ℕ) (later : List Character) (v : Bool) → continues_character n ≡ v →
    suc (suc (length later)) ≤ length (begin_with b ((n ∷ more) ∷ later)) → begin_with b ((n ∷ more) ∷ later) ≡ (b ∷ []) ∷ (n ∷ more) ∷ later
apart_cases b n more later true e long = absurd (omega (arith, long, joined_length b n more later e))
apart_cases b n more later false e long = rw (e, begin_with)

-- a first byte that makes one character more is that character
apart : (b : ℕ) (later : List Character) → suc (length later) ≤ length (begin_with b later) → begin_with b later ≡ (b ∷ []) ∷ later
apart b [] long = refl
apart b ([] ∷ later) long = absurd (omega (arith, long))
apart b ((n ∷ more) ∷ later) long = apart_cases b n more later (continues_character n) refl long

narrow_drop : (text : List ℕ) (n : ℕ) → length (characters text) ≡ length text → characters (drop n text) ≡ drop n (characters text)
narrow_drop [] n e = ap characters (drop-nil n) ∙ sym (drop-nil n)
narrow_drop (b ∷ text) zero e = refl
narrow_drop (b ∷ text) (suc n) e =
    let long : suc (length (characters text)) ≤ length (begin_with b (characters text)) = omega (arith, e, no_more_characters text) in
    let is : begin_with b (characters text) ≡ (b ∷ []) ∷ characters text = apart b (characters text) long in
    let short : length (characters text) ≡ length text = omega (arith, e, ap length is) in
    narrow_drop text n short ∙ ap (drop (suc n)) (sym is)

-- what is left after so many bytes is what is left after so many characters
pub narrow_rest : (text rest : List ℕ) (count : ℕ) → length (characters text) ≡ length text → rest ≡ drop (min count (length text)) text →
    characters rest ≡ drop count (characters text)
narrow_rest text rest count e is = ap characters (is ∙ drop_min count text) ∙ narrow_drop text count e

-- the same before them

narrow_front : (text front : List ℕ) (m : ℕ) → length (characters text) ≡ length text → m ≤ length text → front ≡ take m text →
    characters front ≡ take m (characters text)
narrow_front text front m e within is =
    let count : length text - length (drop m text) ≡ m = omega (arith, within, length-drop m text) in
    ap characters (is ∙ ap (λ k. take k text) (sym count)) ∙ front_characters text (drop m text) m (narrow_drop text m e)

front_narrow : (text front : List ℕ) (m : ℕ) → length (characters text) ≡ length text → front ≡ take m text →
    characters front ≡ take m (characters text) → length (characters front) ≡ length front
front_narrow text front m e is cut =
    ap length cut ∙ length-take m (characters text) ∙ ap (min m) e ∙ sym (length-take m text) ∙ ap length (sym is)

-- the bytes from one place to another are the characters between them
pub narrow_range : (text front part : List ℕ) (first last : ℤ) (m n : ℕ) → length (characters text) ≡ length text →
    m ≡ min (places_through last) (length text) → n ≡ min (places_before first) (length text) → front ≡ take m text →
    part ≡ drop (min n (length front)) front → characters part ≡ range first last (characters text)
narrow_range text front part first last m n e m_is n_is front_is part_is =
    let within : m ≤ length text = omega (arith, m_is) in
    let cut : characters front ≡ take m (characters text) = narrow_front text front m e within front_is in
    between text front part first last m n m_is n_is cut (narrow_rest front part n (front_narrow text front m e front_is cut) part_is)
