-- Steps of trimming.
use Rattle.std.proofs.Common.{◌≡◌, true, false, List, [], ◌∷◌, ◌++◌, sym, ap, ◌∙◌}
use Rattle.std.specs.Prelude.{reverse}
use Rattle.std.proofs.lemmas.List.{reverse-append, reverse-reverse}
use Rattle.tt_text.specs.Characters.{Character}
use Rattle.tt_strings.specs.Trimming.{is_among, trim_left, trim_right}

left_more : (trimmed : List Character) (c : Character) (rest : List Character) → is_among trimmed c ≡ true →
    trim_left trimmed (c ∷ rest) ≡ trim_left trimmed rest
left_more trimmed c rest e = rw (e, trim_left)

left_end : (trimmed : List Character) (c : Character) (rest : List Character) → is_among trimmed c ≡ false → trim_left trimmed (c ∷ rest) ≡ c ∷ rest
left_end trimmed c rest e = rw (e, trim_left)

-- a first character that is left out
pub left_out : (trimmed text : List Character) (c : Character) (rest : List Character) → text ≡ c ∷ rest → is_among trimmed c ≡ true →
    trim_left trimmed text ≡ trim_left trimmed rest
left_out trimmed text c rest e h = ap (trim_left trimmed) e ∙ left_more trimmed c rest h

-- a first character that stays
pub left_stays : (trimmed text : List Character) (c : Character) (rest : List Character) → text ≡ c ∷ rest → is_among trimmed c ≡ false →
    trim_left trimmed text ≡ text
left_stays trimmed text c rest e h = ap (trim_left trimmed) e ∙ left_end trimmed c rest h ∙ sym e

-- a last character that is left out
pub right_out : (trimmed text front : List Character) (c : Character) → text ≡ front ++ c ∷ [] → is_among trimmed c ≡ true →
    trim_right trimmed text ≡ trim_right trimmed front
right_out trimmed text front c e h =
    ap (λ t. reverse (trim_left trimmed (reverse t))) e ∙ ap (λ t. reverse (trim_left trimmed t)) (reverse-append front (c ∷ []))
    ∙ ap reverse (left_more trimmed c (reverse front) h)

-- a last character that stays
pub right_stays : (trimmed text front : List Character) (c : Character) → text ≡ front ++ c ∷ [] → is_among trimmed c ≡ false → trim_right trimmed text ≡ text
right_stays trimmed text front c e h =
    ap (λ t. reverse (trim_left trimmed (reverse t))) e ∙ ap (λ t. reverse (trim_left trimmed t)) (reverse-append front (c ∷ []))
    ∙ ap reverse (left_end trimmed c (reverse front) h) ∙ ap reverse (sym (reverse-append front (c ∷ []))) ∙ reverse-reverse (front ++ c ∷ []) ∙ sym e
