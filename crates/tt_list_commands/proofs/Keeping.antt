-- Texts that are kept one after another, if there is something in them (concat(n)).
use Rattle.std.proofs.Common.{◌≡◌, ◌∙◌, ℕ, ◌+◌, ◌<◌, List, [], ◌∷◌, ◌++◌, length, get_or, take, map, refl, ap, sym, add-one, append-nil}
use Rattle.std.specs.List.{filter}
use Rattle.std.proofs.Math.Seq.{take-suc}
use Rattle.std.proofs.lemmas.List.{map-append}
use Rattle.std.proofs.lemmas.List.Elements.{filter-append}
use Rattle.tt_number.specs.Numerals.{trimmed}
use Rattle.tt_list_commands.specs.Concatenating.{has_some}

pub is_kept : (old : List (List ℕ)) (text : List ℕ) → (length text ≡ 0 → ⊥) → old ++ text ∷ [] ≡ old ++ filter has_some (text ∷ [])
is_kept old [] some = absurd (some refl)
is_kept old (b ∷ text) some = refl

pub is_left_out : (old : List (List ℕ)) (text : List ℕ) → length text ≡ 0 → old ≡ old ++ filter has_some (text ∷ [])
is_left_out old [] none = sym (append-nil old)
is_left_out old (b ∷ text) none = absurd (cc)

-- the next text is kept or left out
pub keeps_more : (texts : List (List ℕ)) (i : ℕ) (text : List ℕ) (part : List ℕ) (old new : List (List ℕ)) → i < length texts →
    text ≡ get_or texts i text → part ≡ trimmed text → old ≡ filter has_some (map trimmed (take i texts)) →
    new ≡ old ++ filter has_some (part ∷ []) → new ≡ filter has_some (map trimmed (take (i + 1) texts))
keeps_more texts i text part old new within is part_is old_is new_is =
    new_is ∙ ap (λ l. l ++ filter has_some (part ∷ [])) old_is
    ∙ ap (λ p. filter has_some (map trimmed (take i texts)) ++ filter has_some (p ∷ [])) part_is
    ∙ sym (filter-append has_some (map trimmed (take i texts)) (trimmed text ∷ []))
    ∙ ap (filter has_some) (sym (map-append trimmed (take i texts) (text ∷ [])))
    ∙ ap (λ l. filter has_some (map trimmed l)) (sym (ap (λ k. take k texts) (add-one i) ∙ take-suc texts i text within ∙ ap (λ t. take i texts ++ t ∷ []) (sym is)))
