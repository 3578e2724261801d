-- A text cut before its last character.
use Rattle.std.proofs.Common.{◌≡◌, ℕ, zero, suc, ◌+◌, ◌<◌, true, false, List, [], ◌∷◌, ◌++◌, length, take, drop, get_or, sym, ap, ap₂, ◌∙◌, arith}
use Rattle.std.specs.List.{AllByRecursion}
use Rattle.std.specs.Prelude.{IsTrue}
use Rattle.std.proofs.lemmas.List.{take-append-drop, get_or-drop, length-drop}
use Rattle.tt_text.specs.Characters.{characters, continues_character, IsCharacter}
use Rattle.tt_strings.specs.inside.Ends.{IsLastStart}
use Rattle.tt_strings.proofs.Cuts.{Begins, append_fresh, fresh_of, one_of}

all_from_reads : (P : ℕ → Type 0) (xs : List ℕ) → ((k : ℕ) → k < length xs → P (get_or xs k 0)) → AllByRecursion P xs
all_from_reads P [] h = tt
all_from_reads P (x ∷ xs) h =
    (h 0 (omega arith), all_from_reads P xs (λ k less. h (suc k) (omega arith)))

goes_on_from : (b : ℕ) (more : List ℕ) → ((k : ℕ) → 0 < k → k < length (b ∷ more) → continues_character (get_or (b ∷ more) k 0) ≡ true) → IsCharacter (b ∷ more)
goes_on_from b more h = all_from_reads (λ c. IsTrue (continues_character c)) more (λ k less. h (suc k) (omega arith) (omega arith))

one_from : (text : List ℕ) → 0 < length text → ((k : ℕ) → 0 < k → k < length text → continues_character (get_or text k 0) ≡ true) → IsCharacter text
one_from [] some h = absurd (omega arith)
one_from (b ∷ more) some h = goes_on_from b more h

begins_from : (text : List ℕ) → continues_character (get_or text 0 0) ≡ false → Begins text
begins_from [] h = tt
begins_from (b ∷ more) h = h

last_read : (text : List ℕ) (start k : ℕ) → get_or (drop start text) k 0 ≡ get_or text (start + k) 0
last_read text start k = get_or-drop start text k 0

last_one : (text : List ℕ) (start : ℕ) → start < length text → IsLastStart text start → characters (drop start text) ≡ drop start text ∷ []
last_one text start within h =
    one_of (drop start text) (one_from (drop start text) (omega (arith, length-drop start text)) (λ k some less.
    ap continues_character (last_read text start k) ∙ h.goes_on (start + k) (omega arith) (omega (arith, length-drop start text))))

-- the characters before the last one, and that
pub last_cut : (text front last : List ℕ) (start : ℕ) → front ≡ take start text → last ≡ drop start text → start < length text → IsLastStart text start
    → characters text ≡ characters front ++ last ∷ []
last_cut text front last zero e f within h =
    last_one text zero within h ∙ ap₂ (λ a b. characters a ++ b ∷ []) (sym e) (sym f)
last_cut text front last (suc start) e f within h =
    let begins : continues_character (get_or (drop (suc start) text) 0 0) ≡ false =
    ap continues_character (last_read text (suc start) 0 ∙ ap (λ k. get_or text k 0) (omega arith)) ∙ h.begins (omega arith) in
    ap characters (sym (take-append-drop (suc start) text))
    ∙ append_fresh (take (suc start) text) (drop (suc start) text) (fresh_of (drop (suc start) text) (begins_from (drop (suc start) text) begins))
    ∙ ap (λ l. characters (take (suc start) text) ++ l) (last_one text (suc start) within h)
    ∙ ap₂ (λ a b. characters a ++ b ∷ []) (sym e) (sym f)
