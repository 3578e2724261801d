-- The search for the brace that closes, byte by byte.
use Rattle.std.proofs.Common.{◌≡◌, ◌≢◌, ℕ, zero, suc, ◌+◌, ◌-◌, ◌<◌, ◌≤◌, Bool, true, false, ◌==◌, List, [], ◌∷◌, ◌++◌}
use Rattle.std.proofs.Common.{◌&&◌, append-nil, length-append, length, get_or, drop, Option, Some, None, refl, sym, ap}
use Rattle.std.proofs.Common.{◌∙◌, inl, inr, arith, drop-drop, add-zero}
use Rattle.std.proofs.lemmas.Bool.{cases_eq, ne_eqb}
use Rattle.std.proofs.lemmas.List.{drop_more, drop_all}
use Rattle.std.proofs.Math.Seq.{drop-append_seam}
use Rattle.tt_text.specs.inside.BraceScan.{IsScan}
use Rattle.tt_text.specs.declared.braces.Scan.TheVariants.{Closes, Ends}
use Rattle.tt_text.specs.Braces.{is_balanced, closing_brace, matching_brace, further, mark_of, Letter}

further_twice : (m n : ℕ) (o : Option ℕ) → further m (further n o) ≡ further (m + n) o
further_twice m n None = refl
further_twice m n (Some k) = ap Some (omega arith)

-- ---- a byte at the front

front_opens : (b depth : ℕ) (text : List ℕ) → b ≡ 123 → closing_brace false depth (b ∷ text) ≡ further 1 (closing_brace false (suc depth) text)
front_opens b zero text e = rw e
front_opens b (suc depth) text e = rw e

front_closes : (b depth : ℕ) (text : List ℕ) → b ≡ 125 → closing_brace false (suc depth) (b ∷ text) ≡ further 1 (closing_brace false depth text)
front_closes b depth text e = rw e

front_closes_last : (b : ℕ) (text : List ℕ) → b ≡ 125 → closing_brace false 0 (b ∷ text) ≡ Some 0
front_closes_last b text e = rw e

front_escapes : (b depth : ℕ) (text : List ℕ) → b ≡ 92 → closing_brace false depth (b ∷ text) ≡ further 1 (closing_brace true depth text)
front_escapes b zero text e = rw e
front_escapes b (suc depth) text e = rw e

mark_of-letter : (b : ℕ) → b ≢ 123 → b ≢ 125 → b ≢ 92 → mark_of b ≡ Letter
mark_of-letter b e f g = rw (ne_eqb b 123 e, ne_eqb b 125 f, ne_eqb b 92 g)

front_letter : (b depth : ℕ) (text : List ℕ) → b ≢ 123 → b ≢ 125 → b ≢ 92 → closing_brace false depth (b ∷ text) ≡ further 1 (closing_brace false depth text)
front_letter b zero text e f g = rw (mark_of-letter b e f g, closing_brace)
front_letter b (suc depth) text e f g = rw (mark_of-letter b e f g, closing_brace)

-- ---- a byte at a place

here : (text : List ℕ) (at depth : ℕ) → at < length text →
    further at (closing_brace false depth (drop at text)) ≡ further at (closing_brace false depth (get_or text at 0 ∷ drop (at + 1) text))
here text at depth within = ap (λ t. further at (closing_brace false depth t)) (drop_more text at 0 within)

pub opens : (text : List ℕ) (at depth : ℕ) → at < length text → get_or text at 0 ≡ 123 →
    further at (closing_brace false depth (drop at text)) ≡ further (at + 1) (closing_brace false (depth + 1) (drop (at + 1) text))
opens text at depth within e =
    here text at depth within ∙ ap (further at) (front_opens (get_or text at 0) depth (drop (at + 1) text) e)
    ∙ further_twice at 1 (closing_brace false (suc depth) (drop (at + 1) text))
    ∙ ap (λ d. further (at + 1) (closing_brace false d (drop (at + 1) text))) (omega arith)

pub closes_inner : (text : List ℕ) (at depth : ℕ) → at < length text → get_or text at 0 ≡ 125 → depth ≢ 0 →
    further at (closing_brace false depth (drop at text)) ≡ further (at + 1) (closing_brace false (depth - 1) (drop (at + 1) text))
closes_inner text at zero within e deep = absurd (deep refl)
closes_inner text at (suc depth) within e deep =
    here text at (suc depth) within ∙ ap (further at) (front_closes (get_or text at 0) depth (drop (at + 1) text) e)
    ∙ further_twice at 1 (closing_brace false depth (drop (at + 1) text))
    ∙ ap (λ d. further (at + 1) (closing_brace false d (drop (at + 1) text))) (omega arith)

pub closes_outer : (text : List ℕ) (at : ℕ) → at < length text → get_or text at 0 ≡ 125 → further at (closing_brace false 0 (drop at text)) ≡ Some at
closes_outer text at within e = here text at 0 within ∙ ap (further at) (front_closes_last (get_or text at 0) (drop (at + 1) text) e) ∙ ap Some (omega arith)

after_escape : (at depth : ℕ) (text : List ℕ) → further at (closing_brace true depth text) ≡ further (at + 1) (closing_brace false depth (drop 1 text))
after_escape at depth [] = refl
after_escape at depth (b ∷ text) = further_twice at 1 (closing_brace false depth text)

pub escapes : (text : List ℕ) (at depth : ℕ) → at < length text → get_or text at 0 ≡ 92 →
    further at (closing_brace false depth (drop at text)) ≡ further (at + 1 + 1) (closing_brace false depth (drop (at + 1 + 1) text))
escapes text at depth within e =
    here text at depth within ∙ ap (further at) (front_escapes (get_or text at 0) depth (drop (at + 1) text) e)
    ∙ further_twice at 1 (closing_brace true depth (drop (at + 1) text)) ∙ after_escape (at + 1) depth (drop (at + 1) text)
    ∙ ap (λ t. further (at + 1 + 1) (closing_brace false depth t)) (drop-drop 1 (at + 1) text)

pub letter : (text : List ℕ) (at depth : ℕ) → at < length text → get_or text at 0 ≢ 123 → get_or text at 0 ≢ 125 → get_or text at 0 ≢ 92 →
    further at (closing_brace false depth (drop at text)) ≡ further (at + 1) (closing_brace false depth (drop (at + 1) text))
letter text at depth within e f g =
    here text at depth within ∙ ap (further at) (front_letter (get_or text at 0) depth (drop (at + 1) text) e f g)
    ∙ further_twice at 1 (closing_brace false depth (drop (at + 1) text))

pub ends : (text : List ℕ) (at depth : ℕ) → length text ≤ at → further at (closing_brace false depth (drop at text)) ≡ None
ends text at depth past = ap (λ t. further at (closing_brace false depth t)) (drop_all at text past)

pub begins : (text : List ℕ) → matching_brace text ≡ further 0 (closing_brace false 0 (drop 0 text))
begins text = zero_further (matching_brace text)
  where
    zero_further : (o : Option ℕ) → o ≡ further 0 o
    zero_further None = refl
    zero_further (Some k) = ap Some (omega arith)

pub moved : (text : List ℕ) (at depth to deep : ℕ) → to ≡ at → deep ≡ depth →
    further (at + 1) (closing_brace false depth (drop (at + 1) text)) ≡ further (to + 1) (closing_brace false deep (drop (to + 1) text))
moved text at depth to deep e f = cc

-- ---- how the search ends

pub closes_alone : (text : List ℕ) (place : ℕ) → IsScan text (Closes place) → matching_brace text ≡ Some place
closes_alone text place h = ap matching_brace (sym (append-nil text)) ∙ h.1 []

pub ends_alone : (text : List ℕ) (depth at : ℕ) → IsScan text (Ends depth at) → matching_brace text ≡ None
ends_alone text depth at h = ap matching_brace (sym (append-nil text)) ∙ h.2 [] ∙ ends (text ++ []) at depth (omega (arith, h.0, ap length (append-nil text)))

-- whether the brace after a text is the one that matches
abbrev is_last : ℕ → Option ℕ → Bool
is_last long (Some n) = n == long
is_last long None = false

pub closes_within : (text : List ℕ) (place : ℕ) → IsScan text (Closes place) → is_balanced text ≡ false
closes_within text place h = ap (is_last (length text)) (h.1 (125 ∷ [])) ∙ ne_eqb place (length text) (omega (arith, h.0))

pub ends_balanced : (text : List ℕ) (depth at : ℕ) → IsScan text (Ends depth at) → is_balanced text ≡ ((depth == 0) && (at == length text))
ends_balanced text depth at h =
    ap (is_last (length text)) (h.2 (125 ∷ []))
    ∙ elim (cases_eq at (length text)) [
      | inl e ↦ ap (λ t. is_last (length text) (further at (closing_brace false depth t)))
          (ap (λ n. drop n (text ++ (125 ∷ []))) e ∙ drop-append_seam text (125 ∷ [])) ∙ at_end depth e
      | inr e ↦ ap (λ t. is_last (length text) (further at (closing_brace false depth t)))
          (drop_all at (text ++ (125 ∷ [])) (omega (arith, h.0, length-append text (125 ∷ []))))
          ∙ sym (rw (ne_eqb at (length text) e) (and_false (depth == 0)))
    ]
  where
    and_false : (b : Bool) → (b && false) ≡ false
    and_false true = refl
    and_false false = refl

    at_end : (depth : ℕ) → at ≡ length text → is_last (length text) (further at (closing_brace false depth (125 ∷ []))) ≡ ((depth == 0) && (at == length text))
    at_end zero e = ap (λ n. n == length text) (add-zero at)
    at_end (suc depth) e = rw (ne_eqb (suc depth) 0 (omega arith)) refl
