-- What the readers count stands in the grammar: gaps, comments and what is skipped.
use Rattle.std.proofs.Common.{◌≡◌, ℕ, zero, suc, Bool, true, false, ◌==◌, ◌&&◌, ◌||◌, List, [], ◌∷◌, drop, refl, ap, sym, ◌∙◌, subst}
use Rattle.std.proofs.lemmas.Bool.{eqb-true, eqb-false}
use Rattle.tt_text.specs.Characters.{is_white_space, is_blank}
use Rattle.tt_script.specs.Reading.{begins, continues_line, gap, comment, skipped}
use Rattle.tt_script.specs.Grammar.{begins_gap, IsGap, gap_ends, gap_blank, gap_line, IsComment, comment_ends}
use Rattle.tt_script.specs.Grammar.{comment_newline, comment_byte, comment_escape, comment_last, begins_skipped}
use Rattle.tt_script.specs.Grammar.{IsSkipped, skip_ends, skip_separator, skip_line, skip_comment}
use Rattle.tt_script.proofs.Scanning.{gap-blank, gap-line, gap-none, comment-letter, comment-escape, comment-newline}
use Rattle.tt_script.proofs.Scanning.{skipped-space, skipped-line, skipped-comment, skipped-none}
use Rattle.tt_script.proofs.Cuts.{escaped-one, no_comment}

and_both : (p q : Bool) → p && q ≡ true → (p ≡ true) × (q ≡ true)
and_both true q e = (refl, e)
and_both false q e = cc

pub or_both : (p q : Bool) → p ≡ false → q ≡ false → p || q ≡ false
or_both p q e f = rw (e, f)

pub drop_none : (k : ℕ) → ◌≡◌ {A = List ℕ} (drop k []) []
drop_none zero = refl
drop_none (suc k) = refl

gap_passed : (k : ℕ) → gap k [] ≡ k
unfolding gap
gap_passed k = refl

gap-passes_one : (k b : ℕ) (text : List ℕ) → gap (suc k) (b ∷ text) ≡ suc (gap k text)
unfolding gap
gap-passes_one k b text = refl

-- a backslash-newline at the front
line_front : (b : ℕ) (text : List ℕ) → continues_line b text ≡ true → (b ≡ 92) × (c : ℕ) × (rest : List ℕ) × (text ≡ c ∷ rest) × (c ≡ 10)
line_front b [] e = let both = and_both (b == 92) (begins 10 []) e in cc
line_front b (c ∷ rest) e = let both = and_both (b == 92) (c == 10) e in (eqb-true b 92 both.0, c, rest, refl, eqb-true c 10 both.1)

pub gap_is : (k : ℕ) (text : List ℕ) → IsGap (drop k text) (drop (gap k text) text)
gap_is k [] = subst (λ n. IsGap (drop k []) (drop n [])) (sym (gap_passed k)) (subst (λ t. IsGap t t) (sym (drop_none k)) (gap_ends refl))
gap_is (suc k) (b ∷ text) = subst (λ n. IsGap (drop k text) (drop n (b ∷ text))) (sym (gap-passes_one k b text)) (gap_is k text)
gap_is zero (b ∷ text) = go (is_blank b) (continues_line b text) refl refl (gap_is 0 text) (gap_is 1 text)
  where
    go : (v w : Bool) → is_blank b ≡ v → continues_line b text ≡ w → IsGap text (drop (gap 0 text) text) → IsGap (drop 1 text) (drop (gap 1 text) text) →
        IsGap (b ∷ text) (drop (gap 0 (b ∷ text)) (b ∷ text))
    go true w e f one two = subst (λ n. IsGap (b ∷ text) (drop n (b ∷ text))) (sym (gap-blank b text e)) (gap_blank e one)
    go false true e f one two =
        let line = line_front b text f in
        let whole : IsGap (b ∷ text) (drop (gap 1 text) text) =
        subst (λ t. IsGap (b ∷ t) (drop (gap 1 text) text)) (sym line.3)
        (gap_line line.0 line.4 (subst (λ t. IsGap (drop 1 t) (drop (gap 1 text) text)) line.3 two)) in
        subst (λ n. IsGap (b ∷ text) (drop n (b ∷ text))) (sym (gap-line b text e f)) whole
    go false false e f one two = subst (λ n. IsGap (b ∷ text) (drop n (b ∷ text))) (sym (gap-none b text e f)) (gap_ends (or_both _ _ e f))

pub gap_end-none : {text rest : List ℕ} → IsGap text rest → begins_gap rest ≡ false
gap_end-none (gap_ends e) = e
gap_end-none (gap_blank e g) = gap_end-none g
gap_end-none (gap_line e f g) = gap_end-none g

pub comment_is : (text : List ℕ) → IsComment text (drop (comment false text) text)
comment_is [] = subst (λ n. IsComment [] (drop n [])) (sym (no_comment false)) comment_ends
comment_is (b ∷ []) = go (b == 10) (b == 92) refl refl
  where
    go : (v w : Bool) → (b == 10) ≡ v → (b == 92) ≡ w → IsComment (b ∷ []) (drop (comment false (b ∷ [])) (b ∷ []))
    go true w e f = subst (λ n. IsComment (b ∷ []) (drop n (b ∷ []))) (sym (comment-newline b [] e)) (comment_newline (eqb-true b 10 e))
    go false true e f =
        subst (λ n. IsComment (b ∷ []) (drop n (b ∷ []))) (sym (comment-escape b [] e f ∙ ap suc (no_comment true))) (comment_last (eqb-true b 92 f))
    go false false e f =
        subst (λ n. IsComment (b ∷ []) (drop n (b ∷ []))) (sym (comment-letter b [] e f ∙ ap suc (no_comment false)))
        (comment_byte (eqb-false b 10 e) (eqb-false b 92 f) comment_ends)
comment_is (b ∷ c ∷ text) = go (b == 10) (b == 92) refl refl (comment_is (c ∷ text)) (comment_is text)
  where
    go : (v w : Bool) → (b == 10) ≡ v → (b == 92) ≡ w → IsComment (c ∷ text) (drop (comment false (c ∷ text)) (c ∷ text)) →
        IsComment text (drop (comment false text) text) → IsComment (b ∷ c ∷ text) (drop (comment false (b ∷ c ∷ text)) (b ∷ c ∷ text))
    go true w e f one two =
        subst (λ n. IsComment (b ∷ c ∷ text) (drop n (b ∷ c ∷ text))) (sym (comment-newline b (c ∷ text) e)) (comment_newline (eqb-true b 10 e))
    go false true e f one two =
        subst (λ n. IsComment (b ∷ c ∷ text) (drop n (b ∷ c ∷ text))) (sym (comment-escape b (c ∷ text) e f ∙ ap suc (escaped-one c text)))
        (comment_escape (eqb-true b 92 f) two)
    go false false e f one two =
        subst (λ n. IsComment (b ∷ c ∷ text) (drop n (b ∷ c ∷ text))) (sym (comment-letter b (c ∷ text) e f))
        (comment_byte (eqb-false b 10 e) (eqb-false b 92 f) one)

skipped_passed : (k : ℕ) → skipped k [] ≡ k
unfolding skipped
skipped_passed k = refl

skipped-passes_one : (k b : ℕ) (text : List ℕ) → skipped (suc k) (b ∷ text) ≡ suc (skipped k text)
unfolding skipped
skipped-passes_one k b text = refl

pub skipped_is : (k : ℕ) (text : List ℕ) → IsSkipped (drop k text) (drop (skipped k text) text)
skipped_is k [] = subst (λ n. IsSkipped (drop k []) (drop n [])) (sym (skipped_passed k)) (subst (λ t. IsSkipped t t) (sym (drop_none k)) (skip_ends refl))
skipped_is (suc k) (b ∷ text) = subst (λ n. IsSkipped (drop k text) (drop n (b ∷ text))) (sym (skipped-passes_one k b text)) (skipped_is k text)
skipped_is zero (b ∷ text) =
    go (is_white_space b || b == 59) (continues_line b text) (b == 35) refl refl refl (skipped_is 0 text) (skipped_is 1 text)
    (skipped_is (comment false text) text)
  where
    go : (u v w : Bool) → is_white_space b || b == 59 ≡ u → continues_line b text ≡ v → (b == 35) ≡ w → IsSkipped text (drop (skipped 0 text) text) →
        IsSkipped (drop 1 text) (drop (skipped 1 text) text) → IsSkipped (drop (comment false text) text) (drop (skipped (comment false text) text) text) →
        IsSkipped (b ∷ text) (drop (skipped 0 (b ∷ text)) (b ∷ text))
    go true v w e f g one two three = subst (λ n. IsSkipped (b ∷ text) (drop n (b ∷ text))) (sym (skipped-space b text e)) (skip_separator e one)
    go false true w e f g one two three =
        let line = line_front b text f in
        let whole : IsSkipped (b ∷ text) (drop (skipped 1 text) text) =
        subst (λ t. IsSkipped (b ∷ t) (drop (skipped 1 text) text)) (sym line.3)
        (skip_line line.0 line.4 (subst (λ t. IsSkipped (drop 1 t) (drop (skipped 1 text) text)) line.3 two)) in
        subst (λ n. IsSkipped (b ∷ text) (drop n (b ∷ text))) (sym (skipped-line b text e f)) whole
    go false false true e f g one two three =
        subst (λ n. IsSkipped (b ∷ text) (drop n (b ∷ text))) (sym (skipped-comment b text e f g)) (skip_comment (eqb-true b 35 g) (comment_is text) three)
    go false false false e f g one two three =
        subst (λ n. IsSkipped (b ∷ text) (drop n (b ∷ text))) (sym (skipped-none b text e f g)) (skip_ends (or_both _ _ (or_both _ _ e f) g))

pub skipped_end-none : {text rest : List ℕ} → IsSkipped text rest → begins_skipped rest ≡ false
skipped_end-none (skip_ends e) = e
skipped_end-none (skip_separator e s) = skipped_end-none s
skipped_end-none (skip_line e f s) = skipped_end-none s
skipped_end-none (skip_comment e c s) = skipped_end-none s
